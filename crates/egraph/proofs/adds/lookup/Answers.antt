use Rattle.broken.specs.Words.{error_is}
use Rattle.egraph.specs.Adds.{gate_head, lookup_no, lookup_on}
use Rattle.egraph.proofs.adds.lookup.Goals as goal

pub returns-in_err-h : goal.returns-in_err-h
returns-in_err-h c = rw (error_is _ _ c.from_residual.ensures.1) (lookup_no _ _ _ c.enter.ensures _ c.in_err-h.was)

pub lookup_open-requires : goal.lookup_open-requires
lookup_open-requires c = let g = gate_head _ _ _ c.enter.ensures _ _ c.in_ok-h.was in record { head_stands = g.0; known = g.2 }

pub returns : goal.returns
returns c = lookup_on _ _ _ c.enter.ensures _ _ c.in_ok-h.was _ c.lookup_open.ensures
