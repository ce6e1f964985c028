use Rattle.std.proofs.Common.{rules, subst}
use Rattle.broken.specs.Words.{error_is}
use Rattle.egraph.specs.Adds.{UncanonicalOpen, gate_head, adding_no, adding_on}
use Rattle.egraph.proofs.adds.add_uncanonical.Goals as goal

pub returns-in_err-h : goal.returns-in_err-h
returns-in_err-h c = rw (error_is _ _ c.from_residual.ensures.1) (adding_no _ _ _ _ c.enter.ensures _ c.in_err-h.was)

pub uncanonical_open-requires : goal.uncanonical_open-requires
uncanonical_open-requires c = let g = gate_head _ _ _ c.enter.ensures _ _ c.in_ok-h.was in record { head_is = g.0; known = g.2 }

pub returns : goal.returns
returns c =
    let e = (gate_head _ _ _ c.enter.ensures _ _ c.in_ok-h.was).1 in
    adding_on _ _ _ _ c.enter.ensures _ _ c.in_ok-h.was _ _ (subst (UncanonicalOpen _ _ _) (search rules) (rw e at c.uncanonical_open.ensures.says))
