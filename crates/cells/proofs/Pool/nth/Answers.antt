use native.Mathlib.Omega.{arith}
use Rattle.cells.specs.Reading.{reach_far, reach_stray, reach}
use Rattle.cells.proofs.Pool.nth.Goals as goal

pub returns-then-k-self : goal.returns-then-k-self
returns-then-k-self c = reach_far _ _ _ _ _ c.requires (omega arith)

pub returns-then-end-self : goal.returns-then-end-self
returns-then-end-self c = reach_stray _ _ _ _ _ c.requires (omega (arith, c.len.ensures.exact)) (omega (arith, c.last-end.ensures.exact))

pub returns : goal.returns
returns c = reach _ _ _ _ _ c.requires _ (omega (arith, c.len.ensures.exact)) (omega arith) (omega (arith, c.last-end.ensures.exact))
    (rw c.last-end.ensures.exact at c.walk.ensures)
