use native.Mathlib.Omega.{arith}
use Rattle.cells.specs.Trail.{turn_on, turn_off, turn_end}
use Rattle.cells.proofs.Pool.walk.Goals as goal

pub returns-then-x-self : goal.returns-then-x-self
returns-then-x-self c = turn_off _ _ _ _ _ _ _ c.loop-taken.invariant.1 (omega arith) (omega (arith, c.link-x.ensures.exact))

pub loop-taken-preserved : goal.loop-taken-preserved
loop-taken-preserved c = rw c.link-x.ensures.exact (omega (arith, c.link-x.ensures.exact), turn_on _ _ _ _ _ _ _ c.loop-taken.invariant.1 (omega arith) (omega (arith, c.link-x.ensures.exact)))

pub returns : goal.returns
returns c = turn_end _ _ _ _ _ _ _ c.loop-taken.invariant.1 (omega arith)
