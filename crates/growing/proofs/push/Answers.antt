use native.Mathlib.Omega.{arith}
use Rattle.growing.specs.Push.{push_done}
use Rattle.layout.specs.Did.{did_as}
use Rattle.growing.proofs.push.Goals as goal

pub returns : goal.returns
returns c = let p = c.push_one.ensures in did_as p (push_done _ _ _ _ (omega arith) p.did)
