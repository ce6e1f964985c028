use native.Mathlib.Omega.{arith}
use Rattle.pending.specs.Promise.{pushes}
use Rattle.pending.proofs.push.Goals as goal

pub returns : goal.returns
returns c = pushes _ _ _ _ (omega arith)
