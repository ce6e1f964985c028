use native.Mathlib.Omega.{arith}
use Rattle.language.specs.Struct.{kid_at}
use Rattle.language.proofs.Node.child.Goals as goal

pub returns : goal.returns
returns c = kid_at _ _ (omega arith)
