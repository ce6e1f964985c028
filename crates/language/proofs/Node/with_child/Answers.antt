use native.Mathlib.Omega.{arith}
use mathlib.Core.Path.{refl}
use Rattle.language.specs.Struct.{node_of_set}
use Rattle.language.proofs.Node.with_child.Goals as goal

pub returns : goal.returns
returns c = (refl, node_of_set _ _ _ (omega arith))
