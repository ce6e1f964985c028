use mathlib.Core.Path.{refl}
use native.Mathlib.Omega.{arith}
use Rattle.unionfind.specs.Changes.{new_forest}
use Rattle.unionfind.proofs.make_set.Goals as goal

pub returns : goal.returns
returns c = record { exact = refl; law = λ C R F. new_forest F (omega arith) }
