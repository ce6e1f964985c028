use mathlib.Core.Path.{refl}
use Rattle.unionfind.specs.Changes.{joined_forest}
use Rattle.unionfind.proofs.union.Goals as goal

pub returns : goal.returns
returns c = record {
  exact = refl;
  law = λ N C D R F one low1 low2 apart own1 own2. joined_forest F _ _ low1 low2 apart own1 own2 D one;
}
