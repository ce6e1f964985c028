use mathlib.Core.Path.{sym, refl, ◌∙◌}
use native.Mathlib.Omega.{arith}
use Rattle.sorting.specs.Did.{did_none}
use Rattle.sorting.specs.Run.{pair_less, pair_equal, pair_greater}
use Rattle.sorting.proofs.Work.sort_two.Goals as goal

pub returns-in-Less : goal.returns-in-Less
returns-in-Less c = did_none (pair_less _ _ _ _ (sym c.compare.ensures ∙ c.in-Less.is))

pub returns-in-Equal : goal.returns-in-Equal
returns-in-Equal c = did_none (pair_equal _ _ _ _ (sym c.compare.ensures ∙ c.in-Equal.is))

pub returns-in-Greater : goal.returns-in-Greater
returns-in-Greater c = rw (c.swap.ensures.by_index.3 0) record {
  loan = refl;
  n = refl;
  m = refl;
  did = pair_greater _ _ _ _ (omega arith) (omega arith) (sym c.compare.ensures ∙ c.in-Greater.is);
}
