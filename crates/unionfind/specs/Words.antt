-- The walks of a union-find on its words, whatever these are: where links lead, what `find` answers, what `find_mut` answers and leaves.
-- Assumes nothing.
use Rattle.std.specs.Prelude.{Err, Ok, Result, List, ℕ, zero, suc, set}
use Rattle.broken.specs.declared.Broken.{Broken}
use Rattle.broken.specs.Words.{broken}
use Rattle.std.proofs.Math.Decide.{ℕ_discrete, dec_lt}
use Rattle.lists.specs.Reads.{at}
use Rattle.lists.specs.Tests.{when}

-- where k links lead from i
abbrev pub walk : List ℕ → ℕ → ℕ → ℕ
walk ps zero i = i
walk ps (suc k) i = walk ps k (at ps i)

-- what `find` answers for i among N ids, if it may follow f links more
unfoldable pub find_in : List ℕ → ℕ → ℕ → ℕ → Result ℕ Broken
find_in ps N zero i = broken
find_in ps N (suc f) i =
    when (ℕ_discrete (at ps i) i) (Ok i)
    (when (dec_lt (at ps i) N) (find_in ps N f (at ps i)) broken)

-- what `find_mut` answers, and the words that it leaves
pub record Halved : Type 0 where
  pub answer : Result ℕ Broken
  pub left : List ℕ

unfoldable pub halve : List ℕ → ℕ → ℕ → ℕ → Halved
halve ps N zero i = record { answer = (Err _); left = ps }
halve ps N (suc f) i =
    when (ℕ_discrete (at ps i) i) (record { answer = Ok i; left = ps })
    (when (dec_lt (at ps i) N)
    (when (dec_lt (at ps (at ps i)) N)
    (halve (set ps i (at ps (at ps i))) N f (at ps (at ps i)))
    (record { answer = broken; left = ps }))
    (record { answer = broken; left = ps }))
