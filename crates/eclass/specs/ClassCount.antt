-- How many members the lists of the first k ids have in all, as the length words say.
-- Assumes nothing.
use Rattle.std.specs.Prelude.{List, ◌≡◌, refl, ◌+◌, ◌<◌, ◌≤◌, suc, zero, ℕ}
use Rattle.std.proofs.Math.Decide.{dec_lt}
use Rattle.std.proofs.Common.{add-one, arith}
use Rattle.lists.specs.Keeps.{upto}
use Rattle.lists.specs.Sums.{sum_more, sum_of}
use Rattle.eclass.specs.ClassWalk.{len_of}

unfoldable pub total_of : List ℕ → ℕ → ℕ → ℕ
total_of ms n k = sum_of (len_of ms n) (upto k)

pub total_none : (ms : List ℕ) (n : ℕ) → 0 ≡ total_of ms n 0
unfolding total_of sum_of upto
total_none ms n = refl

total_suc : (ms : List ℕ) (n k : ℕ) → total_of ms n (suc k) ≡ total_of ms n k + len_of ms n k
unfolding total_of upto
total_suc ms n k = sum_more (len_of ms n) (upto k) k

pub total_more : (ms : List ℕ) (n k : ℕ) → total_of ms n (k + 1) ≡ total_of ms n k + len_of ms n k
total_more ms n k = rw (add-one k) (total_suc ms n k)

-- a longer row of lists has no fewer members
pub total_le : (ms : List ℕ) (n k i : ℕ) → i ≤ k → total_of ms n i ≤ total_of ms n k
total_le ms n zero i h = let e : i ≡ 0 = omega arith in rw e (omega arith)
total_le ms n (suc k) i h = go (dec_lt i (suc k)) (total_le ms n k i)
  where
    go : Dec (i < suc k) → (i ≤ k → total_of ms n i ≤ total_of ms n k) → total_of ms n i ≤ total_of ms n (suc k)
    go (yes l) ih = let a = ih (omega arith) in omega (arith, total_suc ms n k)
    go (no l) ih = let e : i ≡ suc k = omega arith in rw e (omega arith)
