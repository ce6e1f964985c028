-- What `sort` promises: for any words, whether it sorts, and then which ids are left of the k at the start of the work area.
-- Assumes nothing.
use Rattle.std.specs.Prelude.{Ok, Result, List, map, ◌≡◌, refl, ◌+◌, ◌<◌, ◌≤◌, ℕ, drop, length, take}
use Rattle.broken.specs.declared.Broken.{Broken}
use Rattle.broken.specs.Words.{broken}
use Rattle.std.proofs.Common.{arith}
use Rattle.lists.specs.Members.{Mem}
use Rattle.lists.specs.Reads.{at}
use Rattle.language.specs.Sorted.{sorted}
use Rattle.rows.specs.Rows.{size}
use Rattle.lists.specs.Parts.{take_same}
use Rattle.lists.specs.Tests.{zero_one}
use Rattle.sorting.specs.Ids.{Below, below_from, key_of}
use Rattle.sorting.specs.Keyed.{arranged_keys}
use Rattle.sorting.specs.Run.{Area, Ran}
use Rattle.sorting.specs.Stretch.{stretch, stretch_part}

-- d ids are left of the k: their keys are the keys of the k, sorted by node order, each once
pub record Done (ws ws' : List ℕ) (n m k d : ℕ) : Type 0 where
  pub few : d ≤ k
  pub below : (p : ℕ) → p < d → at ws' (size n m + p) < n
  pub keys : map (key_of ws n m) (take d (drop (size n m) ws')) ≡ sorted (map (key_of ws n m) (take k (drop (size n m) ws)))
  pub from : (z : ℕ) → Mem z (take d (drop (size n m) ws')) → Mem z (take k (drop (size n m) ws))

pub record Sorts (ws ws' : List ℕ) (n m k : ℕ) (r : Result ℕ Broken) : Type 0 where
  pub kept_length : length ws' ≡ length ws
  pub rows : take (size n m) ws' ≡ take (size n m) ws
  pub ids : ((p : ℕ) → p < k → at ws (size n m + p) < n) → (d : ℕ) × (r ≡ Ok d)
  pub no_id : (p : ℕ) → p < k → n ≤ at ws (size n m + p) → r ≡ broken
  pub done : (d : ℕ) → r ≡ Ok d → Done ws ws' n m k d
  pub broken : r ≡ broken → ws' ≡ ws

module _ (ws : List ℕ) (n m k : ℕ) where
  pub whole_area : length ws ≡ size n m + n + n → k ≤ n → Below ws n (size n m) k → Area ws n m (size n m) k
  whole_area e h b = record { front = omega arith; half = h; room = omega arith; ids = b }

  -- the k words are ids, and what stands there was sorted as a run
  module _ (ws' : List ℕ) (d : ℕ) (A : Area ws n m (size n m) k) (R : Ran ws ws' n m (size n m) k d) where
    run_done : Done ws ws' n m k d
    run_done =
        let b = stretch_part ws (size n m) k (omega (arith, A.room)) in
        let a = stretch_part ws' (size n m) d (omega (arith, A.room, R.few, R.kept.kept_length)) in
        record {
          few = R.few;
          below = (below_from ws n (size n m) k A.ids ws' (size n m) d R.arranged.from).each;
          keys = rw (a, b) (arranged_keys (key_of ws n m) (stretch ws (size n m) k) (stretch ws' (size n m) d) R.arranged);
          from = rw (a, b) R.arranged.from;
        }

    pub sorts_done : Sorts ws ws' n m k (Ok d)
    sorts_done = record {
      kept_length = R.kept.kept_length;
      rows = take_same ws' ws (size n m) R.kept.kept_length R.kept.before;
      ids = λ h. (d, refl);
      no_id = λ p h g. absurd (omega (arith, A.ids.each p h));
      done = λ e (q : Ok d ≡ Ok e). let i : d ≡ e = cc in rw (← i) run_done;
      broken = λ (e : Ok d ≡ broken). zero_one cc;
    }
