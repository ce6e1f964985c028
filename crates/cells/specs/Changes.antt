-- What `push` and `join` promise: which words they leave, for any words, and which lists those hold. A lemma for each way out that the check does not find alone.
-- Assumes nothing.
use Rattle.std.specs.Prelude.{Ok, Result, List, ◌≢◌, ◌≡◌, refl, ◌+◌, ◌<◌, ◌^◌, ◌≤◌, ℕ, length}
use Rattle.broken.specs.declared.Broken.{Broken}
use Rattle.broken.specs.Words.{broken}
use Rattle.std.proofs.Common.{◌∙◌, sym, arith}
use Rattle.lists.specs.Reads.{at}
use Rattle.lists.specs.Stores.{puts, puts_length}
use Rattle.cells.specs.Join.{join_fits, join_none, pool_join}
use Rattle.cells.specs.Pool.{Free, Pool, join_l, push_l, row}
use Rattle.cells.specs.Push.{pool_push, push_fits}
use Rattle.cells.specs.Writes.{join_p, push_p}

-- The pool's words are all there, and a count of cells is a word.
pub record Room (ws : List ℕ) (n m : ℕ) : Type 0 where
  pub room : n + n + n + m ≤ length ws
  pub small : m < 2 ^ 32

-- ---- a push of cell c on list a

pub record Pushed (ws ws' : List ℕ) (n m a c : ℕ) (r : Result Unit Broken) : Type 0 where
  pub kept : length ws' ≡ length ws
  pub full : m ≤ at ws (a + n + n) → (r ≡ broken) × (ws' ≡ ws)
  pub exact : at ws (a + n + n) < m → (r ≡ Ok tt) × (ws' ≡ puts ws (push_p ws n a c))
  pub law : (L : List (List ℕ)) → Pool ws n m L → Free L c → (r ≡ Ok tt) × Pool ws' n m (push_l L a c)

module _ (ws : List ℕ) (n m a c : ℕ) (rm : Room ws n m) (ha : a < n) (hc : c < m) where
  pub push_done : at ws (a + n + n) < m → Pushed ws (puts ws (push_p ws n a c)) n m a c (Ok tt)
  push_done h = record {
    kept = puts_length (push_p ws n a c) ws;
    full = λ l. absurd (omega arith);
    exact = λ l. (refl, refl);
    law = λ L p f. (refl, pool_push ws n m L rm.room p a c ha hc f);
  }

  pub push_broken : m ≤ at ws (a + n + n) → Pushed ws ws n m a c broken
  push_broken h = record {
    kept = refl;
    full = λ l. (refl, refl);
    exact = λ l. absurd (omega arith);
    law = λ L p f. absurd (omega (arith, push_fits ws n m L rm.room p a c ha hc f, (p.rows a ha).size));
  }

-- ---- a join of list c on list a

pub record Joined (ws ws' : List ℕ) (n m a c : ℕ) (r : Result Unit Broken) : Type 0 where
  pub kept : length ws' ≡ length ws
  pub idle : at ws (c + n + n) ≡ 0 → (r ≡ Ok tt) × (ws' ≡ ws)
  pub long : 0 < at ws (c + n + n) → m < at ws (a + n + n) + at ws (c + n + n) → (r ≡ broken) × (ws' ≡ ws)
  pub stray : 0 < at ws (c + n + n) → m ≤ at ws (c + n) → (r ≡ broken) × (ws' ≡ ws)
  pub exact : 0 < at ws (c + n + n) → at ws (a + n + n) + at ws (c + n + n) ≤ m → at ws (c + n) < m
      → (r ≡ Ok tt) × (ws' ≡ puts ws (join_p ws n a c))
  pub law : (L : List (List ℕ)) → Pool ws n m L → (r ≡ Ok tt) × Pool ws' n m (join_l L a c)

module _ (ws : List ℕ) (n m a c : ℕ) (rm : Room ws n m) (ha : a < n) (hc : c < n) (ne : a ≢ c) where
  pub join_idle : at ws (c + n + n) ≡ 0 → Joined ws ws n m a c (Ok tt)
  join_idle e = record {
    kept = refl;
    idle = λ _. (refl, refl);
    long = λ u v. absurd (omega arith);
    stray = λ u v. absurd (omega arith);
    exact = λ u v w. absurd (omega arith);
    law = λ L p. (refl, rw (join_none L a c (sym (p.rows c hc).size ∙ e)) p);
  }

  module _ (some : 0 < at ws (c + n + n)) where
    cells_of : (L : List (List ℕ)) → Pool ws n m L → 0 < length (row L c)
    cells_of L p = rw (← (p.rows c hc).size) some

    pub join_long : m < at ws (a + n + n) + at ws (c + n + n) → Joined ws ws n m a c broken
    join_long h = record {
      kept = refl;
      idle = λ e. absurd (omega arith);
      long = λ _ _. (refl, refl);
      stray = λ _ _. (refl, refl);
      exact = λ u v w. absurd (omega arith);
      law = λ L p. absurd (omega (arith, join_fits ws n m L rm.room p a c ha hc ne (cells_of L p), (p.rows c hc).size, (p.rows a ha).size));
    }

    pub join_done : at ws (a + n + n) + at ws (c + n + n) ≤ m → at ws (c + n) < m
        → Joined ws (puts ws (join_p ws n a c)) n m a c (Ok tt)
    join_done short low = record {
      kept = puts_length (join_p ws n a c) ws;
      idle = λ e. absurd (omega arith);
      long = λ u v. absurd (omega arith);
      stray = λ u v. absurd (omega arith);
      exact = λ _ _ _. (refl, refl);
      law = λ L p. (refl, pool_join ws n m L rm.room p a c ha hc ne (cells_of L p));
    }
