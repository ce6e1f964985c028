-- What `seek` and `remove` promise: where a cell stands in a list, and the lists without it. A lemma for each way out that the check does not find alone.
-- Assumes nothing.
use Rattle.std.specs.Prelude.{Bool, None, Ok, Option, Result, Some, false, true, List, ◌≢◌, ◌≡◌, refl, ◌+◌, ◌-◌, ◌<◌, ◌≤◌, suc, ℕ, length}
use Rattle.broken.specs.declared.Broken.{Broken}
use Rattle.broken.specs.Words.{broken}
use Rattle.std.proofs.Common.{◌∙◌, sym, arith}
use Rattle.lists.specs.Reads.{at}
use Rattle.lists.specs.Stores.{puts, puts_length}
use Rattle.lists.specs.Tests.{zero_one}
use Rattle.cells.specs.Cursor.{Cursor, Passed, cursor_low, length_low, passed_step}
use Rattle.cells.specs.Pool.{Pool, remove_l, row}
use Rattle.cells.specs.Remove.{Named, named_cursor, named_step, pool_remove}
use Rattle.cells.specs.Writes.{remove_p}
use Rattle.cells.specs.declared.Spot.{Spot}

-- ---- a search for cell c in list a

-- Where the search stands, with left cells to come: the numbers are in range, the word at spot names the next, and c was not passed.
pub record Going (ws : List ℕ) (n m a c left spot after : ℕ) : Type 0 where
  pub few : at ws (a + n + n) ≤ m
  pub within : left ≤ at ws (a + n + n)
  pub high : spot < n + n + n + m
  pub low : after ≤ m
  pub named : Named ws n m a left spot after
  pub passed : Passed ws n m a left (λ x. x ≡ c)

-- The cell is found, at this spot.
pub record Found (ws : List ℕ) (n m a c : ℕ) (s : Spot) : Type 0 where
  pub going : Going ws n m a c (suc s.before) s.word s.after
  pub cell : at ws s.word ≡ c

pub record Seen (ws : List ℕ) (n m a c : ℕ) (r : Result (Option Spot) Broken) : Type 0 where
  pub found : (s : Spot) → r ≡ Ok (Some s) → Found ws n m a c s
  pub absent : r ≡ Ok None → (L : List (List ℕ)) → Pool ws n m L → (i : ℕ) → i < length (row L a) → at (row L a) i ≢ c
  pub broken : r ≡ broken → (L : List (List ℕ)) → Pool ws n m L → ⊥

seen_broken : (ws : List ℕ) (n m a c : ℕ) → ((L : List (List ℕ)) → Pool ws n m L → ⊥) → Seen ws n m a c broken
seen_broken ws n m a c bad = record {
  found = λ s (e : broken ≡ Ok (Some s)). zero_one cc;
  absent = λ (e : broken ≡ Ok None). zero_one cc;
  broken = λ _. bad;
}

module _ (ws : List ℕ) (n m a c : ℕ) (ha : a < n) where
  pub seen_long : m < at ws (a + n + n) → Seen ws n m a c broken
  seen_long h = seen_broken ws n m a c (length_low ws n m a ha h)

  -- left cells are to come
  module _ (left spot after : ℕ) (go : Going ws n m a c left spot after) (some : 0 < left) where
    cursor : Cursor ws n m a left (at ws spot)
    cursor = named_cursor ws n m a ha left spot after go.named

    pub seen_stray : m ≤ at ws spot → Seen ws n m a c broken
    seen_stray h = seen_broken ws n m a c (λ L p. omega (arith, cursor_low ws n m a ha left (at ws spot) cursor some L p))

    pub going_step : at ws spot < m → at ws spot ≢ c → Going ws n m a c (left - 1) (n + n + n + at ws spot) (at ws spot)
    going_step lo ne = record {
      few = go.few;
      within = omega (arith, go.within);
      high = omega arith;
      low = omega arith;
      named = named_step ws n m a ha left spot after go.named some;
      passed = passed_step ws n m a ha left (at ws spot) cursor some (λ x. x ≡ c) go.passed ne;
    }

-- ---- a removal of cell c from list a

pub record Removed (ws ws' : List ℕ) (n m a c : ℕ) (r : Result Bool Broken) : Type 0 where
  pub kept : length ws' ≡ length ws
  pub still : r ≢ Ok true → ws' ≡ ws
  pub law : (L : List (List ℕ)) (i : ℕ) → Pool ws n m L → i < length (row L a) → at (row L a) i ≡ c → (r ≡ Ok true) × Pool ws' n m (remove_l L a i)
  pub none : (L : List (List ℕ)) → Pool ws n m L → ((i : ℕ) → i < length (row L a) → at (row L a) i ≢ c) → (r ≡ Ok false) × (ws' ≡ ws)

pub remove_done : (ws : List ℕ) (n m a c : ℕ) (s : Spot) → n + n + n + m ≤ length ws → a < n → Found ws n m a c s
    → Removed ws (puts ws (remove_p ws n a c s.before s.word s.after)) n m a c (Ok true)
remove_done ws n m a c s room ha f = record {
  kept = puts_length (remove_p ws n a c s.before s.word s.after) ws;
  still = λ no. absurd (no refl);
  law = λ L i p h e.
      let w = p.apart.once a i a s.before h (low L p) (e ∙ sym (here L p)) in
      (refl, rw w.1 (pool_remove ws n m L room p a ha c s.before s.word s.after f.going.named (here L p)));
  none = λ L p g. absurd (g s.before (low L p) (here L p));
}
  where
    low : (L : List (List ℕ)) → Pool ws n m L → s.before < length (row L a)
    low L p = omega (arith, f.going.named.short L p)

    here : (L : List (List ℕ)) → Pool ws n m L → at (row L a) s.before ≡ c
    here L p = sym ((named_cursor ws n m a ha (suc s.before) s.word s.after f.going.named).cell L p s.before refl) ∙ f.cell
