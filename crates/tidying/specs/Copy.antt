-- The ids of a list copied into the work area of the sort, by a walk back from the last of them.
-- Assumes nothing.
use Rattle.std.specs.Prelude.{Ok, Result, List, ◌≡◌, ◌*◌, ◌+◌, ◌<◌, ◌≤◌, ℕ, length, take}
use Rattle.broken.specs.declared.Broken.{Broken}
use Rattle.broken.specs.Words.{broken}
use Rattle.std.proofs.Common.{◌∙◌, sym, arith}
use Rattle.layout.specs.Idle.{lent_same}
use Rattle.lists.specs.Reads.{at, Word}
use Rattle.cells.specs.Cursor.{Cursor, cursor_low, cursor_start}
use Rattle.cells.specs.Pool.{Pool, row}
use Rattle.layout.specs.Cut.{need, sorting}
use Rattle.layout.specs.Lent.{Lent, lent_map}
use Rattle.layout.specs.View.{view}
use Rattle.layout.proofs.Sizes.{get_length}

-- what `copy` promises of the work area: where k is the length of the list, the first k words are the list
pub record Copies (ms : List ℕ) (n a k : ℕ) (r : Result Unit Broken) (s s' : List ℕ) : Type 0 where
  pub law : (L : List (List ℕ)) → Pool ms n n L → k ≡ length (row L a) → (r ≡ Ok tt) × (take k s' ≡ row L a)

-- on its way: the cells from place `left` on are copied, and the one before them is `cur`
pub record Copying (ms : List ℕ) (n a k left cur : ℕ) (s s' : List ℕ) : Type 0 where
  pub size : length s' ≡ 2 * n
  pub cursor : k ≡ at ms (a + n + n) → Cursor ms n n a left cur
  pub cells : (L : List (List ℕ)) → Pool ms n n L → k ≡ length (row L a) → (i : ℕ) → left ≤ i → i < k → at s' i ≡ at (row L a) i

abbrev pub CopiedTo : ℕ → ℕ → ℕ → ℕ → ℕ → ℕ → List ℕ → List ℕ → Type 0
CopiedTo n m a k left cur ws ws' = Lent sorting n m (Copying (view n m ws).members n a k left cur) ws ws'

-- ---- over plain lists

module _ (ms : List ℕ) (n a k : ℕ) (ha : a < n) where
  word_is : (L : List (List ℕ)) → Pool ms n n L → k ≡ length (row L a) → k ≡ at ms (a + n + n)
  word_is L p e = e ∙ sym (p.rows a ha).size

  copying_start : (s : List ℕ) → length s ≡ 2 * n → Copying ms n a k k (at ms a) s s
  copying_start s e = record {
    size = e;
    cursor = λ f. rw f (cursor_start ms n n a ha);
    cells = λ L p f i l u. absurd (omega arith);
  }

  -- a cell that is none: then the words hold no lists
  copying_stray : (left cur : ℕ) (s s' : List ℕ) → 0 < left → n ≤ cur → Copying ms n a k left cur s s' → Copies ms n a k broken s s'
  copying_stray left cur s s' some off C = record {
    law = λ L p e. absurd (omega (arith, cursor_low ms n n a ha left cur (C.cursor (word_is L p e)) some L p));
  }

-- ---- over the words

module _ (n m : ℕ) (a k : ℕ) (ws : List ℕ) (ha : a < n) (few : k ≤ n) where
  pub copy_start : (cur : ℕ) → need n m ≤ length ws → Word (view n m ws).members a cur → CopiedTo n m a k k cur ws ws
  copy_start cur ok w = lent_same ws (rw w.exact (copying_start _ n a k ha _ (get_length sorting n m ws ok)))

  pub copy_stray : (left cur : ℕ) (ws' : List ℕ) → 0 < left → n ≤ cur → CopiedTo n m a k left cur ws ws'
      → Lent sorting n m (Copies (view n m ws).members n a k broken) ws ws'
  copy_stray left cur ws' some off C = lent_map (λ s s'. copying_stray _ n a k ha left cur s s' some off) C
