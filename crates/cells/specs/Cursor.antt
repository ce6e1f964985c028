-- A walk from the end of a list, whatever the test at each cell is: the invariants of such a loop over `len`, `last` and `link`.
-- `left` cells are still to come, and the next of them is `cur`; of the cells passed none has T. The walk knows no lists, so each holds for all.
-- Assumes nothing.
use Rattle.std.specs.Prelude.{List, ◌≢◌, ◌≡◌, ◌+◌, ◌-◌, ◌<◌, ◌≤◌, suc, ℕ, length}
use Rattle.std.proofs.Common.{⊎_elim, ◌∙◌, ap, subst, sym, arith}
use Rattle.lists.specs.Reads.{at}
use Rattle.lists.specs.Tests.{eq_or}
use Rattle.cells.specs.Pool.{Pool, row}
use Rattle.cells.specs.Rows.{fits}

-- where the walk stands: cur is at place left - 1
pub record Cursor (ws : List ℕ) (n m a left cur : ℕ) : Type 0 where
  pub short : (L : List (List ℕ)) → Pool ws n m L → left ≤ length (row L a)
  pub cell : (L : List (List ℕ)) → Pool ws n m L → (i : ℕ) → suc i ≡ left → cur ≡ at (row L a) i

-- none of the cells from place left on has T
pub record Passed (ws : List ℕ) (n m a left : ℕ) (T : ℕ → Type 0) : Type 0 where
  pub none : (L : List (List ℕ)) → Pool ws n m L → (i : ℕ) → left ≤ i → i < length (row L a) → T (at (row L a) i) → ⊥

module _ (ws : List ℕ) (n m a : ℕ) (ha : a < n) where
  pub cursor_start : Cursor ws n m a (at ws (a + n + n)) (at ws a)
  cursor_start = record {
    short = λ L p. omega (arith, (p.rows a ha).size);
    cell = λ L p i e. (p.rows a ha).final i (omega (arith, (p.rows a ha).size));
  }

  pub passed_start : (T : ℕ → Type 0) → Passed ws n m a (at ws (a + n + n)) T
  passed_start T = record { none = λ L p i h l. absurd (omega (arith, (p.rows a ha).size)) }

  -- a length word above the number of cells is no pool's
  pub length_low : m < at ws (a + n + n) → (L : List (List ℕ)) → Pool ws n m L → ⊥
  length_low h L p = omega (arith, fits ws n m L p a ha, (p.rows a ha).size)

  module _ (left cur : ℕ) (c : Cursor ws n m a left cur) (some : 0 < left) where
    pub cursor_step : Cursor ws n m a (left - 1) (at ws (n + n + n + cur))
    cursor_step = record {
      short = λ L p. omega (arith, c.short L p);
      cell = λ L p i e.
          ap (λ (z : ℕ). at ws (n + n + n + z)) (c.cell L p (suc i) (omega arith))
          ∙ (p.rows a ha).link i (omega (arith, c.short L p));
    }

    pub cursor_low : (L : List (List ℕ)) → Pool ws n m L → cur < m
    cursor_low L p = rw (c.cell L p (left - 1) (omega arith)) ((p.rows a ha).low (left - 1) (omega (arith, c.short L p)))

    pub passed_step : (T : ℕ → Type 0) → Passed ws n m a left T → (T cur → ⊥) → Passed ws n m a (left - 1) T
    passed_step T g ne = record {
      none = λ L p i u l t. ⊎_elim
          (λ (e : suc i ≡ left). ne (subst T (sym (c.cell L p i e)) t))
          (λ (e : suc i ≢ left). g.none L p i (omega arith) l t)
          (eq_or (suc i) left);
    }
