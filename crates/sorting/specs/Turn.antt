-- One turn of a merge: of two stretches, of which one is not empty, the word that comes next, and what is left of them.
-- Assumes nothing.
use Rattle.std.specs.Prelude.{List, ◌∷◌, ◌≡◌, ◌+◌, ◌<◌, ◌≤◌, ℕ, length}
use Rattle.std.proofs.Common.{⊎_elim, arith}
use Rattle.lists.specs.Reads.{at}
use Rattle.lists.specs.Tests.{lt_or}
use Rattle.std.specs.declared.cmp.Ordering.{Ordering}
use Rattle.std.specs.declared.cmp.Ordering.TheVariants.{Equal, Greater, Less}
use Rattle.rows.specs.Rows.{size}
use Rattle.sorting.specs.Arranged.{Merged, left, level, over, right, under}
use Rattle.sorting.specs.Ids.{Below, by}
use Rattle.sorting.specs.Stretch.{rest, stretch_first, stretch_none, words}
use Rattle.sorting.specs.declared.Stretch.{Stretch}
use Rattle.sorting.specs.declared.Turn.{Turn}

-- two stretches of ids, one behind the other, that wait to be merged; one of them has an id
pub record Waiting (ws : List ℕ) (n m : ℕ) (l r : Stretch) : Type 0 where
  pub front : size n m ≤ length ws
  pub ordered : l.start + l.len ≤ r.start
  pub room : r.start + r.len ≤ length ws
  pub some : 0 < l.len + r.len
  pub left_ids : Below ws n l.start l.len
  pub right_ids : Below ws n r.start r.len

-- the first words of l and r are in the order o; if one of the two has no word, it comes last
pub record Heads (ws : List ℕ) (n m : ℕ) (l r : Stretch) (o : Ordering) : Type 0 where
  pub less : o ≡ Less → (0 < l.len) × (0 < r.len → by ws n m (at ws l.start) (at ws r.start) ≡ Less)
  pub equal : o ≡ Equal → (0 < l.len) × (0 < r.len) × (by ws n m (at ws l.start) (at ws r.start) ≡ Equal)
  pub greater : o ≡ Greater → (0 < r.len) × (0 < l.len → by ws n m (at ws l.start) (at ws r.start) ≡ Greater)

-- t.rest.left and t.rest.right end where l and r do, and together they have fewer words
pub record Shorter (l r : Stretch) (t : Turn) : Type 0 where
  pub left_end : t.rest.left.start + t.rest.left.len ≡ l.start + l.len
  pub right_end : t.rest.right.start + t.rest.right.len ≡ r.start + r.len
  pub left_less : t.rest.left.len ≤ l.len
  pub right_less : t.rest.right.len ≤ r.len
  pub fewer : t.rest.left.len + t.rest.right.len < l.len + r.len
  pub inside : t.from < r.start + r.len

-- the word that comes next stands at t.from, and t.rest.left and t.rest.right are left
pub record Turned (ws : List ℕ) (n m : ℕ) (l r : Stretch) (t : Turn) : Type 0 where
  pub step : (zs : List ℕ) → Merged (by ws n m) (words ws t.rest.left) (words ws t.rest.right) zs
      → Merged (by ws n m) (words ws l) (words ws r) (at ws t.from ∷ zs)

module _ (ws : List ℕ) (n m : ℕ) (l r : Stretch) where
  pub turn_less : 0 < l.len → (0 < r.len → by ws n m (at ws l.start) (at ws r.start) ≡ Less)
      → Turned ws n m l r (record { from = l.start; rest = record { left = rest l; right = r } })
  turn_less p e = record {
    step = λ zs d. rw (stretch_first ws l.start l.len p) (⊎_elim
        (λ (q : 0 < r.len). rw (stretch_first ws r.start r.len q) (under (e q) (rw (stretch_first ws r.start r.len q) at d)))
        (λ (q : r.len ≤ 0). let z : r.len ≡ 0 = omega arith in rw (stretch_none ws r.start r.len z) (left (rw (stretch_none ws r.start r.len z) at d)))
        (lt_or 0 r.len));
  }

  pub turn_equal : 0 < l.len → 0 < r.len → by ws n m (at ws l.start) (at ws r.start) ≡ Equal
      → Turned ws n m l r (record { from = l.start; rest = record { left = rest l; right = rest r } })
  turn_equal p q e = record { step = λ zs d. rw (stretch_first ws l.start l.len p, stretch_first ws r.start r.len q) (level e d) }

  pub turn_greater : 0 < r.len → (0 < l.len → by ws n m (at ws l.start) (at ws r.start) ≡ Greater)
      → Turned ws n m l r (record { from = r.start; rest = record { left = l; right = rest r } })
  turn_greater q e = record {
    step = λ zs d. rw (stretch_first ws r.start r.len q) (⊎_elim
        (λ (p : 0 < l.len). rw (stretch_first ws l.start l.len p) (over (e p) (rw (stretch_first ws l.start l.len p) at d)))
        (λ (p : l.len ≤ 0). let z : l.len ≡ 0 = omega arith in rw (stretch_none ws l.start l.len z) (right (rw (stretch_none ws l.start l.len z) at d)))
        (lt_or 0 l.len));
  }
