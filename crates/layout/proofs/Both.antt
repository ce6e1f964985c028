-- The rows and the sort's work area lent together: how long the slice is, what its two ends are, and what a call that was lent it leaves.
-- Assumes nothing.
use Rattle.std.specs.Prelude.{List, ◌++◌, ◌≡◌, ◌*◌, ◌+◌, ◌-◌, ◌<◌, ◌≤◌, ℕ, drop, length, take}
use Rattle.std.proofs.Common.{◌∙◌, ap, arith, length-append, length-drop, take-append-drop, drop_at, take_at}
use Rattle.std.specs.declared.ops.Range.{Range}
use Rattle.lists.specs.Parts.{part, part_join, part_length, take_part, with_part, with_part_tail}
use Rattle.lists.specs.Reads.{at}
use Rattle.layout.specs.Both.{LentBoth, both, row_words}
use Rattle.layout.specs.Cut.{lower, need, rows, sorting, upper}
use Rattle.layout.specs.View.{get_part, view}
use Rattle.layout.proofs.Lent.{lent_part}
use Rattle.layout.proofs.Sizes.{get_length}

module _ (n m : ℕ) (ws : List ℕ) (lent : need n m ≤ length ws) where
  pub both_length : length (both (view n m ws)) ≡ row_words n m + 2 * n
  both_length = length-append (view n m ws).rows (view n m ws).sorting ∙ omega (arith, get_length rows n m ws lent, get_length sorting n m ws lent)

  -- the rows are the front of the slice, and the work area what follows
  pub both_rows : take (row_words n m) (both (view n m ws)) ≡ (view n m ws).rows
  both_rows = take_at (view n m ws).rows (view n m ws).sorting (row_words n m) (get_length rows n m ws lent)

  pub both_sorting : drop (row_words n m) (both (view n m ws)) ≡ (view n m ws).sorting
  both_sorting = drop_at (view n m ws).rows (view n m ws).sorting (row_words n m) (get_length rows n m ws lent)

module _ (n m : ℕ) (ws ys : List ℕ) (lent : need n m ≤ length ws) where
  -- what the slice leaves, where P is what the callee promised of it, and the rows are as they were
  pub lent_both : (P : List ℕ → List ℕ → Type 0) → length ys ≡ length (part ws (lower rows n m) (upper sorting n m))
      → ((j : ℕ) → j < row_words n m → at ys j ≡ at (part ws (lower rows n m) (upper sorting n m)) j)
      → P (part ws (lower rows n m) (upper sorting n m)) ys → LentBoth n m P ws (with_part ws (lower rows n m) (upper sorting n m) ys)
  lent_both P e r p =
      let a : ℕ = lower rows n m in
      let b : ℕ = lower sorting n m in
      let z : ℕ = upper sorting n m in
      let l : length ys ≡ z - a = e ∙ part_length ws a z (omega arith) in
      let f : take (b - a) ys ≡ part ws a b = take_part ws a b z (omega arith) (omega arith) ys (omega arith) l (λ j h. r j (omega arith)) in
      let w : with_part ws a z ys ≡ with_part ws b z (drop (b - a) ys) = with_part_tail ws a b z (omega arith) (omega arith) ys f in
      let s : length (drop (b - a) ys) ≡ length (part ws b z) = length-drop (b - a) ys ∙ omega (arith, part_length ws b z (omega arith)) in
      let k : upper rows n m ≡ b = omega arith in
      let g : (view n m ws).rows ≡ part ws a b = get_part rows n m ws ∙ ap (λ (u : ℕ). part ws a u) k in
      let x : (view n m ws).rows ++ part ws b z ≡ part ws a z = rw g (part_join ws a b z (omega arith) (omega arith)) in
      let y : (view n m ws).rows ++ drop (b - a) ys ≡ ys = rw (g, ← f) (take-append-drop (b - a) ys) in
      rw w
      (record { lent = lent_part n m ws (drop (b - a) ys) lent sorting (λ u u'. P ((view n m ws).rows ++ u) ((view n m ws).rows ++ u')) s (rw (x, y) p) })

-- the same, where the slice is lent by the head's range
pub lent_both_range : {n m : ℕ} {r : Range ℕ} {P : List ℕ → List ℕ → Type 0} (ws ys : List ℕ)
    → (r.start ≡ lower rows n m) × (r.end ≡ upper sorting n m) → need n m ≤ length ws
    → length ys ≡ length (part ws r.start r.end) → ((j : ℕ) → j < row_words n m → at ys j ≡ at (part ws r.start r.end) j)
    → P (part ws r.start r.end) ys → LentBoth n m P ws (with_part ws r.start r.end ys)
lent_both_range {n} {m} {P = P} ws ys s h e q p = rw (s.0, s.1) (lent_both n m ws ys h P (rw (s.0, s.1) at e) (rw (s.0, s.1) at q) (rw (s.0, s.1) at p))
