-- One list of the pool: the words determine its cells, it has no more cells than there are, it stays where its words stay,
-- and two lists put together are one. So the words determine all the lists.
-- Assumes nothing.
use Rattle.std.specs.Prelude.{List, [], ◌++◌, ◌≢◌, ◌≡◌, ◌+◌, ◌-◌, ◌<◌, ◌≤◌, suc, zero, ℕ, length}
use Rattle.std.proofs.Common.{⊎_elim, ◌∙◌, ap, sym, arith, length-append, ext_get_or}
use Rattle.std.proofs.Math.ListN.{get_or-eq_default}
use Rattle.lists.specs.Reads.{at, at_left, at_right}
use Rattle.lists.specs.Tests.{eq_or, lt_or}
use Rattle.cells.specs.Pigeon.{pigeon}
use Rattle.cells.specs.Pool.{Pool, Row, row}

-- ---- the words determine the lists

module _ (ws : List ℕ) (n m : ℕ) where
  -- from the end, by the number of cells that follow
  row_at : (a : ℕ) (xs ys : List ℕ) → Row ws n m a xs → Row ws n m a ys
      → (k i : ℕ) → suc (i + k) ≡ length xs → at xs i ≡ at ys i
  row_at a xs ys r s zero i e =
      sym (r.final i (omega arith)) ∙ s.final i (omega (arith, r.size, s.size))
  row_at a xs ys r s (suc k) i e =
      let up : at xs (suc i) ≡ at ys (suc i) = row_at a xs ys r s k (suc i) (omega arith) in
      sym (r.link i (omega arith))
      ∙ ap (λ (c : ℕ). at ws (n + n + n + c)) up
      ∙ s.link i (omega (arith, r.size, s.size))

  row_determined : (a : ℕ) (xs ys : List ℕ) → Row ws n m a xs → Row ws n m a ys → xs ≡ ys
  row_determined a xs ys r s =
      ext_get_or 0 xs ys (sym r.size ∙ s.size) (λ i h. row_at a xs ys r s (length xs - suc i) i (omega arith))

  pub determined : (L K : List (List ℕ)) → Pool ws n m L → Pool ws n m K → L ≡ K
  determined L K p q =
      ext_get_or [] L K (p.count ∙ sym q.count)
      (λ a h. let l : a < n = omega (arith, p.count) in row_determined a (row L a) (row K a) (p.rows a l) (q.rows a l))

-- no list is longer than the number of cells
pub fits : (ws : List ℕ) (n m : ℕ) (L : List (List ℕ)) → Pool ws n m L → (a : ℕ) → a < n → length (row L a) ≤ m
fits ws n m L p a ha =
    pigeon m (length (row L a)) (at (row L a)) (p.rows a ha).low (λ i j h k e. (p.apart.once a i a j h k e).1)

-- what has a cell is one of the lists
pub is_list : (L : List (List ℕ)) (a i : ℕ) → i < length (row L a) → a < length L
is_list L a i h =
    ⊎_elim
    (λ (l : a < length L). l)
    (λ (l : length L ≤ a). absurd (omega (arith, rw (get_or-eq_default L [] {n = a} l) at h)))
    (lt_or a (length L))

-- ---- one row

-- a row whose words kept their values
pub row_frame : (ws ws' : List ℕ) (n m a : ℕ) (xs : List ℕ) → Row ws n m a xs
    → at ws' a ≡ at ws a → at ws' (a + n) ≡ at ws (a + n) → at ws' (a + n + n) ≡ at ws (a + n + n)
    → ((i : ℕ) → suc i < length xs → at ws' (n + n + n + at xs (suc i)) ≡ at ws (n + n + n + at xs (suc i)))
    → Row ws' n m a xs
row_frame ws ws' n m a xs r e f g l = record {
  size = g ∙ r.size;
  final = λ i h. e ∙ r.final i h;
  start = λ h. f ∙ r.start h;
  link = λ i h. l i h ∙ r.link i h;
  low = r.low;
}

-- a row of no cells asks for a length of 0 alone
pub row_none : (ws : List ℕ) (n m a : ℕ) → at ws (a + n + n) ≡ 0 → Row ws n m a []
row_none ws n m a e = record {
  size = e;
  final = λ i h. absurd (omega arith);
  start = λ h. absurd (omega arith);
  link = λ i h. absurd (omega arith);
  low = λ i h. absurd (omega arith);
}

-- two runs put together: a push and a join are both this
pub row_append : (ws : List ℕ) (n m a : ℕ) (xs ys : List ℕ) → 0 < length ys
    → at ws (a + n + n) ≡ length xs + length ys
    → ((i : ℕ) → suc i ≡ length ys → at ws a ≡ at ys i)
    → (length xs ≡ 0 → at ws (a + n) ≡ at ys 0)
    → (0 < length xs → at ws (a + n) ≡ at xs 0)
    → ((i : ℕ) → suc i < length xs → at ws (n + n + n + at xs (suc i)) ≡ at xs i)
    → ((i : ℕ) → suc i ≡ length xs → at ws (n + n + n + at ys 0) ≡ at xs i)
    → ((i : ℕ) → suc i < length ys → at ws (n + n + n + at ys (suc i)) ≡ at ys i)
    → ((i : ℕ) → i < length xs → at xs i < m) → ((i : ℕ) → i < length ys → at ys i < m)
    → Row ws n m a (xs ++ ys)
row_append ws n m a xs ys some size final start₀ start₁ lx seam ly lowx lowy = record {
  size = size ∙ sym (length-append xs ys);
  final = λ i h. let e : i ≡ length xs + (length ys - 1) = omega (arith, length-append xs ys) in
      final (length ys - 1) (omega arith) ∙ sym (at_right xs ys i (length ys - 1) e);
  start = λ h. ⊎_elim
      (λ (k : 0 < length xs). start₁ k ∙ sym (at_left xs ys 0 k))
      (λ (k : length xs ≤ 0). start₀ (omega arith) ∙ sym (at_right xs ys 0 0 (omega arith)))
      (lt_or 0 (length xs));
  link = λ i h. ⊎_elim
      (λ (k : suc i < length xs). rw (at_left xs ys (suc i) k, at_left xs ys i (omega arith)) (lx i k))
      (λ (k : length xs ≤ suc i). ⊎_elim
      (λ (e : suc i ≡ length xs). rw (at_right xs ys (suc i) 0 (omega arith), at_left xs ys i (omega arith)) (seam i e))
      (λ (e : suc i ≢ length xs).
      rw (at_right xs ys (suc i) (suc (i - length xs)) (omega arith), at_right xs ys i (i - length xs) (omega arith))
      (ly (i - length xs) (omega (arith, length-append xs ys))))
      (eq_or (suc i) (length xs)))
      (lt_or (suc i) (length xs));
  low = λ i h. ⊎_elim
      (λ (k : i < length xs). rw (at_left xs ys i k) (lowx i k))
      (λ (k : length xs ≤ i). rw (at_right xs ys i (i - length xs) (omega arith)) (lowy (i - length xs) (omega (arith, length-append xs ys))))
      (lt_or i (length xs));
}
