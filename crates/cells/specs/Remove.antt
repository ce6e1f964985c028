-- A removal: a list without one of its cells, that no cell stands twice after it, the word that names a cell of a list,
-- and that the words hold the lists without the cell once that word names the cell before it.
-- Assumes nothing.
use Rattle.std.specs.Prelude.{List, [], ◌≢◌, ◌⊎◌, ◌≡◌, refl, drop, take}
use Rattle.std.proofs.Common.{inl, inr, ◌∙◌, length-append, length-drop, get_or-drop, get_or-set_other, get_or-set_same, get_or-take, length-take-le}
use Rattle.std.proofs.Math.Logic.{⊎_elim}
use Rattle.std.proofs.Math.Path.{ap, subst, sym}
use Prim.Native.Nat.{◌+◌, ◌-◌, ◌<◌, ◌≤◌, suc, ℕ}
use native.Mathlib.Omega.{arith}
use Rattle.std.proofs.Math.ListN.{length, length-set}
use Rattle.lists.specs.Reads.{at, at_left, at_right, set_all}
use Rattle.lists.specs.Stores.{puts, puts_hit, puts_miss}
use Rattle.lists.specs.Tests.{eq_or, lt_or}
use Rattle.cells.specs.Cursor.{Cursor}
use Rattle.cells.specs.Pool.{Apart, Pool, Row, cut, remove_l, row}
use Rattle.cells.specs.Rows.{row_frame}
use Rattle.cells.specs.Writes.{pick_none, pick_some, remove_p}

-- ---- a list without one of its elements

module _ (xs : List ℕ) (q : ℕ) (hq : q < length xs) where
  pub cut_length : suc (length (cut q xs)) ≡ length xs
  cut_length = omega (arith, length-append (take q xs) (drop (suc q) xs), length-take-le q xs (omega arith), length-drop (suc q) xs)

  pub cut_left : (i : ℕ) → i < q → at (cut q xs) i ≡ at xs i
  cut_left i h =
      at_left (take q xs) (drop (suc q) xs) i (omega (arith, length-take-le q xs (omega arith))) ∙ get_or-take q xs i 0 h

  pub cut_right : (i : ℕ) → q ≤ i → at (cut q xs) i ≡ at xs (suc i)
  cut_right i h =
      let e : suc q + (i - q) ≡ suc i = omega arith in
      at_right (take q xs) (drop (suc q) xs) i (i - q) (omega (arith, length-take-le q xs (omega arith)))
      ∙ get_or-drop (suc q) xs (i - q) 0 ∙ ap (at xs) e

-- ---- on lists

-- what holds of list a without the cell, and of the other lists, holds of all
pub remove_cases : (P : ℕ → List ℕ → Type 0) (L : List (List ℕ)) (a q : ℕ) → a < length L → P a (cut q (row L a))
    → ((x : ℕ) → x ≢ a → P x (row L x)) → (x : ℕ) → P x (row (remove_l L a q) x)
unfolding remove_l
remove_cases P L a q h p f = set_all P L a (cut q (row L a)) [] h p f

pub remove_at : (L : List (List ℕ)) (a q : ℕ) → a < length L → row (remove_l L a q) a ≡ cut q (row L a)
unfolding remove_l
remove_at L a q h = get_or-set_same L a (cut q (row L a)) [] h

pub remove_else : (L : List (List ℕ)) (a q x : ℕ) → x ≢ a → row (remove_l L a q) x ≡ row L x
unfolding remove_l
remove_else L a q x ne = get_or-set_other L a x (cut q (row L a)) [] ne

-- v, at place i of list x after a removal, stood in front of the gap, behind it, or in another list
pub record FromRemove (L : List (List ℕ)) (a q x i v : ℕ) : Type 0 where
  pub j : ℕ
  pub inside : j < length (row L x)
  pub same : v ≡ at (row L x) j
  pub how : ((x ≡ a) × (i < q) × (j ≡ i)) ⊎ (((x ≡ a) × (q ≤ i) × (j ≡ suc i)) ⊎ ((x ≢ a) × (j ≡ i)))

pub remove_from : (L : List (List ℕ)) (a q : ℕ) → a < length L → q < length (row L a) → (x i : ℕ) → i < length (row (remove_l L a q) x)
    → FromRemove L a q x i (at (row (remove_l L a q) x) i)
remove_from L a q h hq =
    remove_cases (λ x zs. (i : ℕ) → i < length zs → FromRemove L a q x i (at zs i)) L a q h
    (λ i l. ⊎_elim
    (λ (o : i < q). record { j = i; inside = omega arith; same = cut_left (row L a) q hq i o; how = inl (refl, o, refl) })
    (λ (o : q ≤ i). record {
      j = suc i;
      inside = omega (arith, cut_length (row L a) q hq);
      same = cut_right (row L a) q hq i o;
      how = inr (inl (refl, o, refl));
    })
    (lt_or i q))
    (λ x e i l. record { j = i; inside = l; same = refl; how = inr (inr (e, refl)) })

remove_apart : (L : List (List ℕ)) (a q : ℕ) → a < length L → q < length (row L a) → Apart L → Apart (remove_l L a q)
remove_apart L a q h hq p = record { once = λ x i y j o l e. go x i y j e (remove_from L a q h hq x i o) (remove_from L a q h hq y j l) }
  where
    how : (x i y j u v : ℕ) → x ≡ y → u ≡ v
        → ((x ≡ a) × (i < q) × (u ≡ i)) ⊎ (((x ≡ a) × (q ≤ i) × (u ≡ suc i)) ⊎ ((x ≢ a) × (u ≡ i)))
        → ((y ≡ a) × (j < q) × (v ≡ j)) ⊎ (((y ≡ a) × (q ≤ j) × (v ≡ suc j)) ⊎ ((y ≢ a) × (v ≡ j)))
        → i ≡ j
    how x i y j u v e f (inl s) (inl t) = omega arith
    how x i y j u v e f (inl s) (inr (inl t)) = omega arith
    how x i y j u v e f (inl s) (inr (inr t)) = omega arith
    how x i y j u v e f (inr (inl s)) (inl t) = omega arith
    how x i y j u v e f (inr (inl s)) (inr (inl t)) = omega arith
    how x i y j u v e f (inr (inl s)) (inr (inr t)) = omega arith
    how x i y j u v e f (inr (inr s)) (inl t) = omega arith
    how x i y j u v e f (inr (inr s)) (inr (inl t)) = omega arith
    how x i y j u v e f (inr (inr s)) (inr (inr t)) = omega arith

    go : (x i y j : ℕ) {u v : ℕ} → u ≡ v → FromRemove L a q x i u → FromRemove L a q y j v → (x ≡ y) × (i ≡ j)
    go x i y j e s t =
        let w = p.once x s.j y t.j s.inside t.inside (sym s.same ∙ e ∙ t.same) in
        (w.0, how x i y j s.j t.j w.0 w.1 s.how t.how)

-- ---- the word that names a cell

-- The word at spot names the cell at place left - 1: it is the list's own word, or the link of the cell behind, which is `after`.
pub record Named (ws : List ℕ) (n m a left spot after : ℕ) : Type 0 where
  pub short : (L : List (List ℕ)) → Pool ws n m L → left ≤ length (row L a)
  pub far : (L : List (List ℕ)) → Pool ws n m L → left ≡ length (row L a) → spot ≡ a
  pub mid : (L : List (List ℕ)) → Pool ws n m L → left < length (row L a) → (spot ≡ n + n + n + at (row L a) left) × (after ≡ at (row L a) left)

module _ (ws : List ℕ) (n m a : ℕ) (ha : a < n) where
  module _ (left spot after : ℕ) (s : Named ws n m a left spot after) where
    pub named_cursor : Cursor ws n m a left (at ws spot)
    named_cursor = record {
      short = s.short;
      cell = λ L p i e. ⊎_elim
          (λ (f : left ≡ length (row L a)). rw (s.far L p f) ((p.rows a ha).final i (e ∙ f)))
          (λ (f : left ≢ length (row L a)).
          let h : left < length (row L a) = omega (arith, s.short L p) in
          ap (at ws) ((s.mid L p h).0 ∙ ap (λ (z : ℕ). n + n + n + at (row L a) z) (sym e)) ∙ (p.rows a ha).link i (rw e h))
          (eq_or left (length (row L a)));
    }

    pub named_step : 0 < left → Named ws n m a (left - 1) (n + n + n + at ws spot) (at ws spot)
    named_step some = record {
      short = λ L p. omega (arith, s.short L p);
      far = λ L p e. absurd (omega (arith, s.short L p));
      mid = λ L p h. let e : at ws spot ≡ at (row L a) (left - 1) = named_cursor.cell L p (left - 1) (omega arith) in
          (ap (λ (z : ℕ). n + n + n + z) e, e);
    }

-- ---- on words

module _ (ws : List ℕ) (n m : ℕ) (L : List (List ℕ)) (room : n + n + n + m ≤ length ws) (p : Pool ws n m L)
    (a : ℕ) (ha : a < n) (c q spot after : ℕ) (named : Named ws n m a (suc q) spot after) (found : at (row L a) q ≡ c) where
  ps : List (ℕ × ℕ)
  ps = remove_p ws n a c q spot after

  hq : q < length (row L a)
  hq = omega (arith, named.short L p)

  spot_cases : (P : ℕ → Type 0) → P a → (suc q < length (row L a) → P (n + n + n + at (row L a) (suc q))) → P spot
  spot_cases P f g =
      ⊎_elim
      (λ (e : suc q ≡ length (row L a)). subst P (sym (named.far L p e)) f)
      (λ (e : suc q ≢ length (row L a)).
      let h : suc q < length (row L a) = omega (arith, named.short L p) in subst P (sym (named.mid L p h).0) (g h))
      (eq_or (suc q) (length (row L a)))

  -- words of other lists, and links of other cells
  miss : (j : ℕ) → j ≢ a → (suc q < length (row L a) → j ≢ n + n + n + at (row L a) (suc q)) → j ≢ a + n → j ≢ a + n + n
      → at (puts ws ps) j ≡ at ws j
  unfolding ps
  miss j f g h k = puts_miss ps ws j (spot_cases (λ z. j ≢ z) f g, (h, (k, tt)))

  miss_link : (x i : ℕ) → i < length (row L x) → ((x ≡ a) → (i ≡ suc q) → ⊥)
      → at (puts ws ps) (n + n + n + at (row L x) i) ≡ at ws (n + n + n + at (row L x) i)
  miss_link x i h ne =
      miss _ (omega arith)
      (λ k e. let w = p.apart.once x i a (suc q) h k (omega arith) in ne w.0 w.1)
      (omega arith) (omega arith)

  -- the word that named the cell at place q names the one before
  hit : (i : ℕ) → suc i ≡ q → at (puts ws ps) spot ≡ at (row L a) i
  unfolding ps
  hit i e =
      let r = p.rows a ha in
      let lo : spot < length ws = spot_cases (λ z. z < length ws) (omega arith) (λ h. omega (arith, r.low (suc q) h)) in
      let no₁ : spot ≢ a + n = spot_cases (λ z. z ≢ a + n) (omega arith) (λ h. omega arith) in
      let no₂ : spot ≢ a + n + n = spot_cases (λ z. z ≢ a + n + n) (omega arith) (λ h. omega arith) in
      puts_hit ps ws 0 (omega arith) lo (no₁, (no₂, tt))
      ∙ ap (λ (z : ℕ). at ws (n + n + n + z)) (sym found ∙ ap (at (row L a)) (sym e))
      ∙ r.link i (omega (arith, hq))

  row_cut : Row (puts ws ps) n m a (cut q (row L a))
  unfolding ps
  row_cut =
      let r = p.rows a ha in
      let xs = row L a in
      let len = cut_length xs q hq in
      record {
        size = puts_hit ps ws 2 (omega arith) (omega arith) tt ∙ omega (arith, r.size);
        final = λ i e. ⊎_elim
            (λ (k : i < q).
            let f : suc q ≡ length xs = omega (arith, hq) in
            subst (λ (z : ℕ). at (puts ws ps) z ≡ at xs i) (named.far L p f) (hit i (omega arith)) ∙ sym (cut_left xs q hq i k))
            (λ (k : q ≤ i).
            let h : suc q < length xs = omega arith in
            let ne : a ≢ spot = rw (named.mid L p h).0 (omega arith) in
            puts_miss ps ws a (ne, (omega arith, (omega arith, tt))) ∙ r.final (suc i) (omega arith) ∙ sym (cut_right xs q hq i k))
            (lt_or i q);
        start = λ h. ⊎_elim
            (λ (k : q ≡ 0).
            puts_hit ps ws 1 (omega arith) (omega arith) (omega arith) ∙ pick_none q _ _ k
            ∙ (named.mid L p (omega arith)).1 ∙ ap (λ (z : ℕ). at xs (suc z)) k ∙ sym (cut_right xs q hq 0 (omega arith)))
            (λ (k : q ≢ 0).
            puts_hit ps ws 1 (omega arith) (omega arith) (omega arith) ∙ pick_some q _ _ (omega arith)
            ∙ r.start (omega arith) ∙ sym (cut_left xs q hq 0 (omega arith)))
            (eq_or q 0);
        link = λ i h. ⊎_elim
            (λ (k : suc i < q).
            rw (cut_left xs q hq (suc i) k, cut_left xs q hq i (omega arith))
            (miss_link a (suc i) (omega arith) (λ _ e. omega arith) ∙ r.link i (omega arith)))
            (λ (k : q ≤ suc i). ⊎_elim
            (λ (e : suc i ≡ q).
            rw (cut_right xs q hq (suc i) k, cut_left xs q hq i (omega arith))
            (subst (λ (z : ℕ). at (puts ws ps) z ≡ at xs i)
            ((named.mid L p (omega arith)).0 ∙ ap (λ (z : ℕ). n + n + n + at xs (suc z)) (sym e)) (hit i e)))
            (λ (e : suc i ≢ q).
            rw (cut_right xs q hq (suc i) k, cut_right xs q hq i (omega arith))
            (miss_link a (suc (suc i)) (omega arith) (λ _ f. omega arith) ∙ r.link (suc i) (omega arith)))
            (eq_or (suc i) q))
            (lt_or (suc i) q);
        low = λ i h. ⊎_elim
            (λ (k : i < q). rw (cut_left xs q hq i k) (r.low i (omega arith)))
            (λ (k : q ≤ i). rw (cut_right xs q hq i k) (r.low (suc i) (omega arith)))
            (lt_or i q);
      }

  pub pool_remove : Pool (puts ws (remove_p ws n a c q spot after)) n m (remove_l L a q)
  unfolding ps remove_l
  pool_remove =
      let ha' : a < length L = omega (arith, p.count) in
      record {
        count = length-set L a (cut q (row L a)) ∙ p.count;
        rows = remove_cases (λ x zs. x < n → Row (puts ws ps) n m x zs) L a q ha'
            (λ _. row_cut)
            (λ x ne hx. row_frame ws (puts ws ps) n m x (row L x) (p.rows x hx)
            (miss _ (omega arith) (λ _. omega arith) (omega arith) (omega arith))
            (miss _ (omega arith) (λ _. omega arith) (omega arith) (omega arith))
            (miss _ (omega arith) (λ _. omega arith) (omega arith) (omega arith))
            (λ i h. miss_link x (suc i) h (λ e _. ne e)));
        apart = remove_apart L a q ha' hq p.apart;
      }
