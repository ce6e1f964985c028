-- A push: what it does to each list, that no cell stands twice after it, and that the words it leaves hold the lists with the new cell.
-- Assumes nothing.
use Rattle.std.specs.Prelude.{List, [], ◌++◌, ◌∷◌, ◌≢◌, ◌⊎◌, ◌≡◌, refl, ◌+◌, ◌<◌, ◌≤◌, suc, ℕ}
use Rattle.std.proofs.Common.{inl, inr, ⊎_elim, ◌∙◌, ap, sym, arith, length-append, get_or-set_other, get_or-set_same}
use Rattle.std.proofs.Math.ListN.{length, length-set}
use Rattle.lists.specs.Reads.{at, at_left, at_right, set_all}
use Rattle.lists.specs.Stores.{puts, puts_hit, puts_miss}
use Rattle.lists.specs.Tests.{lt_or}
use Rattle.cells.specs.Pool.{Apart, Free, Pool, Row, push_l, row}
use Rattle.cells.specs.Rows.{fits, row_append, row_frame}
use Rattle.cells.specs.Writes.{pick_none, pick_some, push_p}

-- ---- on lists

-- what holds of list a with the new cell, and of the other lists, holds of all
pub push_cases : (P : ℕ → List ℕ → Type 0) (L : List (List ℕ)) (a c : ℕ) → a < length L → P a (row L a ++ (c ∷ []))
    → ((x : ℕ) → x ≢ a → P x (row L x)) → (x : ℕ) → P x (row (push_l L a c) x)
unfolding push_l
push_cases P L a c h p q = set_all P L a (row L a ++ (c ∷ [])) [] h p q

pub push_at : (L : List (List ℕ)) (a c : ℕ) → a < length L → row (push_l L a c) a ≡ row L a ++ (c ∷ [])
unfolding push_l
push_at L a c h = get_or-set_same L a (row L a ++ (c ∷ [])) [] h

pub push_else : (L : List (List ℕ)) (a c x : ℕ) → x ≢ a → row (push_l L a c) x ≡ row L x
unfolding push_l
push_else L a c x ne = get_or-set_other L a x (row L a ++ (c ∷ [])) [] ne

-- v, at place i of list x after a push, is the new cell, or stood there before
abbrev pub FromPush : List (List ℕ) → ℕ → ℕ → ℕ → ℕ → ℕ → Type 0
FromPush L a c x i v = ((x ≡ a) × (i ≡ length (row L a)) × (v ≡ c)) ⊎ ((i < length (row L x)) × (v ≡ at (row L x) i))

pub push_from : (L : List (List ℕ)) (a c : ℕ) → a < length L → (x i : ℕ) → i < length (row (push_l L a c) x) → FromPush L a c x i (at (row (push_l L a c) x) i)
push_from L a c h =
    push_cases (λ x zs. (i : ℕ) → i < length zs → FromPush L a c x i (at zs i)) L a c h
    (λ i k. ⊎_elim
    (λ (l : i < length (row L a)). inr (l, at_left (row L a) (c ∷ []) i l))
    (λ (l : length (row L a) ≤ i).
    let e : i ≡ length (row L a) = omega (arith, length-append (row L a) (c ∷ [])) in
    inl (refl, e, at_right (row L a) (c ∷ []) i 0 (omega arith)))
    (lt_or i (length (row L a))))
    (λ x ne i k. inr (k, refl))

push_apart : (L : List (List ℕ)) (a c : ℕ) → a < length L → Apart L → Free L c → Apart (push_l L a c)
push_apart L a c h p f = record { once = λ x i y j k l e. go x i y j e (push_from L a c h x i k) (push_from L a c h y j l) }
  where
    go : (x i y j : ℕ) {u v : ℕ} → u ≡ v → FromPush L a c x i u → FromPush L a c y j v → (x ≡ y) × (i ≡ j)
    go x i y j e (inl s) (inl t) = (omega arith, omega arith)
    go x i y j e (inl s) (inr t) = absurd (f.none y j t.0 (sym t.1 ∙ sym e ∙ s.2))
    go x i y j e (inr s) (inl t) = absurd (f.none x i s.0 (sym s.1 ∙ e ∙ t.2))
    go x i y j e (inr s) (inr t) = p.once x i y j s.0 t.0 (sym s.1 ∙ e ∙ t.1)

-- ---- on words

module _ (ws : List ℕ) (n m : ℕ) (L : List (List ℕ)) (room : n + n + n + m ≤ length ws) (p : Pool ws n m L)
    (a c : ℕ) (ha : a < n) (hc : c < m) (free : Free L c) where
  row_pushed : Row (puts ws (push_p ws n a c)) n m a (row L a ++ (c ∷ []))
  row_pushed =
      let r = p.rows a ha in
      let ps = push_p ws n a c in
      row_append (puts ws ps) n m a (row L a) (c ∷ []) (omega arith)
      (puts_hit ps ws 3 (omega arith) (omega arith) tt ∙ rw r.size refl)
      (λ i e. let z : i ≡ 0 = omega arith in rw z (puts_hit ps ws 2 (omega arith) (omega arith) (omega arith)))
      (λ e. puts_hit ps ws 1 (omega arith) (omega arith) (omega arith) ∙ pick_none _ _ _ (r.size ∙ e))
      (λ h. let some : 0 < at ws (a + n + n) = rw r.size h in
      puts_hit ps ws 1 (omega arith) (omega arith) (omega arith) ∙ pick_some _ _ _ some ∙ r.start h)
      (λ i h. puts_miss ps ws _ (omega (arith, free.none a (suc i) h)) ∙ r.link i h)
      (λ i e. puts_hit ps ws 0 (omega arith) (omega arith) (omega arith) ∙ r.final i e)
      (λ i h. absurd (omega arith))
      r.low
      (λ i h. let z : i ≡ 0 = omega arith in rw z hc)

  row_other : (x : ℕ) → x ≢ a → x < n → Row (puts ws (push_p ws n a c)) n m x (row L x)
  row_other x ne hx =
      let ps = push_p ws n a c in
      row_frame ws (puts ws ps) n m x (row L x) (p.rows x hx)
      (puts_miss ps ws _ (omega arith))
      (puts_miss ps ws _ (omega arith))
      (puts_miss ps ws _ (omega arith))
      (λ i h. puts_miss ps ws _ (omega (arith, free.none x (suc i) h)))

  pub pool_push : Pool (puts ws (push_p ws n a c)) n m (push_l L a c)
  unfolding push_l
  pool_push =
      let ha' : a < length L = omega (arith, p.count) in
      record {
        count = length-set L a (row L a ++ (c ∷ [])) ∙ p.count;
        rows = push_cases (λ x zs. x < n → Row (puts ws (push_p ws n a c)) n m x zs) L a c ha' (λ _. row_pushed) row_other;
        apart = push_apart L a c ha' p.apart free;
      }

  -- there was room for the cell
  pub push_fits : length (row L a) < m
  push_fits =
      omega (
        arith,
        fits (puts ws (push_p ws n a c)) n m (push_l L a c) pool_push a ha,
        ap length (push_at L a c (omega (arith, p.count))),
        length-append (row L a) (c ∷ []),
      )
