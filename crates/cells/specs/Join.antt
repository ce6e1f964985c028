-- A join of two lists: what it does to each list, that no cell stands twice after it, and that the words it leaves hold the joined lists.
-- Assumes nothing.
use Rattle.std.specs.Prelude.{List, [], ◌++◌, ◌≢◌, ◌⊎◌, ◌≡◌, refl, ◌+◌, ◌-◌, ◌<◌, ◌≤◌, suc, ℕ, set}
use Rattle.std.proofs.Common.{append-nil, inl, inr, ⊎_elim, ◌∙◌, ap, subst, sym, not-suc-le-zero, arith, length-append, ext_get_or, get_or-set_other, get_or-set_same}
use Rattle.std.proofs.Math.ListN.{length, length-set}
use Rattle.std.proofs.lemmas.List.{set-get_or}
use Rattle.lists.specs.Reads.{at, at_left, at_right, set_all}
use Rattle.lists.specs.Stores.{puts, puts_hit, puts_miss}
use Rattle.lists.specs.Tests.{lt_or}
use Rattle.cells.specs.Pool.{Apart, Pool, Row, join_l, row}
use Rattle.cells.specs.Rows.{fits, row_append, row_frame, row_none}
use Rattle.cells.specs.Writes.{join_p, pick_none, pick_some}

-- ---- on lists

-- what holds of the empty list at c, of the two lists in one at a, and of the other lists, holds of all
pub join_cases : (P : ℕ → List ℕ → Type 0) (L : List (List ℕ)) (a c : ℕ) → a < length L → c < length L → P c [] → P a (row L a ++ row L c)
    → ((x : ℕ) → x ≢ a → x ≢ c → P x (row L x)) → (x : ℕ) → P x (row (join_l L a c) x)
unfolding join_l
join_cases P L a c h k p q r =
    set_all P (set L a (row L a ++ row L c)) c [] [] (rw length-set k) p
    (λ x ne. set_all (λ x zs. x ≢ c → P x zs) L a (row L a ++ row L c) [] h (λ _. q) (λ x e f. r x e f) x ne)

pub join_at : (L : List (List ℕ)) (a c : ℕ) → a < length L → a ≢ c → row (join_l L a c) a ≡ row L a ++ row L c
unfolding join_l
join_at L a c h ne =
    get_or-set_other (set L a (row L a ++ row L c)) c a [] [] ne ∙ get_or-set_same L a (row L a ++ row L c) [] h

pub join_gone : (L : List (List ℕ)) (a c : ℕ) → c < length L → row (join_l L a c) c ≡ []
unfolding join_l
join_gone L a c h = get_or-set_same (set L a (row L a ++ row L c)) c [] [] (rw length-set h)

pub join_else : (L : List (List ℕ)) (a c x : ℕ) → x ≢ a → x ≢ c → row (join_l L a c) x ≡ row L x
unfolding join_l
join_else L a c x e f =
    get_or-set_other (set L a (row L a ++ row L c)) c x [] [] f ∙ get_or-set_other L a x (row L a ++ row L c) [] e

-- v, at place i of list x after a join, stood there before, or in the list that was joined on
pub record FromJoin (L : List (List ℕ)) (a c x i v : ℕ) : Type 0 where
  pub y : ℕ
  pub j : ℕ
  pub inside : j < length (row L y)
  pub same : v ≡ at (row L y) j
  pub how : ((y ≡ x) × (j ≡ i) × (y ≢ c)) ⊎ ((y ≡ c) × (x ≡ a) × (i ≡ length (row L a) + j))

pub join_from : (L : List (List ℕ)) (a c : ℕ) → a < length L → c < length L → a ≢ c → (x i : ℕ) → i < length (row (join_l L a c) x) → FromJoin L a c x i (at (row (join_l L a c) x) i)
join_from L a c h k ne =
    join_cases (λ x zs. (i : ℕ) → i < length zs → FromJoin L a c x i (at zs i)) L a c h k
    (λ i l. absurd (not-suc-le-zero l))
    (λ i l. ⊎_elim
    (λ (o : i < length (row L a)). record { y = a; j = i; inside = o; same = at_left (row L a) (row L c) i o; how = inl (refl, refl, ne) })
    (λ (o : length (row L a) ≤ i). record {
      y = c;
      j = i - length (row L a);
      inside = omega (arith, length-append (row L a) (row L c));
      same = at_right (row L a) (row L c) i (i - length (row L a)) (omega arith);
      how = inr (refl, refl, omega arith);
    })
    (lt_or i (length (row L a))))
    (λ x e f i l. record { y = x; j = i; inside = l; same = refl; how = inl (refl, refl, f) })

join_apart : (L : List (List ℕ)) (a c : ℕ) → a < length L → c < length L → a ≢ c → Apart L → Apart (join_l L a c)
join_apart L a c h k ne p = record { once = λ x i y j o l e. go x i y j e (join_from L a c h k ne x i o) (join_from L a c h k ne y j l) }
  where
    how : (x i y j : ℕ) {u v : ℕ} (s : FromJoin L a c x i u) (t : FromJoin L a c y j v) → s.y ≡ t.y → s.j ≡ t.j
        → ((s.y ≡ x) × (s.j ≡ i) × (s.y ≢ c)) ⊎ ((s.y ≡ c) × (x ≡ a) × (i ≡ length (row L a) + s.j))
        → ((t.y ≡ y) × (t.j ≡ j) × (t.y ≢ c)) ⊎ ((t.y ≡ c) × (y ≡ a) × (j ≡ length (row L a) + t.j))
        → (x ≡ y) × (i ≡ j)
    how x i y j s t e f (inl u) (inl v) = (omega arith, omega arith)
    how x i y j s t e f (inl u) (inr v) = (omega arith, omega arith)
    how x i y j s t e f (inr u) (inl v) = (omega arith, omega arith)
    how x i y j s t e f (inr u) (inr v) = (omega arith, omega arith)

    go : (x i y j : ℕ) {u v : ℕ} → u ≡ v → FromJoin L a c x i u → FromJoin L a c y j v → (x ≡ y) × (i ≡ j)
    go x i y j e s t =
        let q = p.once s.y s.j t.y t.j s.inside t.inside (sym s.same ∙ e ∙ t.same) in
        how x i y j s t q.0 q.1 s.how t.how

-- nothing is joined on: the lists stay
pub join_none : (L : List (List ℕ)) (a c : ℕ) → length (row L c) ≡ 0 → join_l L a c ≡ L
unfolding join_l
join_none L a c e =
    let none : row L c ≡ [] = ext_get_or 0 (row L c) [] e (λ i h. absurd (omega arith)) in
    let one : set L a (row L a ++ row L c) ≡ L = rw (none, append-nil) (set-get_or L a []) in
    rw one (subst (λ (xs : List ℕ). set L c xs ≡ L) none (set-get_or L c []))

-- ---- on words

module _ (ws : List ℕ) (n m : ℕ) (L : List (List ℕ)) (room : n + n + n + m ≤ length ws) (p : Pool ws n m L)
    (a c : ℕ) (ha : a < n) (hc : c < n) (ne : a ≢ c) (some : 0 < length (row L c)) where
  -- the first cell of c is the second cell of no pair in a row
  first_apart : (x i : ℕ) → suc i < length (row L x) → at (row L x) (suc i) ≢ at ws (c + n)
  first_apart x i h e =
      omega (arith, (p.apart.once x (suc i) c 0 h some (e ∙ (p.rows c hc).start some)).1)

  pub first_low : at ws (c + n) < m
  first_low = rw ((p.rows c hc).start some) ((p.rows c hc).low 0 some)

  row_joined : Row (puts ws (join_p ws n a c)) n m a (row L a ++ row L c)
  row_joined =
      let r = p.rows a ha in
      let s = p.rows c hc in
      let ps = join_p ws n a c in
      let lo = first_low in
      row_append (puts ws ps) n m a (row L a) (row L c) some
      (puts_hit ps ws 3 (omega arith) (omega arith) (omega arith) ∙ rw (r.size, s.size) refl)
      (λ i e. puts_hit ps ws 2 (omega arith) (omega arith) (omega arith) ∙ s.final i e)
      (λ e. puts_hit ps ws 1 (omega arith) (omega arith) (omega arith) ∙ pick_none _ _ _ (r.size ∙ e) ∙ s.start some)
      (λ h. let pos : 0 < at ws (a + n + n) = rw r.size h in
      puts_hit ps ws 1 (omega arith) (omega arith) (omega arith) ∙ pick_some _ _ _ pos ∙ r.start h)
      (λ i h. puts_miss ps ws _ (omega (arith, first_apart a i h)) ∙ r.link i h)
      (λ i e. rw (← s.start some) (puts_hit ps ws 0 (omega arith) (omega arith) (omega arith) ∙ r.final i e))
      (λ i h. puts_miss ps ws _ (omega (arith, first_apart c i h)) ∙ s.link i h)
      r.low
      s.low

  row_gone : Row (puts ws (join_p ws n a c)) n m c []
  row_gone =
      let lo = first_low in
      row_none (puts ws (join_p ws n a c)) n m c (puts_hit (join_p ws n a c) ws 4 (omega arith) (omega arith) tt)

  row_other : (x : ℕ) → x ≢ a → x ≢ c → x < n → Row (puts ws (join_p ws n a c)) n m x (row L x)
  row_other x na nc hx =
      let ps = join_p ws n a c in
      let lo = first_low in
      row_frame ws (puts ws ps) n m x (row L x) (p.rows x hx)
      (puts_miss ps ws _ (omega arith))
      (puts_miss ps ws _ (omega arith))
      (puts_miss ps ws _ (omega arith))
      (λ i h. puts_miss ps ws _ (omega (arith, first_apart x i h)))

  pub pool_join : Pool (puts ws (join_p ws n a c)) n m (join_l L a c)
  unfolding join_l
  pool_join =
      let ha' : a < length L = omega (arith, p.count) in
      let hc' : c < length L = omega (arith, p.count) in
      record {
        count = simp length-set p.count;
        rows = join_cases (λ x zs. x < n → Row (puts ws (join_p ws n a c)) n m x zs) L a c ha' hc'
            (λ _. row_gone) (λ _. row_joined) row_other;
        apart = join_apart L a c ha' hc' ne p.apart;
      }

  -- a joined list is no longer than the number of cells
  pub join_fits : length (row L a) + length (row L c) ≤ m
  join_fits =
      omega (
        arith,
        fits (puts ws (join_p ws n a c)) n m (join_l L a c) pool_join a ha,
        ap length (join_at L a c (omega (arith, p.count)) ne),
        length-append (row L a) (row L c),
      )
