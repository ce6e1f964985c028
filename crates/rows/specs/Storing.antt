-- A new id: the six runs of words that a store writes, and that the words then hold one node and one key more.
-- Assumes nothing.
use Rattle.std.specs.Prelude.{List, [], ◌++◌, ◌∷◌, ◌⊎◌, ◌≡◌, ◌+◌, ◌<◌, ◌≤◌, ℕ, length}
use Rattle.std.proofs.Common.{inl, inr, ◌∙◌, sym, add-zero, arith}
use Rattle.lists.specs.Reads.{length_more, lt_more}
use Rattle.lists.specs.Stores.{runs, runs_hit, runs_length, runs_miss}
use Rattle.language.specs.Term.{Match, Term, places, term_at, term_new, term_old}
use Rattle.rows.specs.Places.{row_keep, taken_apart, taken_append, taken_more}
use Rattle.rows.specs.Rows.{Row, Rows, size, taken}

-- operator, payload, count, first place, the children as given, the children of the key
abbrev pub storing : ℕ → ℕ → ℕ → ℕ → Term → Term → List (ℕ × List ℕ)
storing n m i p t k =
    (i, t.op ∷ [])
    ∷ (n + i, t.payload ∷ [])
    ∷ (n + (n + i), length t.kids ∷ [])
    ∷ (n + (n + (n + i)), p ∷ [])
    ∷ (n + n + n + n + p, t.kids)
    ∷ (n + n + n + n + m + p, k.kids)
    ∷ []

-- the row of the new id
row_new : (ws : List ℕ) (n m i p : ℕ) (t k : Term) → length ws ≡ size n m → i < n → p + length t.kids ≤ m → length t.kids ≤ places
    → Match k t → Row (runs ws (storing n m i p t k)) n m i p t k
row_new ws n m i p t k w h l s e = record {
  op = rw (add-zero i) at (runs_hit (storing n m i p t k) ws 0 0 (omega arith) (omega arith) (omega arith) (omega arith));
  payload = rw (add-zero (n + i)) at (runs_hit (storing n m i p t k) ws 1 0 (omega arith) (omega arith) (omega arith) (omega arith));
  count = rw (add-zero (n + (n + i))) at (runs_hit (storing n m i p t k) ws 2 0 (omega arith) (omega arith) (omega arith) (omega arith));
  first = rw (add-zero (n + (n + (n + i)))) at (runs_hit (storing n m i p t k) ws 3 0 (omega arith) (omega arith) (omega arith) (omega arith));
  small = s;
  given = record { same = λ q b. runs_hit (storing n m i p t k) ws 4 q (omega arith) b (omega arith) (omega arith) };
  key = record { same = λ q b. runs_hit (storing n m i p t k) ws 5 q (omega arith) b (omega arith) tt };
  same_head = e;
}

module _ (ws : List ℕ) (n m : ℕ) (ts ks : List Term) (R : Rows ws n m ts ks) (i p : ℕ) (t k : Term)
    (ei : i ≡ length ts) (ep : p ≡ taken ts (length ts)) (h : i < n) (l : p + length t.kids ≤ m) (s : length t.kids ≤ places) (e : Match k t) where
  -- the other rows stay
  row_old : (j : ℕ) → j < length ts → Row (runs ws (storing n m i p t k)) n m j (taken ts j) (term_at ts j) (term_at ks j)
  row_old j b =
      let a : taken ts j + length (term_at ts j).kids ≤ p = omega (arith, taken_apart ts j (length ts) b (omega arith)) in
      let j_n : j < n = omega (arith, R.ids) in
      row_keep ws (runs ws (storing n m i p t k)) n m j (taken ts j) (term_at ts j) (term_at ks j) (R.row j b)
      (runs_miss (storing n m i p t k) ws j (omega arith))
      (runs_miss (storing n m i p t k) ws (n + j) (omega arith))
      (runs_miss (storing n m i p t k) ws (n + (n + j)) (omega arith))
      (runs_miss (storing n m i p t k) ws (n + (n + (n + j))) (omega arith))
      (λ q c. runs_miss (storing n m i p t k) ws (n + n + n + n + taken ts j + q) (omega arith))
      (λ q c. runs_miss (storing n m i p t k) ws (n + n + n + n + m + taken ts j + q) (omega arith))

  row_all : (j : ℕ) → (j < length ts) ⊎ (j ≡ length ts) → Row (runs ws (storing n m i p t k)) n m j (taken (ts ++ (t ∷ [])) j) (term_at (ts ++ (t ∷ [])) j) (term_at (ks ++ (k ∷ [])) j)
  row_all j (inl d) = rw (taken_append ts (t ∷ []) j (omega arith), term_old ts t j d, term_old ks k j (omega (arith, R.keys))) (row_old j d)
  row_all j (inr d) =
      let ek : j ≡ length ks = omega (arith, R.keys) in
      let ft : term_at (ts ++ (t ∷ [])) j ≡ t = rw d (term_new ts t) in
      let fk : term_at (ks ++ (k ∷ [])) j ≡ k = rw ek (term_new ks k) in
      let ej : j ≡ i = omega arith in
      let fp : taken (ts ++ (t ∷ [])) j ≡ p = taken_append ts (t ∷ []) j (omega arith) ∙ rw d (sym ep) in
      rw (fp, ft, fk, ej) (row_new ws n m i p t k R.words h l s e)

  pub rows_store : Rows (runs ws (storing n m i p t k)) n m (ts ++ (t ∷ [])) (ks ++ (k ∷ []))
  rows_store = record {
    words = runs_length (storing n m i p t k) ws ∙ R.words;
    ids = rw (length_more ts t) (omega arith);
    keys = rw (length_more ts t, length_more ks k) (omega (arith, R.keys));
    room = rw (taken_more ts t) (omega arith);
    row = λ j b. row_all j (lt_more ts t j b);
  }
