-- Another key for an id: its children are written over the old key's, and every other row, and the node as given, stay.
-- Assumes nothing.
use Rattle.std.specs.Prelude.{List, [], ◌≢◌, ◌⊎◌, ◌≡◌, ◌+◌, ◌<◌, ◌≤◌, ℕ, length, set}
use Rattle.std.proofs.Common.{inl, inr, ◌∙◌, arith, length-set, get_or-set_other, get_or-set_same}
use Rattle.std.proofs.Math.Decide.{dec_lt}
use Rattle.std.proofs.Math.Seq.{length-sets}
use Rattle.std.proofs.lemmas.List.Edits.{sets}
use Rattle.lists.specs.Reads.{at}
use Rattle.lists.specs.Stores.{sets_hit, sets_miss}
use Rattle.language.specs.Term.{Match, Term, term_at}
use Rattle.rows.specs.Places.{row_keep, taken_apart, within}
use Rattle.rows.specs.Rows.{Row, Rows, taken}

-- the words after id i, whose places begin at p, got a key with the children xs
abbrev pub keying : List ℕ → ℕ → ℕ → ℕ → List ℕ → List ℕ
keying ws n m p xs = sets ws (n + n + n + n + m + p) xs

module _ (ws : List ℕ) (n m : ℕ) (ts ks : List Term) (R : Rows ws n m ts ks) (i : ℕ) (k : Term) (h : i < length ts) (e : Match k (term_at ts i)) where
  abbrev after : List ℕ
  after = keying ws n m (taken ts i) k.kids

  miss : (j : ℕ) → (n + n + n + n + m + taken ts i ≤ j → j < n + n + n + n + m + taken ts i + length k.kids → ⊥) → at after j ≡ at ws j
  miss j b = sets_miss k.kids ws (n + n + n + n + m + taken ts i) j b

  row_own : Row after n m i (taken ts i) (term_at ts i) k
  row_own =
      let r = R.row i h in
      let i_n : i < n = omega (arith, R.ids) in
      let w : taken ts i + length (term_at ts i).kids ≤ m = within ws n m ts ks R i h in
      record {
        op = miss i (omega arith) ∙ r.op;
        payload = miss (n + i) (omega arith) ∙ r.payload;
        count = miss (n + (n + i)) (omega arith) ∙ r.count;
        first = miss (n + (n + (n + i))) (omega arith) ∙ r.first;
        small = r.small;
        given = record { same = λ q l. miss (n + n + n + n + taken ts i + q) (omega arith) ∙ r.given.same q l };
        key = record { same = λ q l. sets_hit k.kids ws (n + n + n + n + m + taken ts i) q l (omega (arith, R.words, e.count)) };
        same_head = e;
      }

  -- the places of two ids do not meet
  abbrev Apart : ℕ → Type 0
  Apart j = (taken ts j + length (term_at ts j).kids ≤ taken ts i) ⊎ (taken ts i + length (term_at ts i).kids ≤ taken ts j)

  clear : (j : ℕ) → Apart j → (q : ℕ) → q < length (term_at ts j).kids
      → n + n + n + n + m + taken ts i ≤ n + n + n + n + m + taken ts j + q → n + n + n + n + m + taken ts j + q < n + n + n + n + m + taken ts i + length k.kids → ⊥
  clear j (inl u) q c y z = omega arith
  clear j (inr u) q c y z = omega (arith, e.count)

  row_other : (j : ℕ) → j < length ts → j ≢ i → Apart j → Row after n m j (taken ts j) (term_at ts j) (term_at (set ks i k) j)
  row_other j b d a =
      let w : taken ts j + length (term_at ts j).kids ≤ m = within ws n m ts ks R j b in
      let j_n : j < n = omega (arith, R.ids) in
      rw (get_or-set_other ks i j k (record { op = 0; payload = 0; kids = [] }) d)
      (row_keep ws after n m j (taken ts j) (term_at ts j) (term_at ks j) (R.row j b)
      (miss j (omega arith))
      (miss (n + j) (omega arith))
      (miss (n + (n + j)) (omega arith))
      (miss (n + (n + (n + j))) (omega arith))
      (λ q c. miss (n + n + n + n + taken ts j + q) (omega arith))
      (λ q c. miss (n + n + n + n + m + taken ts j + q) (clear j a q c)))

  pub rows_key : Rows after n m ts (set ks i k)
  rows_key = record {
    words = length-sets ws (n + n + n + n + m + taken ts i) k.kids ∙ R.words;
    ids = R.ids;
    keys = length-set ks i k ∙ R.keys;
    room = R.room;
    row = λ j b. go j b (dec_lt j i) (dec_lt i j);
  }
    where
      go : (j : ℕ) → j < length ts → Dec (j < i) → Dec (i < j) → Row (sets ws (n + n + n + n + m + taken ts i) k.kids) n m j (taken ts j) (term_at ts j) (term_at (set ks i k) j)
      go j b (yes d) x = row_other j b (λ q. omega arith) (inl (taken_apart ts j i d (omega arith)))
      go j b (no d) (yes x) = row_other j b (λ q. omega arith) (inr (taken_apart ts i j x (omega arith)))
      go j b (no d) (no x) =
          let q : j ≡ i = omega arith in
          let f : term_at (set ks i k) i ≡ k = get_or-set_same ks i k (record { op = 0; payload = 0; kids = [] }) (omega (arith, R.keys)) in
          rw (q, f) row_own
