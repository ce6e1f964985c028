-- Places are handed out in order: the places of two nodes do not meet, and all of them are inside the room.
-- Assumes nothing.
use Rattle.std.specs.Prelude.{List, [], ◌++◌, ◌∷◌, ◌≡◌, refl, ◌+◌, ◌<◌, ◌≤◌, suc, zero, ℕ, length}
use Rattle.std.proofs.Common.{◌∙◌, not-suc-le-zero, arith}
use Rattle.lists.specs.Reads.{at, length_more}
use Rattle.language.specs.Term.{Term, term_at, term_new}
use Rattle.rows.specs.Rows.{Row, Rows, taken}

pub taken_step : (ts : List Term) (i : ℕ) → i < length ts → taken ts (suc i) ≡ taken ts i + length (term_at ts i).kids
taken_step [] i h = absurd (not-suc-le-zero h)
taken_step (t ∷ ts) zero h = omega arith
taken_step (t ∷ ts) (suc i) h = omega (arith, taken_step ts i (omega arith))

taken_le : (ts : List Term) (i j : ℕ) → i ≤ j → taken ts i ≤ taken ts j
taken_le ts zero j h = omega arith
taken_le [] (suc i) j h = omega arith
taken_le (t ∷ ts) (suc i) zero h = absurd (omega arith)
taken_le (t ∷ ts) (suc i) (suc j) h = omega (arith, taken_le ts i j (omega arith))

pub taken_append : (ts us : List Term) (i : ℕ) → i ≤ length ts → taken (ts ++ us) i ≡ taken ts i
taken_append ts us zero h = refl
taken_append [] us (suc i) h = absurd (omega arith)
taken_append (t ∷ ts) us (suc i) h = omega (arith, taken_append ts us i (omega arith))

-- one more node takes its places behind the others
pub taken_more : (ts : List Term) (t : Term) → taken (ts ++ (t ∷ [])) (length (ts ++ (t ∷ []))) ≡ taken ts (length ts) + length t.kids
taken_more ts t =
    rw (length_more ts t)
    (taken_step (ts ++ (t ∷ [])) (length ts) (omega (arith, length_more ts t))
    ∙ rw (taken_append ts (t ∷ []) (length ts) (omega arith), term_new ts t) refl)

-- a node's places end before a later node's begin, and before the end
pub taken_apart : (ts : List Term) (i j : ℕ) → i < j → j ≤ length ts → taken ts i + length (term_at ts i).kids ≤ taken ts j
taken_apart ts i j h k = omega (arith, taken_step ts i (omega arith), taken_le ts (suc i) j h)

module _ (ws : List ℕ) (n m : ℕ) (ts ks : List Term) (R : Rows ws n m ts ks) where
  pub within : (i : ℕ) → i < length ts → taken ts i + length (term_at ts i).kids ≤ m
  within i h = omega (arith, taken_apart ts i (length ts) h (omega arith), R.room)

-- a row stays where its words do
pub row_keep : (ws ws' : List ℕ) (n m i p : ℕ) (t k : Term) → Row ws n m i p t k
    → at ws' i ≡ at ws i → at ws' (n + i) ≡ at ws (n + i) → at ws' (n + (n + i)) ≡ at ws (n + (n + i)) → at ws' (n + (n + (n + i))) ≡ at ws (n + (n + (n + i)))
    → ((q : ℕ) → q < length t.kids → at ws' (n + n + n + n + p + q) ≡ at ws (n + n + n + n + p + q))
    → ((q : ℕ) → q < length t.kids → at ws' (n + n + n + n + m + p + q) ≡ at ws (n + n + n + n + m + p + q))
    → Row ws' n m i p t k
row_keep ws ws' n m i p t k r a b c d g h = record {
  op = a ∙ r.op;
  payload = b ∙ r.payload;
  count = c ∙ r.count;
  first = d ∙ r.first;
  small = r.small;
  given = record { same = λ q l. g q l ∙ r.given.same q l };
  key = record { same = λ q l. h q (omega (arith, r.same_head.count)) ∙ r.key.same q l };
  same_head = r.same_head;
}
