-- The nodes that the rows of any words read as, id by id: what a loop over the ids sees. On words that hold nodes it is those.
-- Assumes nothing.
use mathlib.Core.List.{List, [], ◌++◌, ◌∷◌, map, map-append}
use Rattle.std.proofs.Common.{◌∙◌, sym, arith, take-suc, ap}
use Rattle.std.specs.Prelude.{◌≡◌, ◌+◌, ◌<◌, ◌≤◌, suc, zero, ℕ, length, take}
use Rattle.std.proofs.Math.Path.{refl}
use Rattle.std.proofs.Math.Seq.{take-length}
use Rattle.lists.specs.Keeps.{upto}
use Rattle.language.specs.Fitting.{term}
use Rattle.language.specs.Term.{Term, spell, words}
use Rattle.language.specs.declared.fit.Fit.{Fit}
use Rattle.rows.specs.Determined.{read_given}
use Rattle.rows.specs.Read.{given_read}
use Rattle.rows.specs.Rows.{Rows}
use Rattle.spelling.specs.Puts.{Puts}
use Rattle.spelling.specs.Listed.{spell_snoc}
use Rattle.spelling.specs.Pieces.{Wrote, pieces, pieces_next, pieces_room, wrote}

-- the nodes of the first k ids, as given
unfoldable pub stored : List ℕ → ℕ → ℕ → ℕ → List Term
stored rs n m k = map (λ (i : ℕ). given_read rs n m i) (upto k)

module _ (rs : List ℕ) (n m : ℕ) where
  stored_none : stored rs n m 0 ≡ []
  unfolding stored upto
  stored_none = refl

  stored_suc : (k : ℕ) → stored rs n m (suc k) ≡ stored rs n m k ++ (given_read rs n m k ∷ [])
  unfolding stored upto
  stored_suc k = map-append (λ (i : ℕ). given_read rs n m i) (upto k) (k ∷ [])

  -- their words are a list that is measured and written piece by piece
  abbrev pub row_piece : ℕ → List ℕ
  row_piece i = words (given_read rs n m i)

  pub stored_pieces : (k : ℕ) → spell (stored rs n m k) ≡ pieces row_piece k
  unfolding stored upto spell pieces
  stored_pieces zero = refl
  stored_pieces (suc k) = ap spell (stored_suc k) ∙ spell_snoc (stored rs n m k) (given_read rs n m k) ∙ ap (λ (l : List ℕ). l ++ row_piece k) (stored_pieces k)

  -- a loop that writes them: the room for one more, and one more written
  module _ (i : ℕ) (x : Fit) (is : term x ≡ given_read rs n m i) (out mid : List ℕ) (p : ℕ) (w : Wrote out 0 (pieces row_piece i) p mid) where
    pub stored_room : (k : ℕ) → i < k → length (spell (stored rs n m k)) ≤ length out → p + length (words (term x)) ≤ length mid
    stored_room k h fits = rw is (pieces_room row_piece out i p mid w k h (rw (stored_pieces k) at fits))

    pub stored_next : (r : ℕ) (out' : List ℕ) → Puts mid p x r out' → Wrote out 0 (pieces row_piece (i + 1)) r out'
    stored_next r out' d = pieces_next row_piece out i p mid w r out' (rw is at (wrote mid p (words (term x)) r out' d.exact d.next))

  -- rows that hold the nodes ts
  module _ (ts ks : List Term) (R : Rows rs n m ts ks) where
    front : (k : ℕ) → k ≤ length ts → stored rs n m k ≡ take k ts
    front zero h = stored_none
    front (suc k) h =
        stored_suc k
        ∙ rw (front k (omega arith), read_given rs n m ts ks R k (omega arith)) (sym (take-suc ts k (record { op = 0; payload = 0; kids = [] }) (omega arith)))

    pub stored_is : stored rs n m (length ts) ≡ ts
    stored_is = front (length ts) (omega arith) ∙ take-length ts
