-- What `measure_form` and `put_form` promise: on any words a form is measured and written as the nodes at its places, one after the other, and it is refused exactly
-- where one of them leads astray. On words that hold a listing by the prices of a clean graph, what is written is the words of that listing.
-- Assumes nothing.
use Rattle.broken.specs.declared.Broken.{Broken}
use Rattle.broken.specs.Words.{broken, err≢ok}
use Rattle.std.specs.Prelude.{Ok, Result, List, [], ◌++◌, ◌∷◌, ◌≡◌, refl, ◌+◌, ◌<◌, ◌≤◌, suc, zero, ℕ, length, take}
use Rattle.std.proofs.Common.{◌∙◌, ap, subst, sym, add-one, arith, take-suc}
use Rattle.std.proofs.Math.Decide.{ℕ_discrete}
use Rattle.std.proofs.Math.Seq.{take-length}
use Rattle.language.specs.Fitting.{term}
use Rattle.language.specs.Term.{Term, spell, words}
use Rattle.language.specs.declared.fit.Fit.{Fit}
use Rattle.steps.specs.Graph.{Graph, node}
use Rattle.egraph.specs.ClassReads.{Classed}
use Rattle.spelling.specs.Pieces.{Wrote, long_more, pieces, pieces_more, pieces_next, pieces_none, pieces_room, wrote}
use Rattle.layout.specs.View.{View}
use Rattle.layout.specs.declared.Head.{Head}
use Rattle.price.specs.Listing.{Listing, form_words, in_order}
use Rattle.price.specs.Pass.{Table}
use Rattle.price.specs.Shown.{in_order_length}
use Rattle.pricing.specs.Entries.{Prices}
use Rattle.pricing.specs.Laid.{Laid}
use Rattle.spelling.specs.Listed.{spell_snoc}
use Rattle.spelling.specs.Puts.{Puts}
use Rattle.forming.specs.FormNode.{FineNode, NodeAt, form_node, form_piece, node_fine, node_is}
use Rattle.forming.specs.Kept.{Kept}

-- all of the first k places
abbrev pub FineForm : Head → View → ℕ → Type 0
FineForm h v k = (p : ℕ) → p < k → FineNode h v p

-- ---- measured

pub record FormMeasured (h : Head) (v : View) (k : ℕ) (r : Result ℕ Broken) : Type 0 where
  pub whole : (x : ℕ) → r ≡ Ok x → x ≡ length (pieces (form_piece h v) k)
  pub fine : (x : ℕ) → r ≡ Ok x → FineForm h v k
  pub broken : r ≡ broken → FineForm h v k → ⊥

module _ (h : Head) (v : View) where
  pub fine_none : FineForm h v 0
  fine_none p lt = absurd (omega arith)

  pub measure_whole : (k total : ℕ) → total ≡ length (pieces (form_piece h v) k) → FineForm h v k → FormMeasured h v k (Ok total)
  measure_whole k total t F = record {
    whole = λ x q. let s : x ≡ total = cc in s ∙ t;
    fine = λ x q. F;
    broken = λ q. err≢ok (sym q);
  }

  module _ (p : ℕ) (r : Result Fit Broken) (N : NodeAt h v p r) where
    pub measure_broken : (k : ℕ) → p < k → r ≡ broken → FormMeasured h v k broken
    measure_broken k lt e = record { whole = λ x q. err≢ok q; fine = λ x q. err≢ok q; broken = λ _ F. N.lost e (F p lt) }

    module _ (x : Fit) (e : r ≡ Ok x) where
      piece_is : words (term x) ≡ form_piece h v p
      piece_is = ap words (N.exact x e)

      pub measure_more : (total y : ℕ) → y ≡ length (words (term x)) → total ≡ length (pieces (form_piece h v) p)
          → total + y ≡ length (pieces (form_piece h v) (p + 1))
      measure_more total y w t = long_more (form_piece h v) p total y t (w ∙ ap length piece_is)

      pub fine_more : FineForm h v p → FineForm h v (p + 1)
      fine_more F q lt = go (ℕ_discrete q p)
        where
          go : Dec (q ≡ p) → FineNode h v q
          go (yes i) = rw i (N.only x e)
          go (no i) = F q (omega arith)

      -- ---- written

      module _ (out mid : List ℕ) (a : ℕ) (W : Wrote out 0 (pieces (form_piece h v) p) a mid) where
        pub put_room : (k : ℕ) → p < k → length (pieces (form_piece h v) k) ≤ length out → a + length (words (term x)) ≤ length mid
        put_room k lt fits = subst (λ (xs : List ℕ). a + length xs ≤ length mid) (sym piece_is) (pieces_room (form_piece h v) out p a mid W k lt fits)

        pub put_next : (s : ℕ) (out' : List ℕ) → Puts mid a x s out' → Wrote out 0 (pieces (form_piece h v) (p + 1)) s out'
        put_next s out' d =
            pieces_next (form_piece h v) out p a mid W s out'
            (rw piece_is at (wrote mid a (words (term x)) s out' d.exact d.next))

-- ---- on words that hold a listing

spell_none : [] ≡ spell []
unfolding spell
spell_none = refl

take_more : (ts : List Term) (k : ℕ) → k < length ts → take (suc k) ts ≡ take k ts ++ (node ts k ∷ [])
unfolding node
take_more ts k h = take-suc ts k (record { op = 0; payload = 0; kids = [] }) h

-- pieces that are nodes in words
module _ (f : ℕ → Term) (ts : List Term) (h : (p : ℕ) → p < length ts → f p ≡ node ts p) where
  front : (k : ℕ) → k ≤ length ts → pieces (λ (p : ℕ). words (f p)) k ≡ spell (take k ts)
  front zero l = pieces_none (λ (p : ℕ). words (f p)) ∙ spell_none
  front (suc k) l =
      ap (pieces (λ (p : ℕ). words (f p))) (sym (add-one k))
      ∙ (pieces_more (λ (p : ℕ). words (f p)) k
      ∙ (rw (front k (omega arith), h k (omega arith)) (sym (ap spell (take_more ts k (omega arith)) ∙ spell_snoc (take k ts) (node ts k)))))

  pieces_spell : pieces (λ (p : ℕ). words (f p)) (length ts) ≡ spell ts
  pieces_spell = front (length ts) (omega arith) ∙ ap spell (take-length ts)

module _ (h : Head) (v : View) (g : Graph) (t : Table ℕ) (l : Listing) (few : h.ids ≤ h.n) (C : Classed h v g) (P : Prices g h.n v.scratch t)
    (L : Laid h.n v.scratch l) (K : Kept t l) where
  pub form_fine : FineForm h v (length l)
  form_fine p lt = node_fine h v g t l few C P L K p lt

  -- what is written is the words of the listing
  pub form_is : pieces (form_piece h v) (length l) ≡ form_words l
  form_is =
      let e = in_order_length l in
      rw (← e) (pieces_spell (form_node h v) (in_order l) (λ p lt. node_is h v g t l few C P L K p (omega arith)))
