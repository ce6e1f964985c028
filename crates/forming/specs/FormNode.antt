-- The node at a place of the listing, as the words say it: the class at the place, the id that its mark names, the node of that id, with the places of its children.
-- `NodeAt` is what `form_node` promises on any words; on words that hold a clean graph, its prices and a listing by them it is the node of the listing.
-- Assumes nothing.
use Rattle.std.specs.Prelude.{IsOk, Ok, Err, Result, Some, List, ◌≡◌, ◌*◌, ◌+◌, ◌-◌, ◌<◌, ◌≤◌, suc, ℕ, length}
use Rattle.broken.specs.declared.Broken.{Broken}
use Rattle.broken.specs.Words.{broken, err≢ok}
use Rattle.std.proofs.Common.{◌∙◌, subst, arith}
use Rattle.std.proofs.Math.Path.{ap, refl, sym}
use Rattle.lists.specs.Members.{mem_at}
use Rattle.lists.specs.Reads.{at, map_at}
use Rattle.language.specs.Fitting.{term}
use Rattle.language.specs.Term.{Term, over_kids, term_path, words}
use Rattle.language.specs.declared.Id.{Id}
use Rattle.language.specs.declared.fit.Fit.{Fit}
use Rattle.steps.specs.Graph.{Graph, node}
use Rattle.egraph.specs.ClassReads.{Classed, Readable, RootNode, classed_kids, classed_node, root_node_in}
use Rattle.layout.specs.View.{View}
use Rattle.layout.specs.declared.Head.{Head}
use Rattle.price.specs.Listing.{Listing, in_order, or_zero, spot, spot_of, with_places}
use Rattle.price.specs.Pass.{Table}
use Rattle.price.specs.Shown.{in_order_at}
use Rattle.pricing.specs.Entries.{Names, Prices, entry, mark, mark_is, named}
use Rattle.pricing.specs.Laid.{Laid, class_at, place_word}
use Rattle.pricing.specs.declared.Entry.{Entry}
use Rattle.forming.specs.Kept.{AtPlace, Kept}
use Rattle.forming.specs.Placed.{HasPlace, KidsPlaced, WithPlaces, place_at}

-- ---- on any words

-- the mark of the class at place p
abbrev pub mark_of : List ℕ → ℕ → ℕ → ℕ
mark_of ss n p = at ss (2 * n + at ss (4 * n + p))

-- the node of the id that it names
abbrev pub its_node : Head → View → ℕ → Term
its_node h v p = root_node_in h v (mark_of v.scratch h.n p - 1)

unfoldable pub form_node : Head → View → ℕ → Term
form_node h v p = over_kids (place_at h.n v.scratch) (its_node h v p)

-- in words
abbrev pub form_piece : Head → View → ℕ → List ℕ
form_piece h v p = words (form_node h v p)

-- nothing leads astray
pub record FineNode (h : Head) (v : View) (p : ℕ) : Type 0 where
  pub class_low : at v.scratch (4 * h.n + p) < h.n
  pub marked : 0 < mark_of v.scratch h.n p
  pub readable : Readable h v (mark_of v.scratch h.n p - 1)
  pub kids : KidsPlaced h.n v.scratch (its_node h v p)

pub record NodeAt (h : Head) (v : View) (p : ℕ) (r : Result Fit Broken) : Type 0 where
  pub exact : (x : Fit) → r ≡ Ok x → term x ≡ form_node h v p
  pub only : (x : Fit) → r ≡ Ok x → FineNode h v p
  pub lost : r ≡ broken → FineNode h v p → ⊥

-- where nothing leads astray there is a node
pub node_there : (h : Head) (v : View) (p : ℕ) (r : Result Fit Broken) → NodeAt h v p r → FineNode h v p → IsOk r
node_there h v p (Ok x) N F = refl
node_there h v p (Err _) N F = absurd (N.lost refl F)

-- ---- the id that the mark names

pub record ChosenAt (n : ℕ) (ss : List ℕ) (p : ℕ) (r : Result Id Broken) : Type 0 where
  pub found : (i : Id) → r ≡ Ok i → (at ss (4 * n + p) < n) × (0 < mark_of ss n p) × (i.0 ≡ mark_of ss n p - 1)
  pub lost : r ≡ broken → at ss (4 * n + p) < n → 0 < mark_of ss n p → ⊥

-- ---- the node

refuse : (h : Head) (v : View) (p : ℕ) → (FineNode h v p → ⊥) → NodeAt h v p broken
refuse h v p b = record { exact = λ x e. err≢ok e; only = λ x e. err≢ok e; lost = λ _ F. b F }

module _ (h : Head) (v : View) (p : ℕ) (o : Result Id Broken) (C : ChosenAt h.n v.scratch p o) where
  module _ (i : Id) (e : o ≡ Ok i) (f : Result Fit Broken) (K : RootNode h v i.0 f) where
    chosen_id : i.0 ≡ mark_of v.scratch h.n p - 1
    chosen_id = (C.found i e).2

    module _ (y : Fit) (q : f ≡ Ok y) where
      its : term y ≡ its_node h v p
      its = (K.found y q).1 ∙ ap (root_node_in h v) chosen_id

      pub node_placed : (r : Result Fit Broken) → WithPlaces h.n v.scratch (term y) r → NodeAt h v p r
      unfolding form_node
      node_placed r W = record {
        exact = λ x w. W.exact x w ∙ ap (over_kids (place_at h.n v.scratch)) its;
        only = λ x w.
            let k = C.found i e in
            record { class_low = k.0; marked = k.1; readable = rw (← chosen_id) (K.found y q).0; kids = rw its at (W.only x w) };
        lost = λ w F. W.lost w (rw its F.kids);
      }

-- ---- on words that hold a listing

module _ (h : Head) (v : View) (g : Graph) (t : Table ℕ) (l : Listing) (few : h.ids ≤ h.n) (C : Classed h v g) (P : Prices g h.n v.scratch t)
    (L : Laid h.n v.scratch l) (K : Kept t l) where
  module _ (p : ℕ) (hp : p < length l) where
    abbrev ss : List ℕ
    ss = v.scratch

    abbrev n : ℕ
    n = h.n

    here : AtPlace t l p
    here = K.each p hp

    -- the entry of the class
    there : (e : Entry) × (entry n ss (class_at p l) ≡ Some e) × Names g e here.best
    there = named g _ here.best (rw here.chosen at (P.each (class_at p l) (L.low p hp)))

    marked : mark_of ss n p ≡ suc there.0.id.0
    marked = rw (L.classes p hp) (sym (mark_is _ _) ∙ ap mark there.1)

    id_is : mark_of ss n p - 1 ≡ there.0.id.0
    id_is = omega (arith, marked)

    -- its node is the chosen node
    node_read : its_node h v p ≡ here.best.node
    node_read = ap (λ (i : ℕ). root_node_in h v i) id_is ∙ ((classed_node C there.0.id.0 there.2.known).1 ∙ there.2.node_is)

    -- the place word of a child
    place_is : (c : ℕ) → c < n → (q : ℕ) → spot c l ≡ Some q → at ss (3 * n + c) ≡ suc q
    place_is c lt q e = L.places c lt ∙ ap place_word e

    kid_low : (i : ℕ) → i < length here.best.node.kids → at here.best.node.kids i < n
    kid_low i lt =
        let k : at here.best.node.kids i < h.ids =
        subst (λ (x : Term). (i : ℕ) → i < length x.kids → at x.kids i < h.ids) there.2.node_is (classed_kids C there.0.id.0 there.2.known) i lt in
        omega arith

    kid_placed : (i : ℕ) → i < length here.best.node.kids → HasPlace n ss (at here.best.node.kids i)
    kid_placed i lt =
        let s = here.kids (at here.best.node.kids i) (mem_at here.best.node.kids i lt) in
        let lo = kid_low i lt in
        (lo, omega (arith, place_is (at here.best.node.kids i) lo s.0 s.1))

    pub node_fine : FineNode h v p
    node_fine = record {
      class_low = rw (L.classes p hp) (L.low p hp);
      marked = omega (arith, marked);
      readable = rw id_is (classed_node C there.0.id.0 there.2.known).0;
      kids = rw node_read kid_placed;
    }

    same_place : (i : ℕ) → i < length here.best.node.kids → place_at n ss (at here.best.node.kids i) ≡ spot_of l (at here.best.node.kids i)
    same_place i lt =
        let s = here.kids (at here.best.node.kids i) (mem_at here.best.node.kids i lt) in
        let w = place_is (at here.best.node.kids i) (kid_low i lt) s.0 s.1 in
        let z : place_at n ss (at here.best.node.kids i) ≡ s.0 = omega arith in
        z ∙ sym (ap or_zero s.1)

    -- it is the node of the listing
    pub node_is : form_node h v p ≡ node (in_order l) p
    unfolding form_node
    node_is =
        ap (over_kids (place_at n ss)) node_read
        ∙ (term_path refl refl (map_at (place_at n ss) (spot_of l) here.best.node.kids same_place)
        ∙ sym (in_order_at p l (with_places l here.best.node) here.stands))
