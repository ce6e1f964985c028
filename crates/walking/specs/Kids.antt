-- The next child by the words: `first_unlisted` promises what `unlisted` of Way says of a node's children, by the place words in the scratch part, and `next_kid` the
-- same of the node of the id that the entry of a class has.
-- Assumes nothing.
use Rattle.std.specs.Prelude.{Bool, false, true, not, None, Ok, Option, Result, Some, is_some, List, map, ◌≡◌, ◌*◌, ◌+◌, ◌<◌, ◌≤◌, suc, ℕ, drop, get_or, length}
use Rattle.broken.specs.declared.Broken.{Broken}
use Rattle.broken.specs.Words.{broken, err≢ok}
use Rattle.std.proofs.Common.{◌∙◌, ap, subst, add-one, arith}
use Rattle.std.proofs.Math.Path.{refl, sym}
use Rattle.std.proofs.Math.Seq.{drop-cons, drop-length}
use Rattle.lists.specs.Reads.{at}
use Rattle.lists.specs.Tests.{zero_one}
use Rattle.language.specs.Fitting.{term}
use Rattle.language.specs.Term.{Term, Known}
use Rattle.language.specs.declared.Id.{Id}
use Rattle.language.specs.declared.fit.Fit.{Fit}
use Rattle.steps.specs.Graph.{Graph}
use Rattle.egraph.specs.ClassReads.{Classed, RootNode, classed_kids, classed_node}
use Rattle.layout.specs.View.{View}
use Rattle.layout.specs.declared.Head.{Head}
use Rattle.price.specs.Listing.{Listing, spot}
use Rattle.price.specs.Pass.{Best, Table, look}
use Rattle.pricing.specs.Entries.{EntryAt, Means, Names, Prices, entry_as}
use Rattle.pricing.specs.Laid.{PlaceAt, place_word}
use Rattle.pricing.specs.declared.Entry.{Entry}
use Rattle.walking.specs.Way.{or_else, unlisted}
use Rattle.language.specs.Children.{kid_is, many_kids}
use Rattle.language.specs.Told.{told_id}

-- the place words of the classes below n are those of the listing l
abbrev pub Placed : ℕ → List ℕ → Listing → Type 0
Placed n ss l = (c : ℕ) → c < n → at ss (3 * n + c) ≡ place_word (spot c l)

word_zero : (o : Option ℕ) → place_word o ≡ 0 → o ≡ None
word_zero None e = refl
word_zero (Some p) e = absurd (omega arith)

-- what a test for None finds
pub none_is : (o : Option ℕ) (b : Bool) → is_some o ≡ not b → b ≡ true → o ≡ None
none_is None b e t = refl
none_is (Some p) b e t = absurd (cc (e ∙ ap not t))

pub some_is : (o : Option ℕ) (b : Bool) → is_some o ≡ not b → b ≡ false → o ≡ None → ⊥
some_is None b e t z = cc (e ∙ ap not t)
some_is (Some p) b e t z = cc z

-- ---- a node's children

pub record FirstKid (n N : ℕ) (ss : List ℕ) (x : Term) (r : Result (Option Id) Broken) : Type 0 where
  pub low : (c : Id) → r ≡ Ok (Some c) → c.0 < N
  pub law : (l : Listing) → Placed n ss l → Known x N → r ≡ told_id (unlisted l x.kids)

-- the first i children are listed
pub record Looking (n N : ℕ) (ss : List ℕ) (x : Term) (i : ℕ) : Type 0 where
  pub law : (l : Listing) → Placed n ss l → Known x N → unlisted l x.kids ≡ unlisted l (drop i x.kids)

module _ (n N : ℕ) (ss : List ℕ) (x : Term) where
  -- ks are the children, as the loop goes over them
  module _ (ks : List Id) (e : map (λ (k : Id). k.0) ks ≡ x.kids) where
    many : length ks ≡ length x.kids
    many = many_kids x ks e

    -- the one at place i is in hand
    module _ (i : ℕ) (A : Looking n N ss x i) (hi : i < length ks) where
      kid : Id
      kid = get_or ks i (record { 0 = 0 })

      its : kid.0 ≡ at x.kids i
      unfolding kid
      its = kid_is x ks e i

      pub look_stray : N ≤ (get_or ks i (record { 0 = 0 })).0 → FirstKid n N ss x broken
      unfolding kid
      look_stray off = record { low = λ d q. err≢ok q; law = λ l P K. absurd (omega (arith, many, its, K i (omega (arith, many)))) }

      module _ (lt : (get_or ks i (record { 0 = 0 })).0 < N) (le : N ≤ n) (o : Option ℕ) (L : PlaceAt n ss (get_or ks i (record { 0 = 0 })).0 o) where
        split : (l : Listing) → unlisted l (drop i x.kids) ≡ or_else kid.0 (spot kid.0 l) (unlisted l (drop (suc i) x.kids))
        unfolding unlisted
        split l = rw (its, drop-cons x.kids i 0 (omega (arith, many))) refl

        word : (l : Listing) → Placed n ss l → place_word o ≡ place_word (spot kid.0 l)
        unfolding kid
        word l P = L.is ∙ P kid.0 (omega arith)

        pub look_more : (o ≡ None → ⊥) → Looking n N ss x (i + 1)
        look_more z = record { law = λ l P K. A.law l P K ∙ split l ∙ go l (spot kid.0 l) (word l P) }
          where
            go : (l : Listing) (q : Option ℕ) → place_word o ≡ place_word q → or_else kid.0 q (unlisted l (drop (suc i) x.kids)) ≡ unlisted l (drop (i + 1) x.kids)
            go l None e = absurd (z (word_zero o e))
            go l (Some p) e = rw (add-one i) refl

        pub look_found : o ≡ None → FirstKid n N ss x (Ok (Some (get_or ks i (record { 0 = 0 }))))
        unfolding kid
        look_found z = record {
          low = λ d q. let s : kid ≡ d = cc in rw (← s) lt;
          law = λ l P K. sym (ap told_id (A.law l P K ∙ split l ∙ go l (spot kid.0 l) (word l P)));
        }
          where
            go : (l : Listing) (q : Option ℕ) → place_word o ≡ place_word q → or_else kid.0 q (unlisted l (drop (suc i) x.kids)) ≡ Some kid.0
            go l None e = refl
            go l (Some p) e = absurd (omega (arith, ap place_word z))

    pub look_all : (i : ℕ) → i ≡ length ks → Looking n N ss x i → FirstKid n N ss x (Ok None)
    unfolding unlisted
    look_all i q A = record { low = λ d z. zero_one cc; law = λ l P K. sym (ap told_id (A.law l P K ∙ last l)) }
      where
        last : (l : Listing) → unlisted l (drop i x.kids) ≡ None
        last l = rw (q, many, drop-length x.kids) refl

-- ---- the children of a class's chosen node

pub record NextKidOf (h : Head) (c : ℕ) (v : View) (r : Result (Option Id) Broken) : Type 0 where
  pub low : (x : Id) → r ≡ Ok (Some x) → x.0 < h.ids
  pub law : (g : Graph) (t : Table ℕ) (b : Best ℕ) (l : Listing) → Classed h v g → Prices g h.n v.scratch t
      → look c t ≡ Some b → Placed h.n v.scratch l → r ≡ told_id (unlisted l b.node.kids)

module _ (h : Head) (c : ℕ) (v : View) (o : Option Entry) (hc : c < h.n) (E : EntryAt h.n v.scratch c o) where
  -- what the entry says of the chosen node
  means : (g : Graph) (t : Table ℕ) (b : Best ℕ) → Prices g h.n v.scratch t → look c t ≡ Some b → Means g o (Some b)
  means g t b P q = rw q at (entry_as g h.n v.scratch t c o P hc E)

  -- the node of its id is the chosen node
  module _ (e : Entry) (some : o ≡ Some e) (f : Result Fit Broken) (F : RootNode h v e.id.0 f) where
    named : (g : Graph) (t : Table ℕ) (b : Best ℕ) → Prices g h.n v.scratch t → look c t ≡ Some b → Names g e b
    named g t b P q = rw some at (means g t b P q)

    module _ (y : Fit) (q : f ≡ Ok y) where
      node_is : (g : Graph) (t : Table ℕ) (b : Best ℕ) → Classed h v g → Prices g h.n v.scratch t → look c t ≡ Some b
          → (term y ≡ b.node) × Known b.node h.ids
      node_is g t b C P u =
          let N = named g t b P u in
          ((F.found y q).1 ∙ (classed_node C e.id.0 N.known).1 ∙ N.node_is, rw (← N.node_is) (classed_kids C e.id.0 N.known))

      pub next_done : (r : Result (Option Id) Broken) → FirstKid h.n h.ids v.scratch (term y) r → NextKidOf h c v r
      next_done r K = record {
        low = K.low;
        law = λ g t b l C P u D. let k = node_is g t b C P u in subst (λ (x : Term). r ≡ told_id (unlisted l x.kids)) k.0 (K.law l D (rw k.0 k.1));
      }
