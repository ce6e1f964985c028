-- The listing of a cheapest form, as document 01 has it ("The price of a form"): children first, leftmost first, each class once, the asked class last;
-- children are places in that list, counted in nodes from 0.
-- Assumes nothing.
use Rattle.std.specs.Prelude.{List, [], ◌++◌, ◌∷◌, ◌≡◌, suc, zero, ℕ, length, Option, None, Some}
use Rattle.std.proofs.Math.Decide.{ℕ_discrete}
use Rattle.lists.specs.Tests.{when}
use Rattle.language.specs.Term.{Term, over_kids, spell}
use Rattle.price.specs.Pass.{Best, Table, look}

-- the last listed stands first: a class, and its node with places as children. The place of an entry is the number of entries listed before it
abbrev pub Listing : Type 0
Listing = List (ℕ × Term)

-- the place of class c
unfoldable pub spot : ℕ → Listing → Option ℕ
spot c [] = None
spot c (e ∷ l) = when (ℕ_discrete c e.0) (Some (length l)) (spot c l)

-- the node at place p
unfoldable pub entry : ℕ → Listing → Option Term
entry p [] = None
entry p (e ∷ l) = when (ℕ_discrete p (length l)) (Some e.1) (entry p l)

abbrev pub or_zero : Option ℕ → ℕ
or_zero None = 0
or_zero (Some p) = p

-- a node with its children's places for its children
abbrev pub spot_of : Listing → ℕ → ℕ
spot_of l c = or_zero (spot c l)

abbrev pub with_places : Listing → Term → Term
with_places l x = over_kids (spot_of l) x

-- the classes cs, left to right
unfoldable pub each : (ℕ → Listing → Listing) → List ℕ → Listing → Listing
each next [] l = l
each next (c ∷ cs) l = each next cs (next c l)

module _ {P : Type 0} where
  -- class r, if it is not listed yet: first the children of its chosen node, then that node
  unfoldable pub enter : ℕ → Option ℕ → Option (Best P) → (ℕ → Listing → Listing) → Listing → Listing
  enter r (Some p) o next l = l
  enter r None None next l = l
  enter r None (Some b) next l = let m = each next b.node.kids l in (r, with_places m b.node) ∷ m

  -- to depth n: no way down is longer than there are classes (`no_circle`)
  unfoldable pub visit : Table P → ℕ → ℕ → Listing → Listing
  visit t zero r l = l
  visit t (suc n) r l = enter r (spot r l) (look r t) (visit t n) l

-- the cheapest form of class r, by a table of the classes rs
abbrev pub cheapest : {P : Type 0} → Table P → List ℕ → ℕ → Listing
cheapest t rs r = visit t (length rs) r []

-- the nodes, the first listed first; and in words
unfoldable pub in_order : Listing → List Term
in_order [] = []
in_order (e ∷ l) = in_order l ++ (e.1 ∷ [])

abbrev pub form_words : Listing → List ℕ
form_words l = spell (in_order l)

-- place p has the node x, whose children are places: so `In (StandsAt l) f p` says that the listing l has the form f at place p
abbrev pub StandsAt : Listing → ℕ → Term → Type 0
StandsAt l p x = entry p l ≡ Some x

-- each class once
abbrev pub Once : Listing → Type 0
Once [] = Unit {0}
Once (e ∷ l) = (spot e.0 l ≡ None) × Once l
