-- A node with each child replaced by the place of its class, as the scratch words say it: what `place` and `with_places` promise on any words.
-- Assumes nothing.
use Rattle.std.specs.Prelude.{Ok, Result, List, ◌≡◌, ◌*◌, ◌-◌, ◌<◌, ℕ, length, Err, refl, ◌+◌}
use Rattle.broken.specs.declared.Broken.{Broken}
use Rattle.broken.specs.Words.{broken, err≢ok}
use Rattle.std.proofs.Common.{sym, arith}
use Rattle.lists.specs.Reads.{at}
use Rattle.language.specs.Fitting.{term}
use Rattle.language.specs.Mapped.{Mapped}
use Rattle.language.specs.Partway.{Partway, partway_all, partway_as}
use Rattle.language.specs.Term.{Term, over_kids}
use Rattle.language.specs.declared.Id.{Id}
use Rattle.language.specs.declared.fit.Fit.{Fit}

-- the place of class c
abbrev pub place_at : ℕ → List ℕ → ℕ → ℕ
place_at n ss c = at ss (3 * n + c) - 1

-- class c has a place
abbrev pub HasPlace : ℕ → List ℕ → ℕ → Type 0
HasPlace n ss c = (c < n) × (0 < at ss (3 * n + c))

abbrev pub KidsPlaced : ℕ → List ℕ → Term → Type 0
KidsPlaced n ss x = (i : ℕ) → i < length x.kids → HasPlace n ss (at x.kids i)

pub record WithPlaces (n : ℕ) (ss : List ℕ) (x : Term) (r : Result Fit Broken) : Type 0 where
  pub exact : (y : Fit) → r ≡ Ok y → term y ≡ over_kids (place_at n ss) x
  pub only : (y : Fit) → r ≡ Ok y → KidsPlaced n ss x
  pub lost : r ≡ broken → KidsPlaced n ss x → ⊥

-- ---- child by child

-- class c has the place k
abbrev pub PlaceIs : ℕ → List ℕ → ℕ → ℕ → Type 0
PlaceIs n ss c k = HasPlace n ss c × (k ≡ place_at n ss c)

-- the answer to what place class c has
pub record Place (n : ℕ) (ss : List ℕ) (c : ℕ) (r : Result Id Broken) : Type 0 where
  pub found : (k : Id) → r ≡ Ok k → PlaceIs n ss c k.0
  pub lost : r ≡ broken → HasPlace n ss c → ⊥

-- all of them, where Q is what a child's class answers
module _ (n : ℕ) (ss : List ℕ) (x : Fit) (Q : Id → Result Id Broken → Type 0) (f : (c : ℕ) (a : Result Id Broken) → Q (record { 0 = c }) a → Place n ss c a) where
  placed : (y : Fit) → Partway (PlaceIs n ss) x.node.count (term x) (term y) → WithPlaces n ss (term x) (Ok y)
  placed y P = record {
    exact = λ z q. let w : y ≡ z = cc in rw (← w) (partway_all _ _ _ _ P (place_at n ss) (sym x.many) (λ c k q. q.1));
    only = λ z q j l. (P.done j (omega (arith, x.many))).0;
    lost = λ q. err≢ok (sym q);
  }

  pub places_asked : (r : Result Fit Broken) → Mapped Q x r → WithPlaces n ss (term x) r
  places_asked (Ok y) M = placed y (partway_as _ _ _ _ _ (λ j lt q. (f _ _ q).found _ refl) (M.all y refl).1)
  places_asked (Err e) M =
      let D = M.refused e refl in
      let never = λ (K : KidsPlaced n ss (term x)). (f _ _ D.4).lost refl (K D.0 (omega (arith, D.2, x.many))) in
      record { exact = λ y q. err≢ok q; only = λ y q. err≢ok q; lost = λ _ K. never K }
