-- How the listing of a cheapest form (Listing of price) stands in the scratch part, while it is made and when it is done: where each class is listed, and which class
-- stands at each place. The prices and marks in front of it stay (Entries).
-- Assumes nothing.
use Rattle.std.specs.Prelude.{List, [], ◌∷◌, ◌≢◌, ◌≡◌, ◌*◌, ◌+◌, ◌-◌, ◌<◌, ◌^◌, ◌≤◌, suc, ℕ, length, Option, None, Some, SomeIff}
use Rattle.std.proofs.Common.{arith}
use Rattle.std.proofs.Math.Decide.{ℕ_discrete}
use Rattle.lists.specs.Reads.{at, Word}
use Rattle.lists.specs.Tests.{when, when_no, when_yes}
use Rattle.language.specs.Term.{Term}
use Rattle.price.specs.Listing.{Listing, spot}

-- 0 for a class that is not listed, else 1 and its place
abbrev pub place_word : Option ℕ → ℕ
place_word None = 0
place_word (Some p) = suc p

-- the class at place p
unfoldable pub class_at : ℕ → Listing → ℕ
class_at p [] = 0
class_at p (e ∷ l) = when (ℕ_discrete p (length l)) e.0 (class_at p l)

pub class_here : (p c : ℕ) (x : Term) (l : Listing) → p ≡ length l → class_at p ((c, x) ∷ l) ≡ c
unfolding class_at
class_here p c x l e = when_yes (ℕ_discrete p (length l)) c (class_at p l) e

pub class_past : (p c : ℕ) (x : Term) (l : Listing) → p ≢ length l → class_at p ((c, x) ∷ l) ≡ class_at p l
unfolding class_at
class_past p c x l n = when_no (ℕ_discrete p (length l)) c (class_at p l) n

-- r is the place that the place word of class c says
pub record PlaceAt (n : ℕ) (ss : List ℕ) (c : ℕ) (r : Option ℕ) : Type 0 where
  pub is : place_word r ≡ at ss (3 * n + c)
  pub low : place_word r < 2 ^ 32

-- one less than the place word, where that is a place
pub place_at_is : (n : ℕ) (ss : List ℕ) (c w : ℕ) → Word ss (3 * n + c) w → (r : Option ℕ) → SomeIff r (1 ≤ w) (w - 1) → PlaceAt n ss c r
place_at_is n ss c w W None h = record { is = omega (arith, W.exact); low = omega arith }
place_at_is n ss c w W (Some p) (l, e) = record { is = omega (arith, W.exact); low = omega (arith, W.small) }

-- of the 6n scratch words: 3n + c is the place word of class c, 4n + p the class at place p
pub record Laid (n : ℕ) (ss : List ℕ) (l : Listing) : Type 0 where
  pub few : length l ≤ n
  pub places : (c : ℕ) → c < n → at ss (3 * n + c) ≡ place_word (spot c l)
  pub classes : (p : ℕ) → p < length l → at ss (4 * n + p) ≡ class_at p l
  pub low : (p : ℕ) → p < length l → class_at p l < n
