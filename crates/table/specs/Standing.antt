-- Where a number stands in a list, or that it stands nowhere there.
-- Assumes nothing.
use Rattle.std.specs.Prelude.{List, [], ◌∷◌, ◌≢◌, ◌⊎◌, ◌≡◌, ◌<◌, suc, zero, ℕ, length}
use Rattle.std.proofs.Common.{inl, inr, not-suc-le-zero, arith}
use Rattle.lists.specs.Reads.{at}
use Rattle.lists.specs.Tests.{eq_or}

-- x stands at a place of l
pub record Stands (l : List ℕ) (x : ℕ) : Type 0 where
  pub place : ℕ
  pub inside : place < length l
  pub here : at l place ≡ x

pub stands_or : (l : List ℕ) (x : ℕ) → Stands l x ⊎ ((i : ℕ) → i < length l → at l i ≢ x)
stands_or [] x = inr (λ i h. absurd (not-suc-le-zero h))
stands_or (y ∷ l) x = go (eq_or y x) (stands_or l x)
  where
    no_more : y ≢ x → ((i : ℕ) → i < length l → at l i ≢ x) → (i : ℕ) → i < suc (length l) → at (y ∷ l) i ≢ x
    no_more n f zero h = n
    no_more n f (suc i) h = f i (omega arith)

    go : (y ≡ x) ⊎ (y ≢ x) → Stands l x ⊎ ((i : ℕ) → i < length l → at l i ≢ x) → Stands (y ∷ l) x ⊎ ((i : ℕ) → i < suc (length l) → at (y ∷ l) i ≢ x)
    go (inl e) r = inl (record { place = 0; inside = omega arith; here = e })
    go (inr n) (inl s) = inl (record { place = suc s.place; inside = omega (arith, s.inside); here = s.here })
    go (inr n) (inr f) = inr (no_more n f)
