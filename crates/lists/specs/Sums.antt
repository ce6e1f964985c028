-- A sum over a list, one number for each member. The parts of a list have no more members in all than the list.
-- Assumes nothing.
use Rattle.std.specs.Prelude.{◌≡◌, get_or, set}
use Rattle.std.proofs.Math.Path.{ap, refl}
use Rattle.std.proofs.Math.Logic.{ite}
use mathlib.Core.List.{List, [], ◌∷◌, ◌++◌, filter}
use Prim.Native.Nat.{ℕ, zero, suc, ◌+◌, ◌≤◌, ◌<◌}
use Rattle.std.proofs.Math.Decide.{dec_lt, ℕ_discrete}
use native.Mathlib.Omega.{arith}
use Rattle.std.proofs.Math.ListN.{length}
use Rattle.lists.specs.Keeps.{length_filter, upto}
use Rattle.lists.specs.Members.{Mem, here, there}

unfoldable pub sum_of : {A : Type 0} → (A → ℕ) → List A → ℕ
sum_of f [] = 0
sum_of f (x ∷ l) = f x + sum_of f l

module _ {A : Type 0} (f : A → ℕ) where
  pub sum_append : (k l : List A) → sum_of f (k ++ l) ≡ sum_of f k + sum_of f l
  unfolding sum_of
  sum_append [] l = omega arith
  sum_append (x ∷ k) l = omega (arith, sum_append k l)

  pub sum_more : (l : List A) (x : A) → sum_of f (l ++ (x ∷ [])) ≡ sum_of f l + f x
  unfolding sum_of
  sum_more l x = omega (arith, sum_append l (x ∷ []))

  pub sum_set : (l : List A) (r : ℕ) (v d : A) → r < length l → sum_of f (set l r v) + f (get_or l r d) ≡ sum_of f l + f v
  unfolding sum_of
  sum_set [] r v d h = absurd (omega arith)
  sum_set (x ∷ l) zero v d h = omega arith
  sum_set (x ∷ l) (suc r) v d h = omega (arith, sum_set l r v d (omega arith))

  -- one member is no more than the sum
  pub sum_part : (l : List A) (r : ℕ) (d : A) → f d ≡ 0 → f (get_or l r d) ≤ sum_of f l
  unfolding sum_of
  sum_part [] r d e = omega arith
  sum_part (x ∷ l) zero d e = omega arith
  sum_part (x ∷ l) (suc r) d e = omega (arith, sum_part l r d e)

  -- a list whose members are, place by place, no more than those of another
  pub sum_le_at : (k l : List A) (d : A) → f d ≡ 0 → ((i : ℕ) → f (get_or k i d) ≤ f (get_or l i d)) → sum_of f k ≤ sum_of f l
  unfolding sum_of
  sum_le_at [] l d e h = omega arith
  sum_le_at (x ∷ k) [] d e h = omega (arith, h 0, sum_le_at k [] d e (λ i. h (suc i)))
  sum_le_at (x ∷ k) (y ∷ l) d e h = omega (arith, h 0, sum_le_at k l d e (λ i. h (suc i)))

  -- of what passes a test, where the others count nothing
  pub sum_filter : {P : A → Type 0} (t : (a : A) → Dec (P a)) (l : List A) → ((a : A) → (P a → ⊥) → f a ≡ 0) → sum_of f (filter t l) ≡ sum_of f l
  unfolding sum_of
  sum_filter t [] z = refl
  sum_filter {P} t (x ∷ l) z = go (t x) (sum_filter t l z)
    where
      go : (d : Dec (P x)) → sum_of f (filter t l) ≡ sum_of f l → sum_of f (ite {C = List A} d (x ∷ filter t l) (filter t l)) ≡ f x + sum_of f l
      go (yes p) ih = ap (λ (k : ℕ). f x + k) ih
      go (no n) ih = omega (arith, z x n)

-- ---- two numbers for each member

module _ {A : Type 0} (f g : A → ℕ) where
  pub sum_same : (l : List A) → ((a : A) → Mem a l → f a ≡ g a) → sum_of f l ≡ sum_of g l
  unfolding sum_of
  sum_same [] h = refl
  sum_same (x ∷ l) h = omega (arith, h x (here refl), sum_same l (λ a m. h a (there m)))

  pub sum_le : (l : List A) → ((a : A) → Mem a l → f a ≤ g a) → sum_of f l ≤ sum_of g l
  unfolding sum_of
  sum_le [] h = omega arith
  sum_le (x ∷ l) h = omega (arith, h x (here refl), sum_le l (λ a m. h a (there m)))

-- ---- a list parted by the value of f: the parts with values below k have no more members than the list

module _ (f : ℕ → ℕ) (l : List ℕ) where
  split : (k : ℕ) (l : List ℕ)
      → length (filter (λ (i : ℕ). dec_lt (f i) (suc k)) l) ≡ length (filter (λ (i : ℕ). dec_lt (f i) k) l) + length (filter (λ (i : ℕ). ℕ_discrete (f i) k) l)
  split k [] = refl
  split k (x ∷ l) = go (dec_lt (f x) (suc k)) (dec_lt (f x) k) (ℕ_discrete (f x) k) (split k l)
    where
      go : (a : Dec (f x < suc k)) (b : Dec (f x < k)) (c : Dec (f x ≡ k))
          → length (filter (λ (i : ℕ). dec_lt (f i) (suc k)) l) ≡ length (filter (λ (i : ℕ). dec_lt (f i) k) l) + length (filter (λ (i : ℕ). ℕ_discrete (f i) k) l)
          → length (ite {C = List ℕ} a (x ∷ filter (λ (i : ℕ). dec_lt (f i) (suc k)) l) (filter (λ (i : ℕ). dec_lt (f i) (suc k)) l))
          ≡ length (ite {C = List ℕ} b (x ∷ filter (λ (i : ℕ). dec_lt (f i) k) l) (filter (λ (i : ℕ). dec_lt (f i) k) l))
          + length (ite {C = List ℕ} c (x ∷ filter (λ (i : ℕ). ℕ_discrete (f i) k) l) (filter (λ (i : ℕ). ℕ_discrete (f i) k) l))
      go (yes a) (yes b) (yes c) ih = absurd (omega arith)
      go (yes a) (yes b) (no c) ih = omega arith
      go (yes a) (no b) (yes c) ih = omega arith
      go (yes a) (no b) (no c) ih = absurd (omega arith)
      go (no a) (yes b) c ih = absurd (omega arith)
      go (no a) (no b) (yes c) ih = absurd (omega arith)
      go (no a) (no b) (no c) ih = omega arith

  below : (k : ℕ) → sum_of (λ (r : ℕ). length (filter (λ (i : ℕ). ℕ_discrete (f i) r) l)) (upto k) ≤ length (filter (λ (i : ℕ). dec_lt (f i) k) l)
  unfolding sum_of upto
  below zero = omega arith
  below (suc k) = omega (arith, sum_more (λ (r : ℕ). length (filter (λ (i : ℕ). ℕ_discrete (f i) r) l)) (upto k) k, split k l, below k)

  pub parted : (k : ℕ) → sum_of (λ (r : ℕ). length (filter (λ (i : ℕ). ℕ_discrete (f i) r) l)) (upto k) ≤ length l
  parted k = omega (arith, below k, length_filter (λ (i : ℕ). dec_lt (f i) k) l)
