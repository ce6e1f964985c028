-- Strictly ascending lists, over any relation that no chain leads back by: their members settle them.
-- Assumes nothing.
use Rattle.std.specs.Prelude.{◌≡◌, refl, ◌⊎◌, ℕ, zero, suc, ◌<◌, length}
use Rattle.std.proofs.Common.{sym, ap, ◌∙◌, inl, inr, arith}
use Rattle.std.proofs.Math.Logic.{ite}
use mathlib.Core.List.{List, [], ◌∷◌, ◌++◌, filter, map}
use Rattle.lists.specs.Members.{Mem, here, there, mem-cases, mem-nil, mem-append-cases, mem_one, mem_at, mem-map}
use Rattle.lists.specs.Reads.{at}
use Rattle.lists.specs.Keeps.{upto, upto_lt, filter_from}

-- each member comes before all that stand behind it: so none stands twice
pub data Ascending {A : Type 0} (Before : A → A → Type 0) : List A → Type 0 where
  none_left : Ascending Before []
  first : {x : A} {l : List A} → ((y : A) → Mem y l → Before x y) → Ascending Before l → Ascending Before (x ∷ l)

module _ {A : Type 0} (Before : A → A → Type 0) where
  -- one more at the end
  pub ascending_more : (l : List A) (z : A) → Ascending Before l → ((y : A) → Mem y l → Before y z) → Ascending Before (l ++ (z ∷ []))
  ascending_more [] z none_left h = first (λ y m. absurd (mem-nil m)) none_left
  ascending_more (x ∷ l) z (first b s) h = first (λ y m. go y (mem-append-cases l m)) (ascending_more l z s (λ y m. h y (there m)))
    where
      go : (y : A) → Mem y l ⊎ Mem y (z ∷ []) → Before x y
      go y (inl k) = b y k
      go y (inr k) = rw (mem_one k) (h x (here refl))

  pub filter_ascending : {P : A → Type 0} (t : (a : A) → Dec (P a)) {l : List A} → Ascending Before l → Ascending Before (filter t l)
  filter_ascending t none_left = none_left
  filter_ascending {P} t (first {x = x} {l = l} b s) = go (t x) (filter_ascending t s)
    where
      go : (d : Dec (P x)) → Ascending Before (filter t l) → Ascending Before (ite {C = List A} d (x ∷ filter t l) (filter t l))
      go (yes h) ih = first (λ y m. b y (filter_from t l m).0) ih
      go (no n) ih = ih

  module _ (chain : (x y z : A) → Before x y → Before y z → Before x z) (never : (x : A) → Before x x → ⊥) where
    -- two ascending lists with the same members are one list
    pub one_list : {l k : List A} → Ascending Before l → Ascending Before k → ((z : A) → Mem z l → Mem z k) → ((z : A) → Mem z k → Mem z l) → l ≡ k
    one_list none_left none_left f g = refl
    one_list none_left (first {x = y} b s) f g = absurd (mem-nil (g y (here refl)))
    one_list (first {x = x} a r) none_left f g = absurd (mem-nil (f x (here refl)))
    one_list (first {x = x} {l = xs} a r) (first {x = y} {l = ys} b s) f g =
        let t : xs ≡ ys = one_list r s (λ z m. down z m (mem-cases (f z (there m)))) (λ z m. up z m (mem-cases (g z (there m)))) in
        λ i. same i ∷ t i
      where
        heads : (x ≡ y) ⊎ Mem x ys → (y ≡ x) ⊎ Mem y xs → x ≡ y
        heads (inl e) q = e
        heads (inr m) (inl e) = sym e
        heads (inr m) (inr k) = absurd (never x (chain x y x (a y k) (b x m)))

        same : x ≡ y
        same = heads (mem-cases (f x (here refl))) (mem-cases (g y (here refl)))

        down : (z : A) → Mem z xs → (z ≡ y) ⊎ Mem z ys → Mem z ys
        down z m (inl e) = absurd (never x (rw (e ∙ sym same) at (a z m)))
        down z m (inr k) = k

        up : (z : A) → Mem z ys → (z ≡ x) ⊎ Mem z xs → Mem z xs
        up z m (inl e) = absurd (never y (rw (e ∙ same) at (b z m)))
        up z m (inr k) = k

pub upto_ascending : (n : ℕ) → Ascending ◌<◌ (upto n)
unfolding upto
upto_ascending zero = none_left
upto_ascending (suc n) = ascending_more ◌<◌ (upto n) n (upto_ascending n) (λ y m. upto_lt n y m)

-- numbers whose values under f ascend: no two places have one number
module _ {A : Type 0} (Before : A → A → Type 0) (never : (x : A) → Before x x → ⊥) (f : ℕ → A) where
  pub ascending_once : (xs : List ℕ) → Ascending Before (map f xs) → (i j : ℕ) → i < length xs → j < length xs → at xs i ≡ at xs j → i ≡ j
  ascending_once [] a i j h l e = absurd (omega arith)
  ascending_once (x ∷ xs) (first b s) zero zero h l e = refl
  ascending_once (x ∷ xs) (first b s) zero (suc j) h l e = absurd (never (f x) (b (f x) (rw e (mem-map f (mem_at xs j (omega arith))))))
  ascending_once (x ∷ xs) (first b s) (suc i) zero h l e = absurd (never (f x) (b (f x) (rw (← e) (mem-map f (mem_at xs i (omega arith))))))
  ascending_once (x ∷ xs) (first b s) (suc i) (suc j) h l e = ap suc (ascending_once xs s i j (omega arith) (omega arith) e)
