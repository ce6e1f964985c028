-- Membership in a list: the library's, under short names, and what it lacks.
-- Assumes nothing.
pub use mathlib.Core.List.Memᴰ.{append_cases as mem-append-cases}
pub use mathlib.Core.List.Memᴰ.{append_left as mem-left}
pub use mathlib.Core.List.Memᴰ.{append_right as mem-right}
pub use mathlib.Core.List.Memᴰ.{cases_cons as mem-cases}
pub use mathlib.Core.List.Memᴰ.{head as here}
pub use mathlib.Core.List.Memᴰ.{map as mem-map}
pub use mathlib.Core.List.Memᴰ.{not-nil as mem-nil}
pub use mathlib.Core.List.Memᴰ.{of_map as mem-of-map}
pub use mathlib.Core.List.Memᴰ.{tail as there}
pub use mathlib.Core.List.{Memᴰ as Mem}
use mathlib.Core.List.{List, [], ◌++◌, ◌∷◌, map, reverse, reverse-cons}
use Rattle.std.specs.Prelude.{◌≢◌, ◌⊎◌, ◌≡◌, refl, ◌<◌, ◌≤◌, suc, zero, ℕ, length}
use Rattle.std.proofs.Common.{inl, inr, ◌∙◌, sym, arith}
use Rattle.std.proofs.Math.Decide.{ℕ_discrete}
use Rattle.lists.specs.Reads.{at}
use Rattle.lists.specs.Tests.{when}

module _ {A : Type 0} where
  pub mem_one : {a b : A} → Mem a (b ∷ []) → a ≡ b
  mem_one {a} {b} h = go (mem-cases h)
    where
      go : (a ≡ b) ⊎ Mem a [] → a ≡ b
      go (inl e) = e
      go (inr k) = absurd (mem-nil k)

  pub mem_reverse : {a : A} (l : List A) → Mem a l → Mem a (reverse l)
  mem_reverse {a} [] h = h
  mem_reverse {a} (x ∷ l) h = rw (reverse-cons x l) (go (mem-cases h) (λ k. mem_reverse l k))
    where
      go : (a ≡ x) ⊎ Mem a l → (Mem a l → Mem a (reverse l)) → Mem a (reverse l ++ (x ∷ []))
      go (inl e) ih = mem-right (reverse l) (here e)
      go (inr k) ih = mem-left (x ∷ []) (ih k)

  pub mem_unreverse : {a : A} (l : List A) → Mem a (reverse l) → Mem a l
  mem_unreverse {a} [] h = h
  mem_unreverse {a} (x ∷ l) h = go (mem-append-cases (reverse l) (rw (reverse-cons x l) at h)) (λ k. mem_unreverse l k)
    where
      go : Mem a (reverse l) ⊎ Mem a (x ∷ []) → (Mem a (reverse l) → Mem a l) → Mem a (x ∷ l)
      go (inl k) ih = there (ih k)
      go (inr k) ih = here (mem_one k)

-- two functions that agree on a list map it alike
pub map_same : {A B : Type 0} (f g : A → B) (l : List A) → ((a : A) → Mem a l → f a ≡ g a) → map f l ≡ map g l
map_same f g [] h = refl
map_same f g (a ∷ l) h = let e = h a (here refl) in let t = map_same f g l (λ b m. h b (there m)) in λ i. e i ∷ t i

-- ---- a list of numbers without r

unfoldable pub minus : ℕ → List ℕ → List ℕ
minus r [] = []
minus r (c ∷ cs) = when (ℕ_discrete c r) (minus r cs) (c ∷ minus r cs)

pub minus_has : (r c : ℕ) (cs : List ℕ) → c ≢ r → Mem c cs → Mem c (minus r cs)
unfolding minus
minus_has r c [] n m = m
minus_has r c (q ∷ cs) n m = go (ℕ_discrete q r) (mem-cases m) (minus_has r c cs n)
  where
    go : (d : Dec (q ≡ r)) → (c ≡ q) ⊎ Mem c cs → (Mem c cs → Mem c (minus r cs)) → Mem c (when d (minus r cs) (q ∷ minus r cs))
    go (yes e) (inl i) ih = absurd (n (i ∙ e))
    go (yes e) (inr k) ih = ih k
    go (no k) (inl i) ih = here i
    go (no k) (inr h) ih = there (ih h)

pub minus_not : (r : ℕ) (cs : List ℕ) → Mem r (minus r cs) → ⊥
unfolding minus
minus_not r [] m = mem-nil m
minus_not r (q ∷ cs) m = go (ℕ_discrete q r) m (minus_not r cs)
  where
    past : q ≢ r → (r ≡ q) ⊎ Mem r (minus r cs) → (Mem r (minus r cs) → ⊥) → ⊥
    past n (inl e) ih = n (sym e)
    past n (inr k) ih = ih k

    go : (d : Dec (q ≡ r)) → Mem r (when d (minus r cs) (q ∷ minus r cs)) → (Mem r (minus r cs) → ⊥) → ⊥
    go (yes e) k ih = ih k
    go (no n) k ih = past n (mem-cases k) ih

minus_le : (r : ℕ) (cs : List ℕ) → length (minus r cs) ≤ length cs
unfolding minus
minus_le r [] = omega arith
minus_le r (q ∷ cs) = go (ℕ_discrete q r) (minus_le r cs)
  where
    go : (d : Dec (q ≡ r)) → length (minus r cs) ≤ length cs → length (when d (minus r cs) (q ∷ minus r cs)) ≤ suc (length cs)
    go (yes e) ih = omega arith
    go (no n) ih = omega arith

pub minus_lt : (r : ℕ) (cs : List ℕ) → Mem r cs → length (minus r cs) < length cs
unfolding minus
minus_lt r [] m = absurd (mem-nil m)
minus_lt r (q ∷ cs) m = go (ℕ_discrete q r) (mem-cases m) (minus_lt r cs)
  where
    go : (d : Dec (q ≡ r)) → (r ≡ q) ⊎ Mem r cs → (Mem r cs → length (minus r cs) < length cs) → length (when d (minus r cs) (q ∷ minus r cs)) < suc (length cs)
    go (yes e) k ih = omega (arith, minus_le r cs)
    go (no n) (inl e) ih = absurd (n (sym e))
    go (no n) (inr k) ih = let h = ih k in omega arith

-- a list with a member is not empty
pub mem_length : {A : Type 0} {a : A} {l : List A} → Mem a l → 0 < length l
mem_length {l = []} m = absurd (mem-nil m)
mem_length {l = x ∷ l} m = omega arith

-- ---- members by index

-- what holds at each index holds of each member
pub all_members : (P : ℕ → Type 0) (xs : List ℕ) → ((i : ℕ) → i < length xs → P (at xs i)) → (x : ℕ) → Mem x xs → P x
all_members P [] h x m = absurd (mem-nil m)
all_members P (y ∷ xs) h x m = go (mem-cases m) (all_members P xs (λ i l. h (suc i) (omega arith)) x)
  where
    go : (x ≡ y) ⊎ Mem x xs → (Mem x xs → P x) → P x
    go (inl e) ih = rw e (h 0 (omega arith))
    go (inr k) ih = ih k

pub mem_at : (l : List ℕ) (i : ℕ) → i < length l → Mem (at l i) l
mem_at [] i h = absurd (omega arith)
mem_at (x ∷ l) zero h = here refl
mem_at (x ∷ l) (suc i) h = there (mem_at l i (omega arith))

pub no_member : {A : Type 0} (l : List A) → ((x : A) → Mem x l → ⊥) → l ≡ []
no_member [] h = refl
no_member (x ∷ l) h = absurd (h x (here refl))
