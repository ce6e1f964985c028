-- The numbers below n, and the members of a list that pass a test (the library's `filter`).
-- Assumes nothing.
use mathlib.Core.List.{List, [], ◌++◌, ◌∷◌, filter}
use Rattle.std.specs.Prelude.{◌↔◌, ◌≢◌, ◌⊎◌, ◌≡◌}
use Rattle.std.proofs.Common.{inl, inr, ◌∙◌, subst, arith}
use Rattle.std.proofs.Math.Logic.{ite}
use Rattle.std.proofs.Math.Path.{ap, refl, sym}
use Prim.Native.Nat.{◌+◌, ◌<◌, ◌≤◌, suc, zero, ℕ}
use Rattle.std.proofs.Math.Decide.{ℕ_discrete}
use Rattle.std.proofs.Math.ListN.{length, length-append}
use Rattle.lists.specs.Members.{Mem, here, mem-append-cases, mem-cases, mem-left, mem-nil, mem_one, mem-right, there}
use Rattle.lists.specs.Reads.{length_more}
use Rattle.lists.specs.Tests.{eq_or, when}

-- ---- the numbers below n, ascending

unfoldable pub upto : ℕ → List ℕ
upto zero = []
upto (suc n) = upto n ++ (n ∷ [])

pub length_upto : (n : ℕ) → length (upto n) ≡ n
unfolding upto
length_upto zero = refl
length_upto (suc n) = length_more (upto n) n ∙ ap suc (length_upto n)

pub mem_upto : (n i : ℕ) → i < n → Mem i (upto n)
unfolding upto
mem_upto zero i h = absurd (omega arith)
mem_upto (suc n) i h = go (ℕ_discrete i n) (mem_upto n i)
  where
    go : Dec (i ≡ n) → (i < n → Mem i (upto n)) → Mem i (upto n ++ (n ∷ []))
    go (yes e) ih = mem-right (upto n) (here e)
    go (no k) ih = mem-left (n ∷ []) (ih (omega arith))

pub upto_lt : (n i : ℕ) → Mem i (upto n) → i < n
unfolding upto
upto_lt zero i m = absurd (mem-nil m)
upto_lt (suc n) i m = go (mem-append-cases (upto n) m) (upto_lt n i)
  where
    go : Mem i (upto n) ⊎ Mem i (n ∷ []) → (Mem i (upto n) → i < n) → i < suc n
    go (inl k) ih = let h = ih k in omega arith
    go (inr k) ih = let e = mem_one k in omega arith

-- ---- what passes a test

module _ {A : Type 0} {P : A → Type 0} (t : (a : A) → Dec (P a)) where
  pub mem_filter : {a : A} (l : List A) → Mem a l → P a → Mem a (filter t l)
  mem_filter {a} [] m p = m
  mem_filter {a} (x ∷ l) m p = go (t x) (mem-cases m) (λ k. mem_filter l k p)
    where
      go : (d : Dec (P x)) → (a ≡ x) ⊎ Mem a l → (Mem a l → Mem a (filter t l)) → Mem a (ite {C = List A} d (x ∷ filter t l) (filter t l))
      go (yes h) (inl e) ih = here e
      go (yes h) (inr k) ih = there (ih k)
      go (no n) (inl e) ih = absurd (n (subst P e p))
      go (no n) (inr k) ih = ih k

  pub filter_from : {a : A} (l : List A) → Mem a (filter t l) → Mem a l × P a
  filter_from {a} [] m = absurd (mem-nil m)
  filter_from {a} (x ∷ l) m = go (t x) m (filter_from l)
    where
      past : Mem a l × P a → Mem a (x ∷ l) × P a
      past k = (there k.0, k.1)

      first : P x → (a ≡ x) ⊎ Mem a (filter t l) → (Mem a (filter t l) → Mem a l × P a) → Mem a (x ∷ l) × P a
      first h (inl e) ih = (here e, subst P (sym e) h)
      first h (inr k) ih = past (ih k)

      go : (d : Dec (P x)) → Mem a (ite {C = List A} d (x ∷ filter t l) (filter t l)) → (Mem a (filter t l) → Mem a l × P a) → Mem a (x ∷ l) × P a
      go (yes h) k ih = first h (mem-cases k) ih
      go (no n) k ih = past (ih k)

  pub filter_append : (k l : List A) → filter t (k ++ l) ≡ filter t k ++ filter t l
  filter_append [] l = refl
  filter_append (x ∷ k) l = go (t x) (filter_append k l)
    where
      go : (d : Dec (P x)) → filter t (k ++ l) ≡ filter t k ++ filter t l
          → ite {C = List A} d (x ∷ filter t (k ++ l)) (filter t (k ++ l)) ≡ ite {C = List A} d (x ∷ filter t k) (filter t k) ++ filter t l
      go (yes h) ih = ap (λ (z : List A). x ∷ z) ih
      go (no n) ih = ih

  pub length_filter : (l : List A) → length (filter t l) ≤ length l
  length_filter [] = omega arith
  length_filter (x ∷ l) = go (t x) (length_filter l)
    where
      go : (d : Dec (P x)) → length (filter t l) ≤ length l → length (ite {C = List A} d (x ∷ filter t l) (filter t l)) ≤ suc (length l)
      go (yes h) ih = omega arith
      go (no n) ih = omega arith

-- a harder test passes no more; and fewer, if it fails one that the other passes
module _ {A : Type 0} {P Q : A → Type 0} (t : (a : A) → Dec (P a)) (s : (a : A) → Dec (Q a)) (easier : (a : A) → Q a → P a) where
  pub filter_le : (l : List A) → length (filter s l) ≤ length (filter t l)
  filter_le [] = omega arith
  filter_le (x ∷ l) = go (s x) (t x) (filter_le l)
    where
      go : (d : Dec (Q x)) (e : Dec (P x)) → length (filter s l) ≤ length (filter t l)
          → length (ite {C = List A} d (x ∷ filter s l) (filter s l)) ≤ length (ite {C = List A} e (x ∷ filter t l) (filter t l))
      go (yes q) (yes p) ih = omega arith
      go (yes q) (no n) ih = absurd (n (easier x q))
      go (no m) (yes p) ih = omega arith
      go (no m) (no n) ih = ih

  pub filter_lt : {a : A} (l : List A) → Mem a l → P a → ¬ Q a → length (filter s l) < length (filter t l)
  filter_lt {a} [] m p q = absurd (mem-nil m)
  filter_lt {a} (x ∷ l) m p q = go (s x) (t x) (mem-cases m) (λ k. filter_lt l k p q)
    where
      go : (d : Dec (Q x)) (e : Dec (P x)) → (a ≡ x) ⊎ Mem a l → (Mem a l → length (filter s l) < length (filter t l))
          → length (ite {C = List A} d (x ∷ filter s l) (filter s l)) < length (ite {C = List A} e (x ∷ filter t l) (filter t l))
      go (yes h) e (inl i) ih = absurd (q (subst Q (sym i) h))
      go (no h) (no n) (inl i) ih = absurd (n (subst P i p))
      go (no h) (yes k) (inl i) ih = omega (arith, filter_le l)
      go (yes h) (no n) (inr k) ih = absurd (n (easier x h))
      go (yes h) (yes j) (inr k) ih = let w = ih k in omega arith
      go (no h) (yes j) (inr k) ih = let w = ih k in omega arith
      go (no h) (no n) (inr k) ih = ih k

-- whether one passes
module _ {A : Type 0} where
  abbrev pub OneOf : (A → Type 0) → List A → Type 0
  OneOf P l = (a : A) × Mem a l × P a

  unfoldable pub any_more : {P : A → Type 0} (x : A) (l : List A) → Dec (P x) → Dec (OneOf P l) → Dec (OneOf P (x ∷ l))
  any_more x l (yes h) d = yes (x, here refl, h)
  any_more x l (no n) (yes h) = yes (h.0, there h.1, h.2)
  any_more {P} x l (no n) (no m) = no (λ h. go h.0 (mem-cases h.1) h.2)
    where
      go : (a : A) → (a ≡ x) ⊎ Mem a l → P a → ⊥
      go a (inl e) p = n (subst P e p)
      go a (inr k) p = m (a, k, p)

  unfoldable pub any : {P : A → Type 0} → ((a : A) → Dec (P a)) → (l : List A) → Dec (OneOf P l)
  any t [] = no (λ h. mem-nil h.1)
  any t (x ∷ l) = any_more x l (t x) (any t l)

-- ---- how many numbers below n pass a test

module _ {P : ℕ → Type 0} (t : (i : ℕ) → Dec (P i)) where
  pub passes_more : (n : ℕ) → length (filter t (upto (suc n))) ≡ length (filter t (upto n)) + when (t n) 1 0
  unfolding upto
  passes_more n =
      ap length (filter_append t (upto n) (n ∷ []))
      ∙ length-append (filter t (upto n)) (filter t (n ∷ []))
      ∙ ap (λ (k : ℕ). length (filter t (upto n)) + k) (last (t n))
    where
      last : (d : Dec (P n)) → length (ite {C = List ℕ} d (n ∷ []) []) ≡ when d 1 0
      last (yes h) = refl
      last (no h) = refl

-- two tests that agree everywhere but at l, which only the first passes
module _ {P Q : ℕ → Type 0} (t : (i : ℕ) → Dec (P i)) (s : (i : ℕ) → Dec (Q i)) (l : ℕ) (p : P l) (q : ¬ Q l) (same : (i : ℕ) → i ≢ l → P i ↔ Q i) where
  agree : (n k j : ℕ) → n ≢ l → k ≡ j → k + when (t n) 1 0 ≡ j + when (s n) 1 0
  agree n k j h e = go (t n) (s n)
    where
      go : (d : Dec (P n)) (f : Dec (Q n)) → k + when d 1 0 ≡ j + when f 1 0
      go (yes a) (yes b) = omega (arith, e)
      go (yes a) (no b) = absurd (b ((same n h).0 a))
      go (no a) (yes b) = absurd (a ((same n h).1 b))
      go (no a) (no b) = omega (arith, e)

  passes_before : (n : ℕ) → n ≤ l → length (filter t (upto n)) ≡ length (filter s (upto n))
  unfolding upto
  passes_before zero h = refl
  passes_before (suc n) h = passes_more t n ∙ agree n _ _ (omega arith) (passes_before n (omega arith)) ∙ sym (passes_more s n)

  pub passes_one_less : (n : ℕ) → l < n → length (filter t (upto n)) ≡ suc (length (filter s (upto n)))
  passes_one_less zero h = absurd (omega arith)
  passes_one_less (suc n) h = passes_more t n ∙ go (eq_or n l) (passes_one_less n) ∙ ap suc (sym (passes_more s n))
    where
      at_l : n ≡ l → (d : Dec (P n)) (e : Dec (Q n)) (k j : ℕ) → k ≡ j → k + when d 1 0 ≡ suc (j + when e 1 0)
      at_l w (yes a) (yes b) k j f = absurd (q (rw w at b))
      at_l w (no a) e k j f = absurd (a (rw w p))
      at_l w (yes a) (no b) k j f = omega arith

      go : (n ≡ l) ⊎ (n ≢ l) → (l < n → length (filter t (upto n)) ≡ suc (length (filter s (upto n))))
          → length (filter t (upto n)) + when (t n) 1 0 ≡ suc (length (filter s (upto n)) + when (s n) 1 0)
      go (inl w) ih = at_l w (t n) (s n) _ _ (passes_before n (omega arith))
      go (inr w) ih = let e = agree n _ _ w (ih (omega arith)) in omega arith
