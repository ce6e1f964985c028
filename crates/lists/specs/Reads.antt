-- What stands at an index of a list: `at` for words, `Word` for a word that is read, and the laws of `get_or` that the library lacks.
-- Assumes nothing.
use Rattle.std.specs.Prelude.{List, [], ◌++◌, ◌∷◌, map, reverse, ◌≢◌, ◌⊎◌, ◌≡◌, refl, ◌+◌, ◌<◌, ◌^◌, ◌≤◌, suc, zero, ℕ, get_or, length, replicate, set, take}
use Rattle.std.proofs.lemmas.List.{reverse-append}
use Rattle.std.proofs.Common.{inl, inr, ⊎_elim, ◌∙◌, ap, subst, sym, suc-le-suc, zero-le, arith, length-append, get_or-append-add, get_or-set_other, get_or-set_same, take-suc}
use Rattle.std.proofs.Math.Decide.{dec_lt}
use Rattle.std.proofs.Math.ListN.{get_or-append}
use Rattle.std.proofs.Math.Seq.{take-length}
use Rattle.lists.specs.Tests.{eq_or}

-- the word at i, and 0 past the end
abbrev pub at : List ℕ → ℕ → ℕ
at l i = get_or l i 0

-- r is the word at i
pub record Word (ws : List ℕ) (i r : ℕ) : Type 0 where
  pub exact : r ≡ at ws i
  pub small : r < 2 ^ 32

pub at_left : (xs ys : List ℕ) (i : ℕ) → i < length xs → at (xs ++ ys) i ≡ at xs i
at_left xs ys i h = get_or-append xs ys 0 i h

pub at_right : (xs ys : List ℕ) (i k : ℕ) → i ≡ length xs + k → at (xs ++ ys) i ≡ at ys k
at_right xs ys i k e = rw e (get_or-append-add xs ys k 0)

module _ {A : Type 0} where
  -- one more at the end, equal to what is read past the end
  pub get_or_more : (d : ℕ → A) (l : List A) (i : ℕ) → get_or (l ++ (d (length l) ∷ [])) i (d i) ≡ get_or l i (d i)
  get_or_more d [] zero = refl
  get_or_more d [] (suc i) = refl
  get_or_more d (x ∷ l) zero = refl
  get_or_more d (x ∷ l) (suc i) = get_or_more (λ n. d (suc n)) l i

  pub get_or_map_or : (f : A → A) (d : A) (l : List A) (i : ℕ) → (length l ≤ i → f d ≡ d) → get_or (map f l) i d ≡ f (get_or l i d)
  get_or_map_or f d [] i h = sym (h zero-le)
  get_or_map_or f d (x ∷ l) zero h = refl
  get_or_map_or f d (x ∷ l) (suc i) h = get_or_map_or f d l i (λ le. h (suc-le-suc le))

  pub get_or_set_cases : (l : List A) (r : ℕ) (v : A) (j : ℕ) (d : A) → ((j ≡ r) × (get_or (set l r v) j d ≡ v)) ⊎ (get_or (set l r v) j d ≡ get_or l j d)
  get_or_set_cases [] r v j d = inr refl
  get_or_set_cases (x ∷ l) zero v zero d = inl (refl, refl)
  get_or_set_cases (x ∷ l) zero v (suc j) d = inr refl
  get_or_set_cases (x ∷ l) (suc r) v zero d = inr refl
  get_or_set_cases (x ∷ l) (suc r) v (suc j) d = up (get_or_set_cases l r v j d)
    where
      up : ((j ≡ r) × (get_or (set l r v) j d ≡ v)) ⊎ (get_or (set l r v) j d ≡ get_or l j d) → ((suc j ≡ suc r) × (get_or (set l r v) j d ≡ v)) ⊎ (get_or (set l r v) j d ≡ get_or l j d)
      up (inl e) = inl (ap suc e.0, e.1)
      up (inr e) = inr e

  -- a row of lists, of which one was replaced: what holds of the new one at r, and of the others, holds at every index
  pub set_all : (P : ℕ → A → Type 0) (l : List A) (r : ℕ) (v d : A) → r < length l → P r v → ((j : ℕ) → j ≢ r → P j (get_or l j d)) → (j : ℕ) → P j (get_or (set l r v) j d)
  set_all P l r v d h p q j =
      ⊎_elim
      (λ (e : j ≡ r). subst (λ (k : ℕ). P k (get_or (set l r v) k d)) (sym e) (rw (get_or-set_same l r v d h) p))
      (λ (e : j ≢ r). rw (get_or-set_other l r j v d e) (q j e))
      (eq_or j r)

  pub length_more : (l : List A) (x : A) → length (l ++ (x ∷ [])) ≡ suc (length l)
  length_more l x = length-append l (x ∷ []) ∙ omega arith

  pub lt_more : (l : List A) (x : A) (i : ℕ) → i < length (l ++ (x ∷ [])) → (i < length l) ⊎ (i ≡ length l)
  lt_more l x i h = go (dec_lt i (length l))
    where
      h' : i < length l + 1
      h' = rw (length-append l (x ∷ [])) at h

      go : Dec (i < length l) → (i < length l) ⊎ (i ≡ length l)
      go (yes k) = inl k
      go (no k) = inr (omega (arith, h'))

pub get_or_map_lt : (f : ℕ → ℕ) (l : List ℕ) (p : ℕ) → p < length l → at (map f l) p ≡ f (at l p)
get_or_map_lt f l p h = get_or_map_or f 0 l p (λ le. absurd (omega arith))

-- the reverse of a list begins with its last member
pub reverse_last : (l : List ℕ) (k : ℕ) → length l ≡ suc k → reverse l ≡ at l k ∷ reverse (take k l)
reverse_last l k e = ap reverse whole ∙ reverse-append (take k l) (at l k ∷ [])
  where
    whole : l ≡ take k l ++ (at l k ∷ [])
    whole = rw (← take-suc l k 0 (omega arith), ← e) (sym (take-length l))

-- two functions that agree at each index of a list map it alike
pub map_at : (f g : ℕ → ℕ) (xs : List ℕ) → ((i : ℕ) → i < length xs → f (at xs i) ≡ g (at xs i)) → map f xs ≡ map g xs
map_at f g [] h = refl
map_at f g (x ∷ xs) h = let e : f x ≡ g x = h 0 (omega arith) in let t = map_at f g xs (λ i l. h (suc i) (omega arith)) in λ i. e i ∷ t i

-- copies of what is read past the end: so it reads everywhere
pub get_or_copies : {A : Type 0} (n i : ℕ) (d : A) → get_or (replicate n d) i d ≡ d
get_or_copies zero i d = refl
get_or_copies (suc n) zero d = refl
get_or_copies (suc n) (suc i) d = get_or_copies n i d
