-- The plain list of ids that entries stand for, the last pushed first. What a stretch of places stands for is a parameter: S c k xs says that
-- xs are the ids of the stretch of k places that ends at c, the last place's id last.
-- Assumes nothing.
use Rattle.std.specs.Prelude.{◌≡◌, refl, List, [], ◌∷◌, ◌++◌, reverse, ℕ, zero, suc, ◌*◌, ◌+◌, ◌<◌, ◌≤◌, length}
use Rattle.std.proofs.Common.{ap, suc-mul, arith, length-append}
use Rattle.std.proofs.lemmas.List.{length-reverse}
use Rattle.lists.specs.Sums.{sum_of}
use Rattle.pending.specs.Stack.{Entries, stretched}

pub data Stands (S : ℕ → ℕ → List ℕ → Type 0) : Entries → List ℕ → Type 0 where
  none : Stands S [] []
  one : {i : ℕ} {es : Entries} {is : List ℕ} → Stands S es is → Stands S ((i, 0) ∷ es) (i ∷ is)
  many : {c k : ℕ} {xs : List ℕ} {es : Entries} {is : List ℕ} → S c (suc k) xs → Stands S es is → Stands S ((c, suc k) ∷ es) (reverse xs ++ is)

pub stands_map : {S T : ℕ → ℕ → List ℕ → Type 0} {es : Entries} {is : List ℕ} → ((c k : ℕ) (xs : List ℕ) → S c k xs → T c k xs) → Stands S es is → Stands T es is
stands_map f none = none
stands_map f (one s) = one (stands_map f s)
stands_map f (many h s) = many (f _ _ _ h) (stands_map f s)

pub stands_stretched : {S : ℕ → ℕ → List ℕ → Type 0} (c k : ℕ) (xs : List ℕ) {es : Entries} {is : List ℕ} → (0 < k → S c k xs) → length xs ≡ k → Stands S es is
    → Stands S (stretched c k es) (reverse xs ++ is)
stands_stretched c zero [] h e s = s
stands_stretched c zero (x ∷ xs) h e s = absurd (omega arith)
stands_stretched c (suc k) xs h e s = many (h (omega arith)) s

-- ---- how many ids

-- of an entry with the count k
abbrev pub held : ℕ → ℕ
held zero = 1
held (suc k) = suc k

abbrev pub total : Entries → ℕ
total es = sum_of (λ (e : ℕ × ℕ). held e.1) es

pub stands_length : {S : ℕ → ℕ → List ℕ → Type 0} → ((c k : ℕ) (xs : List ℕ) → S c k xs → length xs ≡ k) → {es : Entries} {is : List ℕ} → Stands S es is → length is ≡ total es
unfolding sum_of
stands_length size none = refl
stands_length size (one s) = omega (arith, stands_length size s)
stands_length size (many {c = c} {k = k} {xs = xs} {is = is} h s) =
    omega (arith, length-append (reverse xs) is, length-reverse xs, size c (suc k) xs h, stands_length size s)

-- where no stretch has more than b ids
pub stands_le : {S : ℕ → ℕ → List ℕ → Type 0} (b : ℕ) → ((c k : ℕ) (xs : List ℕ) → S c k xs → length xs ≤ b) → {es : Entries} {is : List ℕ} → Stands S es is
    → length is ≤ length es * (b + 1)
stands_le b low none = omega arith
stands_le b low (one {es = es} s) = omega (arith, stands_le b low s, suc-mul (length es) (b + 1))
stands_le b low (many {c = c} {k = k} {xs = xs} {es = es} {is = is} h s) =
    omega (arith, stands_le b low s, suc-mul (length es) (b + 1), length-append (reverse xs) is, length-reverse xs, low c (suc k) xs h)

-- an entry stands for one id at least
pub total_le : (es : Entries) → length es ≤ total es
unfolding sum_of
total_le [] = omega arith
total_le (e ∷ es) = go e.1 (total_le es)
  where
    go : (k : ℕ) → length es ≤ total es → suc (length es) ≤ held k + total es
    go zero h = omega arith
    go (suc k) h = omega arith

-- ---- where stretches determine their ids, the entries do

pub stands_determined : {S : ℕ → ℕ → List ℕ → Type 0} → ((c k : ℕ) (xs ys : List ℕ) → S c (suc k) xs → S c (suc k) ys → xs ≡ ys)
    → {es : Entries} {is js : List ℕ} → Stands S es is → Stands S es js → is ≡ js
stands_determined f none none = refl
stands_determined f (one {i = i} s) (one t) = ap (λ (l : List ℕ). i ∷ l) (stands_determined f s t)
stands_determined f (many {c = c} {k = k} {xs = xs} h s) (many {xs = ys} j t) =
    let e = f c k xs ys h j in
    let r = stands_determined f s t in
    λ i. reverse (e i) ++ r i
