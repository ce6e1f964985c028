-- The laws behind the reading of fields: digits one after the other, and the numbers gathered so far.
-- Assumes nothing.
use Rattle.std.specs.Prelude.{◌≡◌, refl, List, [], ◌∷◌, ◌++◌, ◌⊎◌, Option, Some, None, ℕ, suc, ◌+◌, ◌-◌, ◌≤◌, ◌<◌, length, get_or, take, drop, set}
use Rattle.std.proofs.Common.{inl, inr, sym, ap, ◌∙◌, append_assoc, append-nil, add-one, arith, eq-eqb, ne_eqb, lt-ltb, le-ltb}
use Rattle.std.proofs.Math.Seq.{take-suc-set}
use Rattle.std.proofs.lemmas.List.{at_drop_more, at_drop_all}
use Rattle.script.specs.Decimal.{digit_of, digits_of, small, number_of}
use Rattle.script.specs.Fields.{with_first, numbers_of}

-- ---- digits

pub digit_is : (b : ℕ) → 48 ≤ b → b ≤ 57 → digit_of b ≡ b - 48
digit_is b l m = rw (le-ltb b 48 l, le-ltb 57 b m) refl

pub digit_not : (b : ℕ) → (b < 48) ⊎ (57 < b) → digit_of b ≡ 10
digit_not b (inl l) = rw (lt-ltb b 48 l) refl
digit_not b (inr l) = rw (le-ltb b 48 (omega arith), lt-ltb 57 b l) refl

-- ---- a field

pub number_none : (s : List ℕ) → length s ≡ 0 → None ≡ number_of s
unfolding number_of
number_none [] h = refl
number_none (b ∷ s) h = absurd (omega arith)

pub number_zero : (s : List ℕ) → 1 < length s → get_or s 0 0 ≡ 48 → None ≡ number_of s
unfolding number_of
number_zero [] h e = absurd (omega arith)
number_zero (b ∷ []) h e = absurd (omega arith)
number_zero (b ∷ c ∷ s) h e = rw (eq-eqb b 48 e) refl

pub number_plus : (s : List ℕ) → 0 < length s → get_or s 0 0 ≡ 43 → None ≡ number_of s
unfolding number_of digits_of
number_plus [] h e = absurd (omega arith)
number_plus (b ∷ []) h e = rw e refl
number_plus (b ∷ c ∷ s) h e = rw e refl

pub number_else : (s : List ℕ) → 0 < length s → (1 < length s → get_or s 0 0 ≡ 48 → ⊥) → small (digits_of 0 s) ≡ number_of s
unfolding number_of
number_else [] h n = absurd (omega arith)
number_else (b ∷ []) h n = refl
number_else (b ∷ c ∷ s) h n = rw (ne_eqb b 48 (n (omega arith))) refl

-- ---- numbers

-- the first numbers of some fields, and what the fields behind them say
abbrev pub after : List ℕ → Option (List ℕ) → Option (List ℕ)
after xs None = None
after xs (Some ys) = Some (xs ++ ys)

after_more : (xs : List ℕ) (v : ℕ) (n : Option (List ℕ)) → after xs (with_first (Some v) n) ≡ after (xs ++ (v ∷ [])) n
after_more xs v None = refl
after_more xs v (Some ys) = rw (append_assoc xs (v ∷ []) ys) refl

-- the first k numbers stand in vs
pub record Read (fs : List (List ℕ)) (vs : List ℕ) (k : ℕ) : Type 0 where
  pub says : numbers_of fs ≡ after (take k vs) (numbers_of (drop k fs))

next_field : (fs : List (List ℕ)) (k : ℕ) (w : List ℕ) → k < length fs → w ≡ get_or fs k w → numbers_of (drop k fs) ≡ with_first (number_of w) (numbers_of (drop (k + 1) fs))
unfolding numbers_of
next_field fs k w l e = at_drop_more numbers_of fs k w l ∙ ap (λ (z : List ℕ). with_first (number_of z) (numbers_of (drop (k + 1) fs))) (sym e)

pub read_more : (fs : List (List ℕ)) (vs : List ℕ) (k v : ℕ) (w : List ℕ) → Read fs vs k → k < length fs → w ≡ get_or fs k w → number_of w ≡ Some v → k < length vs → Read fs (set vs k v) (k + 1)
read_more fs vs k v w r l e n m = record {
  says =
      r.says ∙ ap (after (take k vs)) (next_field fs k w l e ∙ ap (λ (z : Option ℕ). with_first z (numbers_of (drop (k + 1) fs))) n) ∙ after_more (take k vs) v (numbers_of (drop (k + 1) fs))
      ∙ rw (add-one k, take-suc-set vs k v m) refl;
}

pub read_not : (fs : List (List ℕ)) (vs : List ℕ) (k : ℕ) (w : List ℕ) → Read fs vs k → k < length fs → w ≡ get_or fs k w → number_of w ≡ None → numbers_of fs ≡ None
read_not fs vs k w r l e n = r.says ∙ ap (after (take k vs)) (next_field fs k w l e ∙ ap (λ (z : Option ℕ). with_first z (numbers_of (drop (k + 1) fs))) n)

pub read_all : (fs : List (List ℕ)) (vs : List ℕ) (k : ℕ) → Read fs vs k → length fs ≤ k → numbers_of fs ≡ Some (take k vs)
unfolding numbers_of
read_all fs vs k r l = r.says ∙ ap (after (take k vs)) (at_drop_all numbers_of fs k l) ∙ rw (append-nil (take k vs)) refl

-- as many numbers as fields
pub count_all : (fs : List (List ℕ)) (ns : List ℕ) → numbers_of fs ≡ Some ns → length ns ≡ length fs
unfolding numbers_of
count_all [] ns e = let q : ns ≡ [] = cc in rw q refl
count_all (f ∷ fs) ns e = go (number_of f) (numbers_of fs) refl (count_all fs) e
  where
    go : (x : Option ℕ) (y : Option (List ℕ)) → numbers_of fs ≡ y → ((ms : List ℕ) → numbers_of fs ≡ Some ms → length ms ≡ length fs) → with_first x y ≡ Some ns → length ns ≡ suc (length fs)
    go None y p ih e = cc
    go (Some v) None p ih e = cc
    go (Some v) (Some ms) p ih e = let q : ns ≡ v ∷ ms = cc in rw q (ap suc (ih ms p))
