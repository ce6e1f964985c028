-- What is written of a number is read back as that number, and nothing else is read as it: Decimal and the library's `decimal` agree.
-- Assumes nothing.
use denote.Ref.{Bor}
use Rattle.std.specs.Prelude.{Err, MatchResult, Ok, Result, ◌≡◌, refl, List, [], ◌∷◌, Option, Some, None, ℕ, zero, suc, ◌+◌, ◌*◌, ◌-◌, ◌^◌, ◌≤◌, ◌<◌, length, get_or, decimal}
use Rattle.std.specs.Char.{digit_value}
use Rattle.std.specs.Result.{OkIff, result_ok}
use Rattle.std.specs.Str.{IsAscii, IsUtf8}
use Rattle.std.specs.Str.Parse.{AllDigits, IsNumeral, ParsesUnsigned, digits_value, digits_value_after}
use Rattle.std.proofs.Common.{inl, inr, sym, ap, ◌∙◌, arith, lt-ltb, le-ltb, eq-eqb, ne_eqb}
use Rattle.std.proofs.Math.Decide.{dec_lt, ℕ_discrete}
use Rattle.std.proofs.lemmas.Fmt.{decimal_digit, decimal_is_IsNumeral, decimal-digits_value, first_decimal}
use Rattle.std.proofs.lemmas.Str.{IsUtf8-from_ascii, digit_value_digit}
use Rattle.std.proofs.lemmas.Str.Parse.{digit_from_value, numerals_by_value, tells_digits}
use Rattle.script.specs.Decimal.{digits_of, small, number_of}
use Rattle.script.specs.FieldsLaws.{digit_is, digit_not, number_else}

-- digits are read as their value, and nothing but digits is
reads : (s : List ℕ) (acc : ℕ) → AllDigits 10 s → digits_of acc s ≡ Some (digits_value_after 10 acc s)
unfolding digits_of
reads [] acc d = refl
reads (b ∷ s) acc d =
    let k = digit_from_value b d.0 in
    let v : b - 48 ≡ digit_value b = omega (arith, digit_value_digit b k) in
    rw (digit_is b k.0 k.1, lt-ltb (b - 48) 10 (omega arith)) (reads s (acc * 10 + (b - 48)) d.1 ∙ ap (λ (z : ℕ). Some (digits_value_after 10 (acc * 10 + z) s)) v)

means : (s : List ℕ) (acc n : ℕ) → digits_of acc s ≡ Some n → AllDigits 10 s × (n ≡ digits_value_after 10 acc s)
unfolding digits_of
means [] acc n e = (tt, cc)
means (b ∷ s) acc n e = go (dec_lt b 48) (dec_lt 57 b) (λ (m : ℕ) (w : digits_of m s ≡ Some n). means s m n w)
  where
    go : Dec (b < 48) → Dec (57 < b) → ((m : ℕ) → digits_of m s ≡ Some n → AllDigits 10 s × (n ≡ digits_value_after 10 m s)) → AllDigits 10 (b ∷ s) × (n ≡ digits_value_after 10 acc (b ∷ s))
    go (yes l) m ih = let z : None ≡ Some n = rw (digit_not b (inl l)) at e in cc z
    go (no l) (yes m) ih = let z : None ≡ Some n = rw (digit_not b (inr m)) at e in cc z
    go (no l) (no m) ih =
        let k : (48 ≤ b) × (b ≤ 57) = (omega arith, omega arith) in
        let f = digit_value_digit b k in
        let v : b - 48 ≡ digit_value b = omega (arith, f) in
        let g : digit_value b < 10 = omega (arith, f) in
        let r = ih (acc * 10 + digit_value b) (rw (digit_is b k.0 k.1, v, lt-ltb (digit_value b) 10 g) at e) in
        ((g, r.0), r.1)

small_means : (x : Option ℕ) (n : ℕ) → small x ≡ Some n → (x ≡ Some n) × (n < 2 ^ 32)
small_means None n e = cc
small_means (Some m) n e = go (dec_lt m (2 ^ 32))
  where
    go : Dec (m < 2 ^ 32) → (Some m ≡ Some n) × (n < 2 ^ 32)
    go (yes h) = let z : Some m ≡ Some n = rw (lt-ltb m (2 ^ 32) h) at e in let q : m ≡ n = cc z in (z, omega (arith, q, h))
    go (no h) = let z : None ≡ Some n = rw (le-ltb m (2 ^ 32) (omega (arith, h))) at e in cc z

-- digits without a 0 in front of others, read as a number below 2 ^ 32
text_of : (s : List ℕ) (n : ℕ) → 0 < length s → (get_or s 0 0 ≡ 48 → length s ≡ 1) → small (digits_of 0 s) ≡ Some n → (n < 2 ^ 32) × (s ≡ decimal n)
text_of s n l z e =
    let p = small_means (digits_of 0 s) n e in
    let q = means s 0 n p.0 in
    (p.1, sym (decimal-digits_value (numerals_by_value _ tells_digits) s q.0 l z (omega (arith, q.1, p.1))) ∙ ap decimal (sym q.1))

-- ---- both ways

pub read_back : (n : ℕ) → n < 2 ^ 32 → number_of (decimal n) ≡ Some n
read_back n h =
    let d = decimal_is_IsNumeral n (omega arith) in
    sym (number_else (decimal n) d.0.0 (lead n h)) ∙ ap small (reads (decimal n) 0 d.0.1) ∙ rw (d.1, lt-ltb n (2 ^ 32) h) refl
  where
    lead : (m : ℕ) → m < 2 ^ 32 → 1 < length (decimal m) → get_or (decimal m) 0 0 ≡ 48 → ⊥
    lead zero h l e = let z : length (decimal 0) ≡ 1 = ap length (decimal_digit 0 (omega arith)) in omega arith
    lead (suc m) h l e = omega (arith, first_decimal (suc m) (omega arith) (omega arith))

pub read_means : (s : List ℕ) (n : ℕ) → number_of s ≡ Some n → (n < 2 ^ 32) × (s ≡ decimal n)
unfolding number_of
read_means [] n e = cc
read_means (b ∷ []) n e = text_of (b ∷ []) n (omega arith) (λ _. refl) e
read_means (b ∷ c ∷ s) n e = go (ℕ_discrete b 48)
  where
    go : Dec (b ≡ 48) → (n < 2 ^ 32) × (b ∷ c ∷ s ≡ decimal n)
    go (yes h) = let z : None ≡ Some n = rw (eq-eqb b 48 h) at e in cc z
    go (no h) = text_of (b ∷ c ∷ s) n (omega arith) (λ z. absurd (h z)) (rw (ne_eqb b 48 h) at e)

-- ---- what the library's `parse` reads

-- digits are text
ascii : (s : List ℕ) → AllDigits 10 s → IsAscii s
ascii [] d i = omega arith
ascii (b ∷ s) d zero = omega (arith, digit_from_value b d.0)
ascii (b ∷ s) d (suc i) = ascii s d.1 i

no_text : (s : List ℕ) → (IsUtf8 s → ⊥) → None ≡ small (digits_of 0 s)
no_text s u = go (digits_of 0 s) refl
  where
    go : (x : Option ℕ) → digits_of 0 s ≡ x → None ≡ small (digits_of 0 s)
    go None p = rw p refl
    go (Some n) p = absurd (u (IsUtf8-from_ascii s (ascii s (means s 0 n p).0)))

-- a text without a plus sign in front
parsed : {E : Type 0} (s : List ℕ) (r : Result ℕ E) → 0 < length s
    → OkIff r (IsNumeral 10 s × (digits_value 10 s < 2 ^ 32)) (digits_value 10 s) → result_ok r ≡ small (digits_of 0 s)
parsed s (Ok x) l h = rw (h.1, reads s 0 h.0.0.1, lt-ltb (digits_value 10 s) (2 ^ 32) h.0.1) refl
parsed s (Err e) l h = go (digits_of 0 s) refl
  where
    go : (x : Option ℕ) → digits_of 0 s ≡ x → None ≡ small (digits_of 0 s)
    go None p = rw p refl
    go (Some n) p = let m = means s 0 n p in let v : 2 ^ 32 ≤ n = not_lt m.0 m.1 in rw (p, le-ltb n (2 ^ 32) v) refl
      where
        not_lt : AllDigits 10 s → n ≡ digits_value_after 10 0 s → 2 ^ 32 ≤ n
        not_lt d q = by_two (dec_lt n (2 ^ 32))
          where
            by_two : Dec (n < 2 ^ 32) → 2 ^ 32 ≤ n
            by_two (yes k) = absurd (h ((l, d), rw q at k))
            by_two (no k) = omega (arith, k)

-- a field that neither a plus sign nor a 0 stands in front of, read as a text
module _ {E : Type 0} (N : E → Type 0) (s : List ℕ) (l : 0 < length s) (z : 1 < length s → get_or s 0 0 ≡ 48 → ⊥) (r : Result (Bor (List ℕ)) E)
    (m : MatchResult r (λ x. (x.now ≡ s) × IsUtf8 s) (λ e. (IsUtf8 s → ⊥) × N e)) (o : Option (Bor (List ℕ))) (q : o ≡ result_ok r) where
  pub number_no_text : o ≡ None → None ≡ number_of s
  number_no_text e = go r m (sym q ∙ e) ∙ number_else s l z
    where
      go : (r : Result (Bor (List ℕ)) E) → MatchResult r (λ x. (x.now ≡ s) × IsUtf8 s) (λ e. (IsUtf8 s → ⊥) × N e) → result_ok r ≡ None
          → None ≡ small (digits_of 0 s)
      go (Ok x) m e = cc
      go (Err x) m e = no_text s m.0

  pub number_parsed : {F : Type 0} (t : Bor (List ℕ)) (n : Result ℕ F) → o ≡ Some t → (get_or s 0 0 ≡ 43 → ⊥)
      → ParsesUnsigned 32 10 t.now n → result_ok n ≡ number_of s
  number_parsed t n e p h = parsed s n l (rw (go r m (sym q ∙ e), ne_eqb (get_or s 0 0) 43 p) at h) ∙ number_else s l z
    where
      go : (r : Result (Bor (List ℕ)) E) → MatchResult r (λ x. (x.now ≡ s) × IsUtf8 s) (λ e. (IsUtf8 s → ⊥) × N e) → result_ok r ≡ Some t
          → t.now ≡ s
      go (Ok x) m e = let k : x ≡ t = cc in rw (← k) m.0
      go (Err x) m e = cc
