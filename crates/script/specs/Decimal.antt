-- Numbers in decimal, read. Bytes are ASCII codes: 48 to 57 are the digits. A number is read from digits alone, with no 0 in front of others, below 2 ^ 32. Numbers are
-- written as the library writes them (`decimal`), with as few digits as there can be. That the two agree is proved in DecimalLaws.
-- Assumes nothing.
use Rattle.std.specs.Prelude.{cond, Option, Some, None, List, [], ◌∷◌, ℕ, ◌+◌, ◌*◌, ◌-◌, ◌^◌, eqb, ltb}

-- a digit's value, 10 for any other byte
abbrev pub digit_of : ℕ → ℕ
digit_of b = cond (ltb b 48) 10 (cond (ltb 57 b) 10 (b - 48))

-- digits read behind the number acc
unfoldable pub digits_of : ℕ → List ℕ → Option ℕ
digits_of acc [] = Some acc
digits_of acc (b ∷ s) = cond (ltb (digit_of b) 10) (digits_of (acc * 10 + digit_of b) s) None

-- a number below 2 ^ 32, or none
abbrev pub small : Option ℕ → Option ℕ
small (Some n) = cond (ltb n (2 ^ 32)) (Some n) None
small None = None

-- a field as a number
unfoldable pub number_of : List ℕ → Option ℕ
number_of [] = None
number_of (b ∷ []) = small (digits_of 0 (b ∷ []))
number_of (b ∷ c ∷ s) = cond (eqb b 48) None (small (digits_of 0 (b ∷ c ∷ s)))
