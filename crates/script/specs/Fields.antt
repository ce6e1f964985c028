-- The fields of a line, and their numbers. A line is cut at every space (32), so two spaces side by side have an empty field between them, which is no number.
-- Assumes nothing.
use Rattle.std.specs.Prelude.{List, [], ◌∷◌, ◌==◌, ℕ, Option, Some, None}
use Rattle.std.specs.List.{slice_split}
use Rattle.script.specs.Decimal.{number_of}

-- a line of more numbers is no call
abbrev pub most_numbers : ℕ
most_numbers = 24

unfoldable pub fields_of : List ℕ → List (List ℕ)
fields_of s = slice_split (λ b. b == 32) s

-- the numbers of all fields, or none where one is no number
abbrev pub with_first : Option ℕ → Option (List ℕ) → Option (List ℕ)
with_first None ns = None
with_first (Some v) None = None
with_first (Some v) (Some ns) = Some (v ∷ ns)

unfoldable pub numbers_of : List (List ℕ) → Option (List ℕ)
numbers_of [] = Some []
numbers_of (f ∷ fs) = with_first (number_of f) (numbers_of fs)
