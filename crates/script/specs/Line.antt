-- What a line of a script says, without its line feed. A line of more than 4,096 bytes is no call. A byte-order mark at the start of any other, and a
-- carriage return at its end, are no part of it: editors and systems put them there unasked. Of what is left, the bare line, an empty one and a note (a
-- first byte 35, `#`) are passed over; any other is a call if its first field is a verb, all others are numbers, and there are as many as the verb takes.
-- Assumes nothing.
use Rattle.std.specs.Prelude.{◌&&◌, bytes_eq, cond, List, [], ◌∷◌, ◌≡◌, ℕ, ◌-◌, eqb, leb, ltb, drop, get_or, length, take, Option, Some, None}
use Rattle.script.specs.Fields.{fields_of, numbers_of}
use Rattle.script.specs.Verbs.{verb_of_word}
use Rattle.script.specs.declared.Call.{Call}
use Rattle.script.specs.declared.Shape.{Shape}
use Rattle.script.specs.declared.Verb.{Verb}
use Rattle.script.specs.declared.Verb.TheVariants.{Bad, Skip}

-- a line of more bytes is no call
abbrev pub longest : ℕ
longest = 4096

pub record Line : Type 0 where
  pub verb : Verb
  pub numbers : List ℕ

abbrev pub skip : Line
skip = record { verb = Skip; numbers = [] }

abbrev pub bad : Line
bad = record { verb = Bad; numbers = [] }

abbrev pub call : Option Shape → Option (List ℕ) → Line
call None ns = bad
call (Some v) None = bad
call (Some v) (Some ns) = cond (leb v.least (length ns) && leb (length ns) v.most) (record { verb = v.verb; numbers = ns }) bad

abbrev pub of_fields : List (List ℕ) → Line
of_fields [] = bad
of_fields (w ∷ fs) = call (verb_of_word w) (numbers_of fs)

-- the byte-order mark
abbrev pub mark : List ℕ
mark = 239 ∷ 187 ∷ 191 ∷ []

-- without one byte-order mark at the start
unfoldable pub unmarked : List ℕ → List ℕ
unmarked s = cond (bytes_eq (take 3 s) mark) (drop 3 s) s

-- without one carriage return (13) at the end
unfoldable pub unreturned : List ℕ → List ℕ
unreturned s = cond (eqb (get_or s (length s - 1) 0) 13) (take (length s - 1) s) s

-- the bare line
abbrev pub bare : List ℕ → List ℕ
bare s = unreturned (unmarked s)

-- what a bare line says
unfoldable pub bare_line : List ℕ → Line
bare_line [] = skip
bare_line (b ∷ s) = cond (eqb b 35) skip (of_fields (fields_of (b ∷ s)))

unfoldable pub line_of : List ℕ → Line
line_of s = cond (ltb longest (length s)) bad (bare_line (bare s))

-- ---- what the functions promise

-- what a call says, as a line does
abbrev pub said : Call → Line
said r = record { verb = r.verb; numbers = take r.count r.numbers }

-- what `parse` promises: the answer is the line, number for number
pub record Says (line : List ℕ) (r : Call) : Type 0 where
  pub exact : line_of line ≡ said r

-- the same of a bare line
pub record SaysBare (s : List ℕ) (r : Call) : Type 0 where
  pub exact : bare_line s ≡ said r
