-- What some lines say, and some answers, closed by computation: the definitions of Line and Reply on plain cases.
-- Assumes nothing.
use Rattle.std.specs.Prelude.{codes, List, [], ◌∷◌, ◌++◌, map, ◌≡◌, refl, ℕ}
use Rattle.script.specs.Decimal.{digits_of, number_of}
use Rattle.std.specs.Fmt.{digits}
use Rattle.script.specs.Fields.{fields_of, numbers_of}
use Rattle.script.specs.Line.{Line, bare_line, line_of, mark, unmarked, unreturned}
use Rattle.script.specs.Reply.{fed, reply_line, words}
use Rattle.script.specs.Verbs.{verbs_table, verb_of_word}
use Rattle.script.specs.declared.Reply.{Reply}
use Rattle.script.specs.declared.Reply.TheVariants.{Done, None, Number, Refused, Sized, Words}
use Rattle.script.specs.declared.Verb.{Verb}
use Rattle.script.specs.declared.Verb.TheVariants.{Add, Bad, Find, FindBest, Skip}

abbrev line : Verb → List ℕ → Line
line v ns = record { verb = v; numbers = ns }

-- lines, each with what it says
abbrev lines : List (List ℕ × Verb × List ℕ)
lines =
    (codes "find 12", Find, 12 ∷ [])
    ∷ (codes "find 012", Bad, [])
    ∷ (codes "find 12 ", Bad, [])
    ∷ (codes "find", Bad, [])
    ∷ (codes "find 4294967295", Find, 4294967295 ∷ [])
    ∷ (codes "find 4294967296", Bad, [])
    ∷ (codes "add 3 0 1 1", Add, 3 ∷ 0 ∷ 1 ∷ 1 ∷ [])
    ∷ (codes "find_best 0", FindBest, 0 ∷ [])
    ∷ (codes "# find 1", Skip, [])
    ∷ (codes " find 1", Bad, [])
    ∷  -- a carriage return, two, and one in front
    (codes "find 12" ++ (13 ∷ []), Find, 12 ∷ [])
    ∷ (codes "find 12" ++ (13 ∷ 13 ∷ []), Bad, [])
    ∷ (13 ∷ codes "find 12", Bad, [])
    ∷ (13 ∷ [], Skip, [])
    ∷  -- a byte-order mark, two, and two bytes of one
    (mark ++ codes "find 12", Find, 12 ∷ [])
    ∷ (mark ++ (codes "find 12" ++ (13 ∷ [])), Find, 12 ∷ [])
    ∷ (mark ++ (mark ++ codes "find 12"), Bad, [])
    ∷ (239 ∷ 187 ∷ codes "find 12", Bad, [])
    ∷ (mark, Skip, [])
    ∷ (mark ++ (13 ∷ []), Skip, [])
    ∷ (mark ++ codes "# x", Skip, [])
    ∷ []

-- answers, each with the words beside it and its line
abbrev replies : List (Reply × List ℕ × List ℕ)
replies =
    (Done, [], fed (codes "0"))
    ∷ (Number 120, [], fed (codes "0 120"))
    ∷ (Words, [], fed (codes "0"))
    ∷ (Words, 1 ∷ 0 ∷ 4294967295 ∷ [], fed (codes "0 1 0 4294967295"))
    ∷ (Sized 18446744073709551615, 2 ∷ 0 ∷ 0 ∷ [], fed (codes "0 18446744073709551615 2 0 0"))
    ∷ (Refused 7, [], fed (codes "no 7"))
    ∷ (None, [], fed (codes "0 none"))
    ∷ []

pub lines_say : map (λ (x : List ℕ × Verb × List ℕ). line_of x.0) lines ≡ map (λ (x : List ℕ × Verb × List ℕ). line x.1 x.2) lines
unfolding line_of unmarked unreturned bare_line fields_of numbers_of number_of digits_of verb_of_word verbs_table
lines_say = refl

pub replies_are : map (λ (x : Reply × List ℕ × List ℕ). reply_line x.0 x.1) replies ≡ map (λ (x : Reply × List ℕ × List ℕ). x.2) replies
unfolding words digits
replies_are = refl
