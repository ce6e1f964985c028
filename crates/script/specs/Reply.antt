-- The line that answers a call, byte for byte, with its line feed (10) at the end: `0` and what was answered, `no` and the number of a refusal, or `?` for a line that is no
-- call. A line that is passed over has none. ws are the words of the list or form that was answered, and mean nothing elsewhere.
-- Assumes nothing.
use Rattle.std.specs.Prelude.{codes, decimal, List, [], ◌∷◌, ◌++◌, ℕ}
use Rattle.script.specs.declared.Reply.{Reply}
use Rattle.script.specs.declared.Reply.TheVariants.{Bad, Done, No, None, Number, Refused, Sized, Skip, Words, Yes}

-- a space and a number
abbrev pub word : ℕ → List ℕ
word n = 32 ∷ decimal n

-- a space and a number for each word
unfoldable pub words : List ℕ → List ℕ
words [] = []
words (w ∷ ws) = word w ++ words ws

-- a text and a line feed
abbrev pub fed : List ℕ → List ℕ
fed text = text ++ (10 ∷ [])

abbrev pub reply_line : Reply → List ℕ → List ℕ
reply_line Done ws = fed (codes "0")
-- 0 K
reply_line (Number k) ws = fed (codes "0" ++ word k)
reply_line Yes ws = fed (codes "0 yes")
reply_line No ws = fed (codes "0 no")
reply_line None ws = fed (codes "0 none")
-- 0 W W ..
reply_line Words ws = fed (codes "0" ++ words ws)
-- 0 SIZE W W ..
reply_line (Sized k) ws = codes "0" ++ (word k ++ fed (words ws))
-- no R
reply_line (Refused r) ws = fed (codes "no" ++ word r)
reply_line Bad ws = fed (codes "?")
-- no line
reply_line Skip ws = []
