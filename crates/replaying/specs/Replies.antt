-- What is replied to each answer of a call: the values as they are, a refusal by its number. With Reply of `script` this says which line answers each call.
-- Assumes nothing.
use Rattle.std.specs.Prelude.{Bool, Err, None, Ok, Option, Result, Some, false, true, ℕ}
use Rattle.language.specs.declared.Id.{Id}
use Rattle.egraph.specs.Answers.{number_of}
use Rattle.egraph.specs.declared.Refusal.{Refusal}
use Rattle.extract.specs.declared.Form.{Form}
use Rattle.script.specs.declared.Reply.{Reply}
use Rattle.script.specs.declared.Reply.TheVariants as reply
use Rattle.replaying.specs.declared.Told.{Told}

abbrev pub refusal_reply : Refusal → Reply
refusal_reply q = reply.Refused (number_of q)

-- a reply without words
abbrev pub alone : Reply → Told
alone r = record { reply = r; words = 0 }

-- ---- what is told of what a call answered with

abbrev pub setup_tells : Unit {0} → Told
setup_tells _ = alone reply.Done

abbrev pub id_tells : Id → Told
id_tells i = alone (reply.Number i.0)

abbrev pub found_tells : Option Id → Told
found_tells (Some i) = alone (reply.Number i.0)
found_tells None = alone reply.None

abbrev pub flag_tells : Bool → Told
flag_tells true = alone reply.Yes
flag_tells false = alone reply.No

abbrev pub count_tells : ℕ → Told
count_tells k = alone (reply.Number k)

-- the first k words of the list
abbrev pub list_tells : ℕ → Told
list_tells k = record { reply = reply.Words; words = k }

abbrev pub form_tells : Form → Told
form_tells f = record { reply = reply.Sized f.size; words = f.words }

-- that, or a refusal by its number
abbrev pub told : {A : Type 0} → (A → Told) → Result A Refusal → Told
told tells (Ok a) = tells a
told tells (Err q) = alone (refusal_reply q)

abbrev pub setup_told : Result (Unit {0}) Refusal → Told
setup_told = told setup_tells

abbrev pub id_told : Result Id Refusal → Told
id_told = told id_tells

abbrev pub lookup_told : Result (Option Id) Refusal → Told
lookup_told = told found_tells

abbrev pub flag_told : Result Bool Refusal → Told
flag_told = told flag_tells

abbrev pub count_told : Result ℕ Refusal → Told
count_told = told count_tells

abbrev pub list_told : Result ℕ Refusal → Told
list_told = told list_tells

abbrev pub form_told : Result Form Refusal → Told
form_told = told form_tells
