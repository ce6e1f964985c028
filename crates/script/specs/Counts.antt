-- A call has as many numbers as its verb takes. What a caller needs of it: a call on a node has an operator and a payload.
-- Assumes nothing.
use Rattle.std.specs.Prelude.{Bool, true, false, ◌&&◌, cond, List, [], ◌∷◌, Option, Some, None, ◌≡◌, refl, ℕ, ◌≤◌, eqb, leb, ltb, length, take}
use Rattle.std.proofs.Common.{arith, length-take, leb-true}
use Rattle.script.specs.Fields.{fields_of, numbers_of}
use Rattle.script.specs.LineLaws.{chosen_has}
use Rattle.script.specs.Line.{Line, Says, bad, bare, bare_line, call, line_of, longest, of_fields, skip}
use Rattle.std.proofs.lemmas.Bool.{false≢true}
use Rattle.script.specs.Verbs.{verbs_table, verb_of_word}
use Rattle.script.specs.declared.Call.{Call}
use Rattle.script.specs.declared.Shape.{Shape}
use Rattle.script.specs.declared.Verb.{Verb}
use Rattle.script.specs.declared.Verb.TheVariants.{Add, AddUncanonical, Bad, Classes, ClassesForOp, Clean, Find, FindBest, FindBestCost, IdToNode, IsEmpty, Lookup, Nodes, NumberOfClasses, Rebuild, Setup, Skip, TotalNumberOfNodes, Union}

-- whether a verb takes a node
abbrev pub on_node : Verb → Bool
on_node Setup = false
on_node Add = true
on_node AddUncanonical = true
on_node Lookup = true
on_node Find = false
on_node Union = false
on_node Rebuild = false
on_node Classes = false
on_node ClassesForOp = false
on_node Nodes = false
on_node IdToNode = false
on_node IsEmpty = false
on_node Clean = false
on_node NumberOfClasses = false
on_node TotalNumberOfNodes = false
on_node FindBestCost = false
on_node FindBest = false
on_node Skip = false
on_node Bad = false

-- a row's test: two numbers at least, if it takes a node
abbrev two : Shape → Bool
two s = cond (on_node s.verb) (leb 2 s.least) true

two_verb : (w : List ℕ) (v : Shape) → verb_of_word w ≡ Some v → two v ≡ true
unfolding verb_of_word verbs_table
two_verb w v e = chosen_has two w verbs_table v refl e

-- what a line says has this
abbrev Enough : Line → Type 0
Enough l = on_node l.verb ≡ true → 2 ≤ length l.numbers

enough_call : (v : Shape) (ns : Option (List ℕ)) → two v ≡ true → Enough (call (Some v) ns)
enough_call v None h = λ e. absurd (false≢true e)
enough_call v (Some ns) h = go (leb v.least (length ns)) refl (leb (length ns) v.most)
  where
    least : (x : Bool) → on_node v.verb ≡ x → cond x (leb 2 v.least) true ≡ true → on_node v.verb ≡ true → 2 ≤ v.least
    least true q t e = leb-true 2 v.least t
    least false q t e = absurd (false≢true (cc (e, q)))

    go : (x : Bool) → leb v.least (length ns) ≡ x → (y : Bool) → Enough (cond (x && y) (record { verb = v.verb; numbers = ns }) bad)
    go true q true = λ e. omega (arith, leb-true v.least (length ns) q, least (on_node v.verb) refl h e)
    go true q false = λ e. absurd (false≢true e)
    go false q y = λ e. absurd (false≢true e)

enough_fields : (fs : List (List ℕ)) → Enough (of_fields fs)
enough_fields [] = λ e. absurd (false≢true e)
enough_fields (w ∷ fs) = go (verb_of_word w) refl
  where
    go : (x : Option Shape) → verb_of_word w ≡ x → Enough (call x (numbers_of fs))
    go None e = λ e. absurd (false≢true e)
    go (Some v) e = enough_call v (numbers_of fs) (two_verb w v e)

enough_cond : (b : Bool) (x y : Line) → Enough x → Enough y → Enough (cond b x y)
enough_cond true x y p q = p
enough_cond false x y p q = q

enough_bare : (s : List ℕ) → Enough (bare_line s)
unfolding bare_line
enough_bare [] = λ e. absurd (false≢true e)
enough_bare (b ∷ s) = enough_cond (eqb b 35) skip _ (λ e. absurd (false≢true e)) (enough_fields (fields_of (b ∷ s)))

enough_line : (s : List ℕ) → Enough (line_of s)
unfolding line_of
enough_line s = enough_cond (ltb longest (length s)) bad _ (λ e. absurd (false≢true e)) (enough_bare (bare s))

-- a call on a node has its operator and its payload
pub node_call : (line : List ℕ) (r : Call) → Says line r → on_node r.verb ≡ true → 2 ≤ r.count
node_call line r s e =
    let p : 2 ≤ length (take r.count r.numbers) = rw s.exact at (enough_line line) e in
    omega (arith, length-take r.count r.numbers)
