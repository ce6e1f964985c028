-- The node of an id, as C asks for it: a list of the node's words. It is refused as `id_to_node` refuses, and by 8 where the list lent is too short
-- for the words, as document 01 has it of every list; a refusal leaves the list as it was.
-- Assumes nothing.
use Rattle.std.specs.Prelude.{Err, None, Ok, Option, Result, Some, List, [], ◌∷◌, ◌≡◌, ℕ}
use Rattle.language.specs.declared.Node.{Node}
use Rattle.spelling.specs.Alone.{SpellsOne}
use Rattle.egraph.specs.Answers.{Answer, no_by, number_of, yes_with}
use Rattle.egraph.specs.Listing.{NodeSays}
use Rattle.egraph.specs.declared.Refusal.{Refusal}
use Rattle.capi.specs.Answered.{Answered}
use Rattle.capi.specs.Spoken.{spoken}
use Rattle.capi.specs.declared.Reply.{Reply}

-- how many words of the list were written; 8 where it is too short
abbrev pub spelled_says : Option ℕ → Answer
spelled_says (Some k) = yes_with (k ∷ [])
spelled_says None = no_by 8

abbrev pub NodeTold : Result Node Refusal → List ℕ → Reply → List ℕ → Type 0
NodeTold (Ok x) list r list' = Answered (λ (s : Option ℕ). SpellsOne list x s list') spelled_says r
NodeTold (Err q) list r list' = (r ≡ spoken (no_by (number_of q))) × (list' ≡ list)

pub record AnsweredWords (ws : List ℕ) (i : ℕ) (list : List ℕ) (r : Reply) (list' : List ℕ) : Type 0 where
  pub answer : Result Node Refusal
  pub made : NodeSays ws i answer
  pub told : NodeTold answer list r list'
