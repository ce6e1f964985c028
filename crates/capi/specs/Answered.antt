-- What it means that C made a call: there is an answer that the promise of the call in `egraph` or `extract` allows, and what C reads is that
-- answer.
-- Assumes nothing.
use Rattle.std.specs.Prelude.{List, ◌≡◌, ℕ}
use Rattle.language.specs.declared.Node.{Node}
use Rattle.spelling.specs.Given.{GivenNode}
use Rattle.egraph.specs.Answers.{Answer}
use Rattle.capi.specs.Spoken.{spoken}
use Rattle.capi.specs.declared.Reply.{Reply}

pub record Answered {A : Type 0} (Promise : A → Type 0) (says : A → Answer) (r : Reply) : Type 0 where
  pub answer : A
  pub made : Promise answer
  pub is : r ≡ spoken (says answer)

-- the same of a call on the node that an operator, a payload and a list of children give
pub record AnsweredNode {A : Type 0} (o p : ℕ) (ks : List ℕ) (Promise : Node → A → Type 0) (says : A → Answer) (r : Reply) : Type 0 where
  pub node : Node
  pub given : GivenNode o p ks node
  pub made : Answered (Promise node) says r
