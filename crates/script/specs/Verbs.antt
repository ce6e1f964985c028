-- The table of verbs: the name of each, and the least and the most numbers that it takes. Where a call takes a node it takes operator, payload and up to 22 children, so
-- that more than eight can be handed on and refused.
-- Assumes nothing.
use Rattle.std.specs.Prelude.{cond, codes, List, [], ◌∷◌, ℕ, Option, Some, None, bytes_eq}
use Rattle.script.specs.Fields.{most_numbers}
use Rattle.script.specs.declared.Shape.{Shape}
use Rattle.script.specs.declared.Verb.{Verb}
use Rattle.script.specs.declared.Verb.TheVariants.{Setup, Add, AddUncanonical, Lookup, Find, Union, Rebuild, Classes, ClassesForOp, Nodes, IdToNode, IsEmpty, Clean, NumberOfClasses, TotalNumberOfNodes, FindBestCost, FindBest}

abbrev pub shape : Verb → ℕ → ℕ → Shape
shape v a e = record { verb = v; least = a; most = e }

-- a row of the table
pub record Entry : Type 0 where
  pub name : List ℕ
  pub is : Shape

abbrev pub entry : List ℕ → Verb → ℕ → ℕ → Entry
entry w v a e = record { name = w; is = shape v a e }

unfoldable pub verbs_table : List Entry
verbs_table =
    entry (codes "setup") Setup 2 2
    ∷ entry (codes "add") Add 2 most_numbers
    ∷ entry (codes "add_uncanonical") AddUncanonical 2 most_numbers
    ∷ entry (codes "lookup") Lookup 2 most_numbers
    ∷ entry (codes "union") Union 2 2
    ∷ entry (codes "rebuild") Rebuild 0 0
    ∷ entry (codes "find") Find 1 1
    ∷ entry (codes "classes") Classes 0 0
    ∷ entry (codes "classes_for_op") ClassesForOp 1 1
    ∷ entry (codes "nodes") Nodes 0 0
    ∷ entry (codes "id_to_node") IdToNode 1 1
    ∷ entry (codes "is_empty") IsEmpty 0 0
    ∷ entry (codes "clean") Clean 0 0
    ∷ entry (codes "number_of_classes") NumberOfClasses 0 0
    ∷ entry (codes "total_number_of_nodes") TotalNumberOfNodes 0 0
    ∷ entry (codes "find_best_cost") FindBestCost 1 1
    ∷ entry (codes "find_best") FindBest 1 1
    ∷ []

-- the first row with this name
abbrev pub chosen : List ℕ → List Entry → Option Shape
chosen w [] = None
chosen w (e ∷ es) = cond (bytes_eq e.name w) (Some e.is) (chosen w es)

unfoldable pub verb_of_word : List ℕ → Option Shape
verb_of_word w = chosen w verbs_table
