-- What a graph's class lists say, as document 01 has it ("The steps", the last two paragraphs): classes in ascending root id, and of each its nodes,
-- re-childed with roots, sorted, duplicates dropped. They are read only when the graph is clean, and then a function of nodes and roots: no step keeps them.
-- Assumes nothing.
use mathlib.Core.List.{List, ◌∷◌, map, filter, flat_map}
use Rattle.std.specs.Prelude.{ℕ, length}
use Rattle.std.proofs.Math.Decide.{ℕ_discrete}
use Rattle.lists.specs.Keeps.{upto, any}
use Rattle.lists.specs.Sums.{sum_of}
use Rattle.language.specs.Term.{Term, spell}
use Rattle.language.specs.Sorted.{sorted}
use Rattle.steps.specs.Graph.{Graph, ids, root, key_of}

-- the ids with root r, ascending
abbrev pub members : Graph → ℕ → List ℕ
members g r = filter (λ (i : ℕ). ℕ_discrete (root g.roots i) r) (upto (ids g))

-- the nodes of the class of root r
abbrev pub class_nodes : Graph → ℕ → List Term
class_nodes g r = sorted (map (key_of g) (members g r))

-- the roots, ascending
abbrev pub class_roots : Graph → List ℕ
class_roots g = filter (λ (i : ℕ). ℕ_discrete (root g.roots i) i) (upto (ids g))

-- `number_of_classes`
abbrev pub number_of_classes : Graph → ℕ
number_of_classes g = length (class_roots g)

-- `total_number_of_nodes`
abbrev pub total_number_of_nodes : Graph → ℕ
total_number_of_nodes g = sum_of (λ (r : ℕ). length (class_nodes g r)) (class_roots g)

-- `classes`, in words: for each class its root, its number of nodes and these nodes
abbrev pub class_words : Graph → ℕ → List ℕ
class_words g r = r ∷ length (class_nodes g r) ∷ spell (class_nodes g r)

abbrev pub classes : Graph → List ℕ
classes g = flat_map (class_words g) (class_roots g)

-- `classes_for_op`: the roots of the classes that have a node with operator o
abbrev pub classes_for_op : Graph → ℕ → List ℕ
classes_for_op g o = filter (λ (r : ℕ). any (λ (x : Term). ℕ_discrete x.op o) (class_nodes g r)) (class_roots g)

-- `nodes`, in words: the stored nodes in id order
abbrev pub nodes : Graph → List ℕ
nodes g = spell g.nodes
