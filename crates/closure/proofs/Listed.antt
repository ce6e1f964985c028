-- The nodes of a class: no other list is so. It stands here, not in specs/, so that an edit of `NodeOf` is refused by what says which nodes a class has.
-- Assumes nothing.
use Rattle.std.specs.Prelude.{List, ◌≡◌, ℕ}
use Rattle.lists.specs.Members.{Mem}
use Rattle.lists.specs.Sorted.{Ascending, one_list}
use Rattle.language.specs.Ordered.{Before, before_self, order_trans}
use Rattle.language.specs.Term.{Term}
use Rattle.steps.specs.Classes.{class_nodes}
use Rattle.steps.specs.Graph.{Graph}
use Rattle.closure.specs.Listed.{NodeOf, nodes_ascending, nodes_from, nodes_has}

module _ (g : Graph) where
  -- any list that is ascending and has just these nodes is the list
  pub nodes_one : (r : ℕ) (l : List Term) → Ascending Before l → ((x : Term) → Mem x l → NodeOf g r x) → ((x : Term) → NodeOf g r x → Mem x l) → l ≡ class_nodes g r
  nodes_one r l a from has = one_list Before order_trans before_self a (nodes_ascending g r) (λ x m. nodes_has g r x (from x m)) (λ x m. has x (nodes_from g r x m))
