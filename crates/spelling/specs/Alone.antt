-- One node in a list of its own, in words (document 01, "The steps": in a lent slice a node is operator, payload, child count, children): it stands
-- at the start of the list and the rest of the list is as it was, or the list is too short for it and left as it was.
-- Assumes nothing.
use Rattle.std.specs.Prelude.{None, Option, Some, List, ◌≡◌, ℕ, ◌<◌, ◌≤◌, drop, length, take}
use Rattle.language.specs.Struct.{node_of}
use Rattle.language.specs.Term.{words}
use Rattle.language.specs.declared.Node.{Node}

pub record SpellsOne (list : List ℕ) (x : Node) (r : Option ℕ) (list' : List ℕ) : Type 0 where
  pub long : length list < length (words (node_of x)) → (r ≡ None) × (list' ≡ list)
  pub fits : length (words (node_of x)) ≤ length list
      → (r ≡ Some (length (words (node_of x)))) × (take (length (words (node_of x))) list' ≡ words (node_of x))
      × (drop (length (words (node_of x))) list' ≡ drop (length (words (node_of x))) list)
