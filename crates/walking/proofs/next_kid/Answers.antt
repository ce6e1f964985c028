use native.Mathlib.Omega.{arith}
use Rattle.walking.specs.Kids.{next_done}
use Rattle.walking.proofs.next_kid.Goals as goal

pub returns : goal.returns
returns c =
    next_done _ _ _ _ c.requires c.get_entry.ensures c.in_ok-e.e (grind arith) _ c.root_node.ensures _ c.in_ok-key.was _ c.first_unlisted.ensures
