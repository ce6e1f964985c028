use Rattle.forming.specs.FormNode.{node_placed}
use Rattle.forming.proofs.form_node.Goals as goal

pub returns : goal.returns
returns c = node_placed _ _ _ _ c.chosen.ensures _ c.in_ok-id.was _ c.root_node.ensures _ c.in_ok-key.was _ c.with_places.ensures
