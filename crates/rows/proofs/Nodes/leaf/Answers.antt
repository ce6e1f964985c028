use Rattle.rows.specs.Read.{leaf_at}
use Rattle.rows.proofs.Nodes.leaf.Goals as goal

pub returns : goal.returns
unfolding leaf_at
returns c = rw c.leaf-node.ensures.1
