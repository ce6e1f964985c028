use Rattle.std.proofs.Common.{rules}
use Rattle.rows.specs.Promise.{or_leaf}
use Rattle.rows.proofs.Nodes.row_or_leaf.Goals as goal

pub returns : goal.returns
returns c = or_leaf _ _ _ _ _ c.leaf.result c.unwrap_or.result _ c.leaf.ensures c.row.ensures (search rules)
