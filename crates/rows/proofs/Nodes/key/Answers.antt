use Rattle.rows.specs.Promise.{key_found}
use Rattle.rows.proofs.Nodes.key.Goals as goal

pub returns : goal.returns
returns c = key_found _ _ _ _ _ (rw c.key_base.ensures at c.row.ensures)
