use Rattle.rows.specs.Promise.{given_found}
use Rattle.rows.proofs.Nodes.given.Goals as goal

pub returns : goal.returns
returns c = given_found _ _ _ _ _ (rw c.given_base.ensures at c.row.ensures)
