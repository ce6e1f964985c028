use Rattle.table.specs.Leaving.{departed}
use Rattle.table.proofs.leave.Goals as goal

pub returns : goal.returns
returns c = departed _ _ _ _ _ _ c.requires.bucket_lt_n.0 c.remove.ensures
