use Rattle.table.specs.Entering.{entered}
use Rattle.table.proofs.enter.Goals as goal

pub returns : goal.returns
returns c = entered _ _ _ _ _ _ c.requires.bucket_lt_n.0 c.push.ensures
