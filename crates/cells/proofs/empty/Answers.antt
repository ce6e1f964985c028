use Rattle.cells.specs.Empty.{emptied}
use Rattle.cells.proofs.empty.Goals as goal

pub returns : goal.returns
returns c = emptied _ _ _ c.requires.0 c.requires.1
