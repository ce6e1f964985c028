use Rattle.layout.proofs.Lent.{seen_range}
use Rattle.layout.proofs.arrays.scratch.Goals as goal

pub returns : goal.returns
returns c = rw (seen_range _ c.scratch.ensures) c.load.ensures
