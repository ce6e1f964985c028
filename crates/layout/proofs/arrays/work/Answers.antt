use Rattle.layout.proofs.Lent.{seen_range}
use Rattle.layout.proofs.arrays.work.Goals as goal

pub returns : goal.returns
returns c = rw (seen_range _ c.sorting.ensures) c.load.ensures
