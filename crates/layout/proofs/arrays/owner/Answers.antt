use Rattle.layout.proofs.Lent.{seen_range}
use Rattle.layout.proofs.arrays.owner.Goals as goal

pub returns : goal.returns
returns c = rw (seen_range _ c.owners.ensures) c.load.ensures
