use Rattle.std.proofs.Common.{rules}
use Rattle.layout.proofs.Lent.{did_lent}
use Rattle.layout.proofs.arrays.set_owner.Goals as goal

pub returns : goal.returns
returns c = search (rules, did_lent)
