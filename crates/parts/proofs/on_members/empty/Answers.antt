use Rattle.std.proofs.Common.{rules}
use Rattle.layout.proofs.Lent.{did_lent}
use Rattle.parts.proofs.on_members.empty.Goals as goal

pub returns : goal.returns
returns c = search (rules, did_lent)
