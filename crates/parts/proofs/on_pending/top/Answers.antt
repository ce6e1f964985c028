use Rattle.layout.proofs.Lent.{seen_range}
use Rattle.parts.proofs.on_pending.top.Goals as goal

pub returns-in-TopOne : goal.returns-in-TopOne
returns-in-TopOne c = rw (seen_range _ c.pending.ensures) (rw c.in-TopOne.is at c.top.ensures)

pub returns-in-TopMany : goal.returns-in-TopMany
returns-in-TopMany c = rw (seen_range _ c.pending.ensures) (rw c.in-TopMany.is at c.top.ensures)
