use Rattle.layout.proofs.Lent.{seen_range}
use Rattle.parts.proofs.on_table.ask.Goals as goal

pub returns : goal.returns
returns c = rw (seen_range _ c.table.ensures) (rw (c.nodes.ensures.0, c.nodes.ensures.1, c.nodes.ensures.2) at c.ask.ensures)
