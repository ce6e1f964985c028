use Rattle.std.proofs.Common.{refl}
use Rattle.layout.proofs.Lent.{seen_range}
use Rattle.parts.proofs.on_rows.nodes.Goals as goal

pub returns : goal.returns
returns c = rw (seen_range _ c.rows.ensures) (refl, refl, refl)
