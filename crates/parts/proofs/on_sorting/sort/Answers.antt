use Rattle.std.specs.Prelude.{refl}
use Rattle.parts.specs.Front.{front}
use Rattle.layout.proofs.Both.{lent_both_range}
use Rattle.parts.proofs.on_sorting.sort.Goals as goal

pub returns : goal.returns
returns c = record { loan = refl; head = refl; did = lent_both_range _ _ c.rows_and_sorting.ensures c.args.g.now.ok.lent c.sort.auto.ws (front _ _ _ _ _ _ c.sort.ensures) c.sort.ensures }
