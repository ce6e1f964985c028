use Rattle.table.specs.Asking.{answers}
use Rattle.table.proofs.ask.Goals as goal

pub returns : goal.returns
returns c = answers _ _ _ _ _ _ _ c.bucket-b.ensures.exact c.seek.ensures
