use Rattle.std.proofs.Common.{rules}
use Rattle.pricing.specs.Turn.{accept_is}
use Rattle.pricing.proofs.accepts.Goals as goal

pub returns : goal.returns
returns c = accept_is _ _ _ (search rules)
