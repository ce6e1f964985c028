use mathlib.Core.Path.{refl}
use Rattle.taking.specs.Enough.{drains_all}
use Rattle.taking.proofs.drains.drain.Goals as goal

pub returns-clause-says : goal.returns-clause-says
returns-clause-says c = drains_all _ _ _ _ _ refl c.drain_within.ensures.says
