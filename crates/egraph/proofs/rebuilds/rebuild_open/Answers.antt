use Rattle.std.proofs.Common.{ap}
use Rattle.broken.specs.Words.{error_is}
use Rattle.taking.specs.Drain.{drained}
use Rattle.egraph.specs.Rebuilds.{rebuild_broken, rebuild_done}
use Rattle.egraph.proofs.rebuilds.rebuild_open.Goals as goal

pub returns-in_err-drained-clause-says : goal.returns-in_err-drained-clause-says
returns-in_err-drained-clause-says c = rw (error_is _ _ c.from_residual.ensures.1) (rebuild_broken _ _ c.requires _ _ c.rebuild.ensures.says (ap (drained _) c.in_err-drained.was))

pub returns-clause-says : goal.returns-clause-says
returns-clause-says c = rebuild_done _ _ c.requires _ _ c.rebuild.ensures.says _ (ap (drained _) c.in_ok-drained.was) _ c.note_head.ensures.did
