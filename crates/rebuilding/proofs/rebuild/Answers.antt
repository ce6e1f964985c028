use mathlib.Core.Path.{ap}
use Rattle.broken.specs.Words.{is_broken}
use Rattle.layout.specs.Did.{headed}
use Rattle.rebuilding.specs.Rebuilding.{rebuild_broken, rebuild_done, rebuild_torn}
use Rattle.taking.specs.Drain.{drained}
use Rattle.rebuilding.proofs.rebuild.Goals as goal

pub returns-in_err-counts-clause-says : goal.returns-in_err-counts-clause-says
returns-in_err-counts-clause-says c = rw (is_broken _ c.from_residual.ensures.0) (rebuild_broken _ _ _ _ c.drain.ensures.says (ap (drained _) c.in_err-counts.was))

pub returns-in_err-finish-clause-says : goal.returns-in_err-finish-clause-says
returns-in_err-finish-clause-says c =
    rw (is_broken _ c.from_residual-in_err-finish.ensures.0)
    (rebuild_torn _ _ _ _ c.drain.ensures.says _ (ap (drained _) c.in_ok-counts.was) _ _ c.finish.ensures.says (ap (headed _) c.in_err-finish.was))

pub returns-clause-says : goal.returns-clause-says
returns-clause-says c =
    rebuild_done _ _ _ _ c.drain.ensures.says _ (ap (drained _) c.in_ok-counts.was) _ _ c.finish.ensures.says _ (ap (headed _) c.in_ok-finish.was)
