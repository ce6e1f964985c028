use Rattle.broken.specs.Words.{is_broken}
use Rattle.rebuilding.specs.Rebuilding.{finish_broken, finish_done}
use Rattle.rebuilding.proofs.finish.Goals as goal

pub returns-in_err-rechild_all-clause-says : goal.returns-in_err-rechild_all-clause-says
returns-in_err-rechild_all-clause-says c = rw (is_broken _ c.from_residual.ensures.0) (finish_broken _ _ _ _ c.rechild_all.ensures.did c.in_err-rechild_all.was)

pub returns-clause-says : goal.returns-clause-says
returns-clause-says c = let a = c.rechild_all.ensures in finish_done _ _ _ _ a.did _ _ (rw a.head at c.tidy.ensures.tidies)
