use Rattle.broken.specs.Words.{is_broken}
use Rattle.table.specs.Seeking.{compare_broken, compared}
use Rattle.table.proofs.compare.Goals as goal

pub returns : goal.returns
returns c = compared _ _ _ _ _ _ (rw (c.key.ensures.found _ c.in_ok-row.was).1 at c.same.ensures)

pub returns-in_err-row : goal.returns-in_err-row
returns-in_err-row c = rw (is_broken _ c.from_residual.ensures.0) (compare_broken _ _ _ _ _ (c.key.ensures.broken c.in_err-row.was))
