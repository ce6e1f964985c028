use Rattle.std.proofs.Common.{Ok, ap, ◌∙◌}
use Rattle.broken.specs.Words.{is_broken}
use Rattle.taking.specs.Close.{close_broken, close_new, close_old}
use Rattle.taking.proofs.drains.close.Goals as goal

pub returns-in_err-old-clause-says : goal.returns-in_err-old-clause-says
returns-in_err-old-clause-says c = rw (is_broken _ c.from_residual.ensures.0) (close_broken _ _ _ _ c.args.g.now.ok _ c.rekey.ensures.did c.in_err-old.was)

pub returns-in_default-clause-says : goal.returns-in_default-clause-says
returns-in_default-clause-says c = rw c.rekey.ensures.head (close_new _ _ _ _ c.args.g.now.ok _ c.rekey.ensures.did (c.in_ok-old.was ∙ ap Ok c.in_default.is))

pub returns-clause-says : goal.returns-clause-says
returns-clause-says c = close_old _ _ _ _ c.args.g.now.ok _ c.rekey.ensures.did _ (c.in_ok-old.was ∙ ap Ok c.in-Some.is) _ _ (rw c.rekey.ensures.head at c.unite.ensures.says)
