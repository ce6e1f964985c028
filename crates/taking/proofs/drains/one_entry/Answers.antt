use Rattle.std.proofs.Common.{Ok, ap, ◌∙◌}
use Rattle.broken.specs.Words.{is_broken}
use Rattle.uniting.specs.Says.{united}
use Rattle.taking.specs.Take.{taken}
use Rattle.taking.specs.Entry.{entry_broken, entry_done, entry_none, entry_torn}
use Rattle.taking.proofs.drains.one_entry.Goals as goal

pub returns-in_err-id-clause-says : goal.returns-in_err-id-clause-says
returns-in_err-id-clause-says c = rw (is_broken _ c.from_residual.ensures.0) (entry_broken _ _ _ _ c.take.ensures.says (ap (taken _) c.in_err-id.was))

pub returns-in_default-clause-says : goal.returns-in_default-clause-says
returns-in_default-clause-says c = entry_none _ _ _ _ c.take.ensures.says (ap (taken _) (c.in_ok-id.was ∙ ap Ok c.in_default.is))

pub returns-in_err-close-clause-says : goal.returns-in_err-close-clause-says
returns-in_err-close-clause-says c =
    rw (is_broken _ c.from_residual-in_err-close.ensures.0)
    (entry_torn _ _ _ _ c.take.ensures.says _ (ap (taken _) (c.in_ok-id.was ∙ ap Ok c.in-Some.is)) _ _ c.close.ensures.says (ap (united _) c.in_err-close.was))

pub returns-clause-says : goal.returns-clause-says
returns-clause-says c = entry_done _ _ _ _ c.take.ensures.says _ (ap (taken _) (c.in_ok-id.was ∙ ap Ok c.in-Some.is)) _ _ c.close.ensures.says _ (ap (united _) c.in_ok-close.was)
