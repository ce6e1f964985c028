use Rattle.std.proofs.Common.{Ok, ap, ◌∙◌}
use Rattle.broken.specs.Words.{error_is}
use Rattle.adding.specs.Says.{given}
use Rattle.egraph.specs.Adds.{added_new, added_none, added_old, adding_new, adding_old, adding_refused, uncanonical_new, uncanonical_old}
use Rattle.egraph.proofs.adds.uncanonical_open.Goals as goal

pub returns-in_err-id-clause-says : goal.returns-in_err-id-clause-says
returns-in_err-id-clause-says c = rw (error_is _ _ c.from_residual.ensures.1) (adding_refused _ _ _ c.requires.head_is _ _ _ c.give.ensures.gives _ (ap (given _) c.in_err-id.was))

pub returns-in-Old-clause-says : goal.returns-in-Old-clause-says
returns-in-Old-clause-says c = adding_old _ _ _ c.requires.head_is _ _ _ c.give.ensures.gives _ _ (ap (given _) (c.in_ok-id.was ∙ ap Ok c.in-Old.is)) _ (λ g H e. uncanonical_old g _ _ e)

pub returns-in-New-clause-says : goal.returns-in-New-clause-says
returns-in-New-clause-says c = adding_new _ _ _ c.requires.head_is _ _ _ c.give.ensures.gives _ _ (ap (given _) (c.in_ok-id.was ∙ ap Ok c.in-New.is)) _ c.note_head.ensures.did (λ g H e. uncanonical_new g _ e)

pub returns-in_err-id-clause-inside : goal.returns-in_err-id-clause-inside
returns-in_err-id-clause-inside c = rw (error_is _ _ c.from_residual.ensures.1) (added_none _ _ _)

pub returns-in-Old-clause-inside : goal.returns-in-Old-clause-inside
returns-in-Old-clause-inside c = added_old _ _ c.requires.head_is _ _ _ c.give.ensures.gives _ _ (ap (given _) (c.in_ok-id.was ∙ ap Ok c.in-Old.is))

pub returns-in-New-clause-inside : goal.returns-in-New-clause-inside
returns-in-New-clause-inside c = rw c.note_head.ensures.head (added_new _ _ c.requires.head_is _ _ _ c.give.ensures.gives _ _ (ap (given _) (c.in_ok-id.was ∙ ap Ok c.in-New.is)) _ c.note_head.ensures.did)
