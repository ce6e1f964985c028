use mathlib.Core.Path.{◌∙◌, ap}
use native.Mathlib.Omega.{arith}
use Rattle.std.specs.Prelude.{Ok}
use Rattle.broken.specs.Words.{is_broken}
use Rattle.layout.specs.Did.{did_as, did_none}
use Rattle.walking.specs.Step.{step_broken, step_crowded, step_full, step_list, step_push, step_stray}
use Rattle.walking.proofs.step.Goals as goal

pub returns-then-ids-c : goal.returns-then-ids-c
returns-then-ids-c c =
    let top = rw (c.view-seen.ensures.0, c.view-seen.ensures.1) at c.scratch-c.ensures in
    did_none (step_stray _ _ _ _ c.args.g.now.ok c.requires _ top c.if-ids-c.true)

pub returns-in_err-kid : goal.returns-in_err-kid
returns-in_err-kid c =
    let top = rw (c.view-seen.ensures.0, c.view-seen.ensures.1) at c.scratch-c.ensures in
    let kid = rw (c.view-seen.ensures.0, c.view-seen.ensures.1) at c.next_kid.ensures in
    let lost = step_broken _ _ _ _ c.args.g.now.ok c.requires _ top (omega (arith, c.if-ids-c.false)) _ kid c.in_err-kid.was in
    rw (is_broken _ c.from_residual.ensures.0) (did_none lost)

pub returns-then-depth-n : goal.returns-then-depth-n
returns-then-depth-n c =
    let top = rw (c.view-seen.ensures.0, c.view-seen.ensures.1) at c.scratch-c.ensures in
    let kid = rw (c.view-seen.ensures.0, c.view-seen.ensures.1) at c.next_kid.ensures in
    let next = c.in_ok-kid.was ∙ ap Ok c.in-Some.is in
    did_none (step_full _ _ _ _ c.args.g.now.ok c.requires _ top (omega (arith, c.if-ids-c.false)) _ kid _ next c.if-depth-n.true)

pub returns-else-depth-n : goal.returns-else-depth-n
returns-else-depth-n c =
    let top = rw (c.view-seen.ensures.0, c.view-seen.ensures.1) at c.scratch-c.ensures in
    let kid = rw (c.view-seen.ensures.0, c.view-seen.ensures.1) at c.next_kid.ensures in
    let next = c.in_ok-kid.was ∙ ap Ok c.in-Some.is in
    did_as c.set_scratch.ensures
    (step_push _ _ _ _ c.args.g.now.ok c.requires _ top (omega (arith, c.if-ids-c.false)) _ kid _ next _ c.if-depth-n.false c.set_scratch.ensures.did)

pub returns-then-listed-n : goal.returns-then-listed-n
returns-then-listed-n c =
    let top = rw (c.view-seen.ensures.0, c.view-seen.ensures.1) at c.scratch-c.ensures in
    let kid = rw (c.view-seen.ensures.0, c.view-seen.ensures.1) at c.next_kid.ensures in
    let none = c.in_ok-kid.was ∙ ap Ok c.in-None.is in
    did_none (step_crowded _ _ _ _ c.args.g.now.ok c.requires _ top (omega (arith, c.if-ids-c.false)) _ kid none c.if-listed-n.true)

pub returns-else-listed-n : goal.returns-else-listed-n
returns-else-listed-n c =
    let top = rw (c.view-seen.ensures.0, c.view-seen.ensures.1) at c.scratch-c.ensures in
    let kid = rw (c.view-seen.ensures.0, c.view-seen.ensures.1) at c.next_kid.ensures in
    let none = c.in_ok-kid.was ∙ ap Ok c.in-None.is in
    did_as c.list_class.ensures
    (step_list _ _ _ _ c.args.g.now.ok c.requires _ top (omega (arith, c.if-ids-c.false)) _ kid none _ c.if-listed-n.false c.list_class.ensures.did)
