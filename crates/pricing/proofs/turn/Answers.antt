use Rattle.std.specs.Prelude.{Ok, ◌<◌}
use Rattle.std.proofs.Common.{ap, ◌∙◌, arith}
use Rattle.broken.specs.Words.{is_broken}
use Rattle.layout.specs.Did.{did_as, did_none}
use Rattle.pricing.specs.Turn.{turn_broken, turn_kept, turn_none, turn_taken}
use Rattle.pricing.proofs.turn.Goals as goal

pub returns-in_err-best : goal.returns-in_err-best
returns-in_err-best c =
    let best = rw (c.view-seen.ensures.0, c.view-seen.ensures.1) at c.class_best.ensures in
    rw (is_broken _ c.from_residual.ensures.0) (did_none (turn_broken _ _ _ _ best c.in_err-best.was))

pub returns-in_default : goal.returns-in_default
returns-in_default c =
    let best = rw (c.view-seen.ensures.0, c.view-seen.ensures.1) at c.class_best.ensures in
    did_none (turn_none _ _ _ _ best (c.in_ok-best.was ∙ ap Ok c.in_default.is))

pub set_entry-requires : goal.set_entry-requires
set_entry-requires c =
    let best = rw (c.view-seen.ensures.0, c.view-seen.ensures.1) at c.class_best.ensures in
    let l : c.in-Some.best.id.0 < c.args.g.now.h.n = rw c.in-Some.is at (best.low _ c.in_ok-best.was) in
    (c.requires, omega (arith, l, c.args.g.now.ok.n_high))

pub returns-then-accepts : goal.returns-then-accepts
returns-then-accepts c =
    let best = rw (c.view-seen.ensures.0, c.view-seen.ensures.1) at c.class_best.ensures in
    let old = rw (c.view-seen.ensures.0, c.view-seen.ensures.1) at c.get_entry-old.ensures in
    did_as c.set_entry.ensures
    (turn_taken _ _ _ _ best _ _ (c.in_ok-best.was ∙ ap Ok c.in-Some.is) c.requires old _ c.accepts.ensures
    _ c.args.g.now.ok.lent c.if-accepts.true c.set_entry.ensures.did)

pub returns : goal.returns
returns c =
    let best = rw (c.view-seen.ensures.0, c.view-seen.ensures.1) at c.class_best.ensures in
    let old = rw (c.view-seen.ensures.0, c.view-seen.ensures.1) at c.get_entry-old.ensures in
    did_none (turn_kept _ _ _ _ best _ _ (c.in_ok-best.was ∙ ap Ok c.in-Some.is) c.requires old _ c.accepts.ensures c.if-accepts.false)
