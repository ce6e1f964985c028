use native.Mathlib.Omega.{arith}
use Rattle.std.proofs.Common.{Ok, ap, ◌∙◌}
use Rattle.broken.specs.Words.{is_broken}
use Rattle.layout.specs.Did.{did_as, did_none}
use Rattle.taking.specs.Leave.{oust_absent, oust_broken, oust_done, oust_none, oust_torn, oust_unknown}
use Rattle.taking.proofs.keys.oust.Goals as goal

pub returns-in_err-old : goal.returns-in_err-old
returns-in_err-old c = let s = c.view.ensures in rw (is_broken _ c.from_residual.ensures.0) (did_none (oust_broken _ _ _ _ (rw (s.0, s.1) at c.ask.ensures) c.in_err-old.was))

pub returns-in_default : goal.returns-in_default
returns-in_default c = let s = c.view.ensures in did_none (oust_none _ _ _ _ (rw (s.0, s.1) at c.ask.ensures) (c.in_ok-old.was ∙ ap Ok c.in_default.is))

pub returns-then-g-old : goal.returns-then-g-old
returns-then-g-old c = let s = c.view.ensures in did_none (oust_unknown _ _ _ _ (rw (s.0, s.1) at c.ask.ensures) _ (c.in_ok-old.was ∙ ap Ok c.in-Some.is) c.if-g-old.true)

pub returns-in_err-leave : goal.returns-in_err-leave
returns-in_err-leave c =
    let s = c.view.ensures in
    rw (is_broken _ c.from_residual-in_err-leave.ensures.0)
    (did_as c.leave.ensures (oust_torn _ _ _ _ (rw (s.0, s.1) at c.ask.ensures) _ (c.in_ok-old.was ∙ ap Ok c.in-Some.is) _ c.bucket-bucket.ensures _ _ c.leave.ensures.did c.in_err-leave.was))

pub returns-then-not-branch : goal.returns-then-not-branch
returns-then-not-branch c =
    let s = c.view.ensures in
    did_as c.leave.ensures (oust_absent _ _ _ _ (rw (s.0, s.1) at c.ask.ensures) _ (c.in_ok-old.was ∙ ap Ok c.in-Some.is) _ c.bucket-bucket.ensures _ _ c.leave.ensures.did (c.in_ok-leave.was ∙ ap Ok c.if-not-branch.true))

pub returns : goal.returns
returns c =
    let s = c.view.ensures in
    did_as c.leave.ensures (oust_done _ _ _ _ (rw (s.0, s.1) at c.ask.ensures) _ (c.in_ok-old.was ∙ ap Ok c.in-Some.is) _ c.bucket-bucket.ensures _ _ c.leave.ensures.did (omega (arith, c.if-g-old.false)))
