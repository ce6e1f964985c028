use mathlib.Core.Path.{ap}
use native.Mathlib.Omega.{arith}
use Rattle.broken.specs.Words.{is_broken}
use Rattle.parts.specs.Bare.{bare_top}
use Rattle.taking.specs.Take.{take_many, take_none, take_one}
use Rattle.taking.proofs.takes.take.Goals as goal

pub returns-then-depth-eq0-clause-says : goal.returns-then-depth-eq0-clause-says
returns-then-depth-eq0-clause-says c = take_none _ _ c.args.g.now.ok c.if-depth-eq0.true

pub returns-in_err-hand-in-TopOne-clause-says : goal.returns-in_err-hand-in-TopOne-clause-says
returns-in_err-hand-in-TopOne-clause-says c =
    let s = c.view.ensures in
    rw (is_broken _ c.from_residual.ensures.0, c.hand.ensures.words)
    (rw c.in_err-hand-in-TopOne.was at (take_one _ _ c.args.g.now.ok (omega arith) _ (rw (s.0, s.1) at c.top.ensures) _ _ (ap bare_top c.in-TopOne.is) c.hand.ensures.hands))

pub returns-in_ok-hand-in-TopOne-clause-says : goal.returns-in_ok-hand-in-TopOne-clause-says
returns-in_ok-hand-in-TopOne-clause-says c =
    let s = c.view.ensures in
    rw c.hand.ensures.words
    (rw c.in_ok-hand-in-TopOne.was at (take_one _ _ c.args.g.now.ok (omega arith) _ (rw (s.0, s.1) at c.top.ensures) _ _ (ap bare_top c.in-TopOne.is) c.hand.ensures.hands))

pub returns-in_err-take_last-in-TopMany-clause-says : goal.returns-in_err-take_last-in-TopMany-clause-says
returns-in_err-take_last-in-TopMany-clause-says c =
    let s = c.view.ensures in
    rw (is_broken _ c.from_residual-in_err-take_last-in-TopMany.ensures.0)
    (rw c.in_err-take_last-in-TopMany.was at (take_many _ _ c.args.g.now.ok (omega arith) _ (rw (s.0, s.1) at c.top.ensures) _ _ _ _ (ap bare_top c.in-TopMany.is) c.take_last.ensures.says))

pub returns-in_ok-take_last-in-TopMany-clause-says : goal.returns-in_ok-take_last-in-TopMany-clause-says
returns-in_ok-take_last-in-TopMany-clause-says c =
    let s = c.view.ensures in
    rw c.in_ok-take_last-in-TopMany.was at (take_many _ _ c.args.g.now.ok (omega arith) _ (rw (s.0, s.1) at c.top.ensures) _ _ _ _ (ap bare_top c.in-TopMany.is) c.take_last.ensures.says)
