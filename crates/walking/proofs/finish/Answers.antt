use native.Mathlib.Omega.{arith}
use Rattle.broken.specs.Words.{is_broken}
use Rattle.layout.specs.Did.{did_as, did_none, did_then}
use Rattle.walking.specs.Walk.{walk_broken, walk_done, walking_more, walking_start}
use Rattle.walking.proofs.finish.Goals as goal

pub loop-at-init : goal.loop-at-init
loop-at-init c = (omega arith, omega (arith, c.args.g.now.ok.n_low), did_none (walking_start _ _))

pub step-requires : goal.step-requires
step-requires c = let d = c.loop-at.invariant.2 in rw d.head (c.loop-at.invariant.0, c.loop-at-test.true, c.loop-at.invariant.1)

pub returns-in_err-at : goal.returns-in_err-at
returns-in_err-at c =
    let d = c.loop-at.invariant.2 in
    let step = rw d.head at c.step.ensures.did in
    rw (is_broken _ c.from_residual.ensures.0) (did_then d c.step.ensures (walk_broken _ _ _ _ _ _ d.did _ step c.in_err-at.was))

pub loop-at-smaller : goal.loop-at-smaller
loop-at-smaller c =
    let step = rw c.loop-at.invariant.2.head at c.step.ensures.did in
    let o = step.onward _ c.in_ok-at.was in
    omega (arith, o.0, o.1, o.2)

pub loop-at-preserved : goal.loop-at-preserved
loop-at-preserved c =
    let d = c.loop-at.invariant.2 in
    let step = rw d.head at c.step.ensures.did in
    let o = step.onward _ c.in_ok-at.was in
    (o.0, o.1, did_then d c.step.ensures (walking_more _ _ _ _ _ _ d.did _ step _ c.in_ok-at.was))

pub returns : goal.returns
returns c = let d = c.loop-at.invariant.2 in did_as d (walk_done _ _ _ _ _ c.loop-at.invariant.0 (omega (arith, c.loop-at-test.false)) d.did)
