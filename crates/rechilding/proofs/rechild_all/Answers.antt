use native.Mathlib.Omega.{arith}
use Rattle.broken.specs.Words.{is_broken}
use Rattle.layout.specs.Did.{did_as, did_none, did_then}
use Rattle.rechilding.specs.All.{rechilded_all, rechilded_broken, rechilded_more, rechilded_none}
use Rattle.rechilding.proofs.rechild_all.Goals as goal

pub loop-i-init : goal.loop-i-init
loop-i-init c = did_none (rechilded_none _ _)

pub returns-in_err-rechild : goal.returns-in_err-rechild
returns-in_err-rechild c =
    let d = c.loop-i.invariant in
    let one = rw d.head at c.rechild.ensures.did in
    rw (is_broken _ c.from_residual.ensures.0) (did_then d c.rechild.ensures (rechilded_broken _ _ _ _ _ _ d.did one c.loop-i-test.true c.in_err-rechild.was))

pub loop-i-preserved : goal.loop-i-preserved
loop-i-preserved c =
    let d = c.loop-i.invariant in
    let one = rw d.head at c.rechild.ensures.did in
    did_then d c.rechild.ensures (rechilded_more _ _ _ _ _ _ d.did one c.loop-i-test.true)

pub returns : goal.returns
returns c = let d = c.loop-i.invariant in did_as d (rechilded_all _ _ _ _ (omega arith) d.did)
