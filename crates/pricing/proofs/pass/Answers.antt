use native.Mathlib.Omega.{arith}
use Rattle.broken.specs.Words.{is_broken}
use Rattle.layout.specs.Did.{did_as, did_none, did_then}
use Rattle.pricing.specs.Pass.{pass_broken, pass_done, passing_more, passing_start}
use Rattle.pricing.proofs.pass.Goals as goal

pub loop-r-init : goal.loop-r-init
loop-r-init c = did_none (passing_start _ _)

pub returns-in_err-taken : goal.returns-in_err-taken
returns-in_err-taken c =
    let d = c.loop-r.invariant in
    let turn = rw d.head at c.turn.ensures.did in
    rw (is_broken _ c.from_residual.ensures.0) (did_then d c.turn.ensures (pass_broken _ _ _ _ _ _ d.did _ turn c.in_err-taken.was))

pub loop-r-preserved : goal.loop-r-preserved
loop-r-preserved c =
    let d = c.loop-r.invariant in
    let turn = rw d.head at c.turn.ensures.did in
    did_then d c.turn.ensures (passing_more _ _ _ _ _ _ d.did _ turn _ c.in_ok-taken.was)

pub returns : goal.returns
returns c = let d = c.loop-r.invariant in did_as d (pass_done _ _ _ _ _ (omega arith) d.did)
