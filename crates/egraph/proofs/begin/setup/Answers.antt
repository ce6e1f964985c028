use native.Mathlib.Omega.{arith}
use Rattle.broken.specs.Words.{error_is}
use Rattle.egraph.specs.Setup.{limits_bad, limits_good, setup_bad, setup_short, setup_open}
use Rattle.egraph.proofs.begin.setup.Goals as goal

pub returns-in_err-need : goal.returns-in_err-need
returns-in_err-need c =
    let b = limits_bad _ _ _ c.words_for.ensures _ c.ok_or.ensures.value _ c.in_err-need.was in
    rw (error_is _ _ c.from_residual.ensures.1, b.0) (setup_bad _ _ _ b.1)

pub returns-then-ws-need : goal.returns-then-ws-need
returns-then-ws-need c =
    let l = limits_good _ _ _ c.words_for.ensures _ c.ok_or.ensures.value _ c.in_ok-need.was in
    setup_short _ _ _ l.0 (omega (arith, l.1))

pub set_up-requires : goal.set_up-requires
set_up-requires c =
    let l = limits_good _ _ _ c.words_for.ensures _ c.ok_or.ensures.value _ c.in_ok-need.was in
    record { limits = l.0; m_in_bounds = omega (arith, l.1) }

pub returns : goal.returns
returns c =
    let l = limits_good _ _ _ c.words_for.ensures _ c.ok_or.ensures.value _ c.in_ok-need.was in
    setup_open _ _ _ l.0 (omega (arith, l.1)) _ _ c.set_up.ensures
