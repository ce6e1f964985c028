use mathlib.Core.Path.{refl}
use native.Mathlib.Omega.{arith}
use Rattle.broken.specs.Words.{is_broken}
use Rattle.layout.specs.Did.{did_as, did_none}
use Rattle.taking.specs.Leave.{vacate_broken, vacate_left}
use Rattle.taking.proofs.keys.vacate.Goals as goal

pub returns-in_err-key : goal.returns-in_err-key
returns-in_err-key c = let s = c.view.ensures in rw (is_broken _ c.from_residual.ensures.0) (did_none (vacate_broken _ _ _ _ (rw (s.0, s.1) at c.key.ensures) c.in_err-key.was))

pub bucket-bucket-requires : goal.bucket-bucket-requires
bucket-bucket-requires c = let ok = c.args.g.now.ok in (omega arith, omega arith)

pub returns-in_err-leave : goal.returns-in_err-leave
returns-in_err-leave c =
    let s = c.view.ensures in
    rw (is_broken _ c.from_residual-in_err-leave.ensures.0)
    (did_as c.leave.ensures (vacate_left _ _ _ _ (rw (s.0, s.1) at c.key.ensures) _ c.in_ok-key.was _ c.bucket-bucket.ensures _ _ _ (λ ne. absurd (ne c.in_err-leave.was)) c.leave.ensures.did))

pub returns : goal.returns
returns c =
    let s = c.view.ensures in
    did_as c.leave.ensures (vacate_left _ _ _ _ (rw (s.0, s.1) at c.key.ensures) _ c.in_ok-key.was _ c.bucket-bucket.ensures _ _ _ (λ _. refl) c.leave.ensures.did)
