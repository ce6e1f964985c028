use native.Mathlib.Omega.{arith}
use Rattle.std.proofs.Common.{Ok, ap, ◌∙◌, refl, ◌≡◌, ◌+◌, ◌-◌}
use Rattle.broken.specs.Words.{is_broken}
use Rattle.taking.specs.Entry.{closed}
use Rattle.taking.specs.Drain.{drain_broken, drain_done, drain_spent, going_on, going_start}
use Rattle.taking.proofs.drains.drain_within.Goals as goal

pub loop-taken-init : goal.loop-taken-init
loop-taken-init c = let all : c.args.fuel - 0 ≡ c.args.fuel = omega arith in (refl, rw all (going_start _ _ _ c.args.g.now.ok))

pub returns-in_err-joined-clause-says : goal.returns-in_err-joined-clause-says
returns-in_err-joined-clause-says c =
    rw (is_broken _ c.from_residual.ensures.0) (drain_broken _ _ _ _ _ _ _ _ c.loop-taken.invariant.1 _ _ c.one_entry.ensures.says (ap (closed _) c.in_err-joined.was))

pub returns-in_default-clause-says : goal.returns-in_default-clause-says
returns-in_default-clause-says c =
    let none = c.in_ok-joined.was ∙ ap Ok c.in_default.is in
    rw (c.one_entry.ensures.stays none) (drain_done _ _ _ _ _ _ _ _ c.loop-taken.invariant.1 _ _ c.one_entry.ensures.says (ap (closed _) none))

pub loop-taken-preserved : goal.loop-taken-preserved
loop-taken-preserved c =
    let left : c.args.fuel - (c.loop-taken.taken + 1) ≡ c.args.fuel - c.loop-taken.taken - 1 = omega arith in (
      c.one_entry.ensures.loan ∙ c.loop-taken.invariant.0,
      rw (left, c.from-yes.ensures) (going_on _ _ _ _ _ _ _ _ c.loop-taken.invariant.1 _ _ c.one_entry.ensures.says _ (ap (closed _) (c.in_ok-joined.was ∙ ap Ok c.in-Some.is)) (omega arith)),
    )

pub returns-clause-says : goal.returns-clause-says
returns-clause-says c = drain_spent _ _ _ _ _ _ _ _ c.loop-taken.invariant.1 (omega arith)
