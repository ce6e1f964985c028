use Rattle.std.proofs.Common.{Ok, ap, ◌∙◌}
use native.Mathlib.Omega.{arith}
use Rattle.broken.specs.Words.{is_broken}
use Rattle.adding.specs.Asking.{probe_far, probe_lost, probe_none, probe_seen}
use Rattle.adding.proofs.probe.Goals as goal

pub returns-in_err-key : goal.returns-in_err-key
returns-in_err-key c = rw (is_broken _ c.from_residual.ensures.0) (probe_lost _ _ _ _ c.with_roots.ensures c.in_err-key.was)

pub returns-in-Some : goal.returns-in-Some
returns-in-Some c = probe_far _ _ _ _ c.with_roots.ensures _ c.in_ok-key.was _ c.ask.ensures _ (c.in_ok-seen.was ∙ ap Ok c.in-Some.is) (omega arith)

pub returns-in_default : goal.returns-in_default
returns-in_default c = probe_seen _ _ _ _ c.with_roots.ensures _ c.in_ok-key.was _ c.ask.ensures _ (c.in_ok-seen.was ∙ ap Ok c.in-Some.is) (omega arith)

pub returns-in_default-2 : goal.returns-in_default-2
returns-in_default-2 c = probe_none _ _ _ _ c.with_roots.ensures _ c.in_ok-key.was _ c.ask.ensures _ c.in_ok-seen.was c.in_default.is
