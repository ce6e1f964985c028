use mathlib.Core.Path.{ap}
use Rattle.std.specs.Prelude.{is_ok}
use Prim.Native.Nat.{◌-◌}
use native.Mathlib.Omega.{arith}
use Rattle.broken.specs.Words.{error_is}
use Rattle.eclass.specs.Checks.{check_end, check_more, check_stop}
use Rattle.eclass.specs.ClassWalk.{back_none, back_step}
use Rattle.eclass.proofs.check_class.Goals as goal

pub returns-in_err-check_id : goal.returns-in_err-check_id
returns-in_err-check_id c = rw (error_is _ _ c.from_residual.ensures.1) (check_stop _ _ _ _ _ _ _ _ _ (back_step _ _ _ (c.len-size.result - c.loop-passed.passed - 1) _ (omega arith)) _ c.check_id.ensures c.loop-passed.invariant (ap is_ok c.in_err-check_id.was))

pub loop-passed-preserved : goal.loop-passed-preserved
loop-passed-preserved c = check_more _ _ _ _ _ _ _ _ _ (rw c.link-id.ensures.exact (back_step _ _ _ _ _ (omega arith))) _ c.check_id.ensures c.loop-passed.invariant (ap is_ok c.in_ok-check_id.was)

pub returns : goal.returns
returns c = check_end _ _ _ _ _ _ _ (back_none _ _ _ _ (omega arith)) c.loop-passed.invariant
