use mathlib.Core.Path.{ap}
use Rattle.std.specs.Prelude.{is_ok}
use Rattle.eclass.specs.Checks.{all_more}
use Rattle.eclass.proofs.check.Goals as goal

pub loop-i-preserved : goal.loop-i-preserved
loop-i-preserved c = all_more _ _ _ _ _ c.loop-i.i _ c.loop-i.invariant c.check_class.ensures (ap is_ok c.in_ok-check_class.was)
