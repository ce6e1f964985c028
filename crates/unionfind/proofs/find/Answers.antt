use Rattle.unionfind.specs.Turns.{turn_none, turn_here, turn_out, turn_step}
use Rattle.unionfind.specs.Promise.{finds}
use native.Mathlib.Omega.{arith}
use Rattle.unionfind.proofs.find.Goals as goal

pub returns-then-parent-current : goal.returns-then-parent-current
returns-then-parent-current c = finds _ _ _ _ (omega arith) (search turn_here)

pub returns-then-ids-parent : goal.returns-then-ids-parent
returns-then-ids-parent c = finds _ _ _ _ (omega arith) (search turn_out)

pub loop-followed-preserved : goal.loop-followed-preserved
loop-followed-preserved c = (omega arith, search turn_step)

pub returns : goal.returns
returns c = finds _ _ _ _ (omega arith) (search turn_none)
