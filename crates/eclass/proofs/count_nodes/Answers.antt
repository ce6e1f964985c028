use native.Mathlib.Omega.{arith}
use Rattle.layout.specs.Seen.{seen}
use Rattle.eclass.specs.ClassCount.{total_none, total_more}
use Rattle.eclass.specs.Checks.{total_stop}
use Rattle.eclass.proofs.count_nodes.Goals as goal

pub loop-i-init : goal.loop-i-init
loop-i-init c = (omega arith, total_none _ _)

pub returns-then-g-total : goal.returns-then-g-total
returns-then-g-total c = total_stop _ _ _ c.loop-i.i c.loop-i.total _ (omega arith) c.loop-i.invariant.1 c.len-k.ensures.exact (omega arith) (omega arith)

pub loop-i-preserved : goal.loop-i-preserved
loop-i-preserved c = (omega arith, omega (arith, c.loop-i.invariant.1, c.len-k.ensures.exact, total_more (seen c.args.g.now).members c.args.g.now.h.n c.loop-i.i))
