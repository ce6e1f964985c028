use mathlib.Core.Path.{◌∙◌}
use native.Mathlib.Omega.{arith}
use Rattle.language.specs.Children.{over_more}
use Rattle.language.proofs.Node.over.Goals as goal

pub loop-kid-preserved : goal.loop-kid-preserved
loop-kid-preserved c = (
  omega (arith, c.with-node.ensures.0),
  c.with-node.ensures.1 ∙ over_more c.args.op.0 c.args.payload c.args.kids.now c.loop-kid.kid-index _ c.loop-kid-test.true c.loop-kid.invariant.1,
)
