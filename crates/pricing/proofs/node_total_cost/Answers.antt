use native.Mathlib.Omega.{arith}
use Rattle.price.specs.Size.{cap}
use Rattle.pricing.specs.Node.{adding_start, adding_more, cost_none, cost_stray, cost_all}
use Rattle.pricing.proofs.node_total_cost.Goals as goal

pub loop-kid-init : goal.loop-kid-init
loop-kid-init c = adding_start _ _ _ _

pub returns-then-g-kid : goal.returns-then-g-kid
returns-then-g-kid c = cost_stray _ _ _ _ _ c.children-kid-items.ensures _ c.loop-kid-test.true c.if-g-kid.true

pub returns-in_default : goal.returns-in_default
returns-in_default c =
    cost_none _ _ _ _ _ c.children-kid-items.ensures _ c.loop-kid-test.true _ c.loop-kid.invariant c.if-g-kid.false c.args.g.now.ok.ids_in
    _ c.get_entry.ensures c.in_default.is

pub loop-kid-preserved : goal.loop-kid-preserved
unfolding cap
loop-kid-preserved c =
    adding_more _ _ _ _ _ c.children-kid-items.ensures _ c.loop-kid-test.true _ c.loop-kid.invariant c.if-g-kid.false c.args.g.now.ok.ids_in
    _ c.get_entry.ensures _ c.in-Some.is _ c.saturating_add-sum.ensures

pub returns : goal.returns
returns c = cost_all _ _ _ _ _ c.children-kid-items.ensures _ _ (omega (arith, c.loop-kid-test.false)) c.loop-kid.invariant
