use mathlib.Core.Path.{◌∙◌, sym}
use native.Mathlib.Omega.{arith}
use Rattle.language.specs.Mapped.{mapped_all}
use Rattle.language.specs.Children.{kid_is, many_kids}
use Rattle.language.specs.Fitting.{term}
use Rattle.language.specs.Partway.{partway_more}
use Rattle.language.proofs.fit.Fit.try_map.Goals as goal

pub loop-i-preserved : goal.loop-i-preserved
loop-i-preserved g c = (
  c.with_child-node.ensures.0 ∙ c.loop-i.invariant.0,
  partway_more _ _ _ _ c.loop-i.invariant.1 c.in_ok-f.field-0.0 _ (omega (arith, c.args.self.many, many_kids (term c.args.self) _ c.children-c-items.ensures)) (rw (← kid_is (term c.args.self) _ c.children-c-items.ensures c.loop-i.i) c.in_ok-f.ensures) c.with_child-node.ensures.1,
)

pub invariant_of-result-clause-many : goal.invariant_of-result-clause-many
invariant_of-result-clause-many g c = c.loop-i.invariant.1.size ∙ c.args.self.many ∙ sym c.loop-i.invariant.0

pub returns : goal.returns
returns g c = mapped_all _ c.args.self _ c.loop-i.i c.loop-i.invariant.0 (omega (arith, c.args.self.many, many_kids (term c.args.self) _ c.children-c-items.ensures)) c.loop-i.invariant.1
