use Prim.Native.Nat.{◌-◌}
use mathlib.Core.Path.{◌∙◌, ap, sym}
use lib.ListN.{length}
use native.Mathlib.Omega.{arith}
use Rattle.egraph.specs.ClassReads.{going_next, going_none, going_stray, walked}
use Rattle.egraph.proofs.class_reads.ClassNodesIterator.next.Goals as goal

pub returns-then-self-eq0-clause-steps : goal.returns-then-self-eq0-clause-steps
returns-then-self-eq0-clause-steps c = let e = sym c.self.view_is ∙ going_none c.self.inside.g.h _ _ _ c.if-self-eq0.true in (e, e)

pub returns-then-self-id-clause-steps : goal.returns-then-self-id-clause-steps
unfolding walked
returns-then-self-id-clause-steps c = sym c.self.view_is ∙ going_stray c.self.inside.g.h _ _ _ c.if-self-eq0.false c.if-self-id.true

pub returns-then-self-id-clause-goes : goal.returns-then-self-id-clause-goes
unfolding walked
returns-then-self-id-clause-goes c =
    record { on = λ _. (tt, tt, omega (arith, ap length (returns-then-self-id-clause-steps c))); keeps = tt; rests = λ _. tt }

pub returns-clause-steps : goal.returns-clause-steps
returns-clause-steps c =
    sym c.self.view_is ∙ going_next c.self.inside.g.h _ _ _ (c.self.inside.left - 1) (omega arith) (omega (arith, c.if-self-id.false)) _ c.link-self-inside.ensures.exact

pub returns-clause-goes : goal.returns-clause-goes
returns-clause-goes c = record { on = λ _. (tt, tt, omega (arith, ap length (returns-clause-steps c))); keeps = tt; rests = λ _. tt }
