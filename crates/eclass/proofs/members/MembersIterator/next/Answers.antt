use mathlib.Core.Path.{◌∙◌, ap, sym}
use lib.ListN.{length}
use native.Mathlib.Omega.{arith}
use Rattle.eclass.specs.Going.{going_fewer, going_low, going_next, going_none, going_step}
use Rattle.eclass.proofs.members.MembersIterator.next.Goals as goal

pub returns-then-self-eq0-clause-steps : goal.returns-then-self-eq0-clause-steps
returns-then-self-eq0-clause-steps c = let e = sym c.self.view_is ∙ going_none c.self.inside.g.h c.self.inside.g.ws.now _ c.self.inside.id.0 c.if-self-eq0.true in (e, e)

pub link-self-inside-requires : goal.link-self-inside-requires
link-self-inside-requires c = going_low _ _ _ _ c.self.invariant (omega arith)

pub invariant_of-self : goal.invariant_of-self
invariant_of-self c = going_next _ _ _ _ c.self.invariant (omega arith) _ c.link-self-inside.ensures.exact

pub returns-clause-steps : goal.returns-clause-steps
returns-clause-steps c = sym c.self.view_is ∙ going_step _ _ _ _ c.self.invariant (omega arith) _ c.link-self-inside.ensures.exact

pub returns-clause-goes : goal.returns-clause-goes
returns-clause-goes c =
    record { on = λ _. (tt, tt, omega (arith, ap length c.self.view_is, going_fewer _ _ _ _ c.self.invariant (omega arith) c.link-self-inside.result.0)); keeps = tt; rests = λ _. tt }
