use Rattle.std.proofs.Common.{subst, sym}
use Rattle.layout.specs.Head.{head_good}
use Rattle.language.specs.Struct.{node_of}
use Rattle.language.specs.Term.{Known}
use Rattle.egraph.specs.Adds.{not_fit}
use Rattle.egraph.specs.Answers.{handed_on, ids_is}
use Rattle.egraph.proofs.adds.enter.Goals as goal

pub returns-in_err-h : goal.returns-in_err-h
returns-in_err-h c = rw (handed_on _ _ c.read_head.ensures _ c.in_err-h.was _ c.from_residual.ensures.1) (c.read_head.ensures.bad _ c.in_err-h.was).1

pub returns-in_default : goal.returns-in_default
returns-in_default c = (head_good (c.read_head.ensures.good _ c.in_ok-h.was), not_fit _ _ c.fit.ensures c.in_default.is)

pub returns-then-not-known : goal.returns-then-not-known
returns-then-not-known c =
    let p = c.read_head.ensures.good _ c.in_ok-h.was in
    let e = c.fit.ensures.same _ c.in-Some.is in
    (head_good p, rw e at c.in-Some.fit.few, λ K. c.known.ensures.fails c.if-not-known.true (rw e (subst (Known (node_of c.args.node)) (sym (ids_is p)) K)))

pub returns : goal.returns
returns c = (c.read_head.ensures.good _ c.in_ok-h.was, c.fit.ensures.same _ c.in-Some.is, c.known.ensures.holds c.if-not-known.false)
