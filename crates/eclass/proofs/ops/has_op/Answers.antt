use native.Mathlib.Omega.{arith}
use Rattle.std.proofs.Common.{rules}
use Rattle.std.proofs.lemmas.Iterator.{cases_from_any}
use Rattle.std.proofs.lemmas.Iterator.Adapters.{serves_from_places}
use Rattle.layout.specs.Seen.{seen}
use Rattle.eclass.specs.Going.{back_low, members_back}
use Rattle.eclass.specs.Ops.{OpIs, has_any}
use Rattle.eclass.proofs.ops.has_op.Goals as goal

pub any-requires-clause-callable : goal.any-requires-clause-callable
any-requires-clause-callable c =
    let g = c.args.classes.now.g in
    let f = c.args.classes.now.unbroken.fine c.args.r.0 c.requires in
    serves_from_places (members_back c.of_class.result) (λ x q k. search rules)
    (λ x k l e. let low = back_low g.h g.ws.now _ f c.of_class.result c.of_class.ensures.all k x.0 l e in omega (arith, g.ok.ids_in))

pub returns : goal.returns
returns c =
    let g = c.args.classes.now.g in
    let O = OpIs (seen g).rows g.h.n g.h.m c.args.op.0 in
    has_any _ _ _ _ _ _ _ c.of_class.ensures.all _
    (cases_from_any _ _ _ O (λ x. O x → ⊥) c.any.ensures.ran (members_back c.of_class.result) (λ x q k. search rules) (λ x q k. search rules))
