use native.Mathlib.Omega.{arith}
use Rattle.layout.specs.Seen.{seen}
use Rattle.eclass.specs.ClassWalk.{length_back}
use Rattle.eclass.proofs.members.Members.of_class.Goals as goal

pub returns-clause-few : goal.returns-clause-few
returns-clause-few c = omega (arith, length_back (seen c.args.classes.now.g).members c.args.classes.now.g.h.n c.len.result c.last.result.0, c.len.ensures.small)

pub invariant_of-result : goal.invariant_of-result
invariant_of-result c =
    let g = c.args.classes.now.g in
    let f = c.args.classes.now.unbroken.fine c.args.r.0 c.requires in
    rw (c.len.ensures.exact, c.last.ensures.exact) (record { ok = g.ok; low = λ x m. omega (arith, (f.all x m).0, g.ok.ids_in) })
