use native.Mathlib.Omega.{arith}
use Rattle.broken.specs.Words.{is_broken}
use Rattle.layout.specs.Did.{did_none, did_then}
use Rattle.tidying.specs.Classes.{tidied_all, tidied_broken, tidied_more, tidied_none}
use Rattle.tidying.proofs.tidy.Goals as goal

pub loop-i-init : goal.loop-i-init
loop-i-init c = did_none (tidied_none _ _)

pub returns-in_err-tidy_class-clause-tidies : goal.returns-in_err-tidy_class-clause-tidies
returns-in_err-tidy_class-clause-tidies c =
    let d = c.loop-i.invariant in
    rw (is_broken _ c.from_residual.ensures.0) (tidied_broken _ _ _ _ _ _ d.did (rw d.head at c.tidy_class.ensures.did) c.in_err-tidy_class.was)

pub loop-i-preserved : goal.loop-i-preserved
loop-i-preserved c =
    let d = c.loop-i.invariant in
    did_then d c.tidy_class.ensures
    (tidied_more _ _ _ _ _ _ d.did (rw d.head at c.tidy_class.ensures.did) (omega (arith, c.loop-i-test.true, c.args.g.now.ok.ids_in)))

pub returns-clause-tidies : goal.returns-clause-tidies
returns-clause-tidies c = let d = c.loop-i.invariant in rw d.head (tidied_all _ _ _ _ c.args.g.now.ok (omega arith) d.did)
