use mathlib.Core.Path.{ap}
use native.Mathlib.Omega.{arith}
use Rattle.broken.specs.Words.{error_is}
use Rattle.parts.specs.Bare.{bare_found}
use Rattle.egraph.specs.Answers.{far_near, head_in, ids_is, known_opened, pass}
use Rattle.egraph.specs.Reads.{find_lost, find_root, find_shut}
use Rattle.egraph.proofs.reads.find.Goals as goal

pub returns-in_err-g : goal.returns-in_err-g
returns-in_err-g c = rw (error_is _ _ c.from_residual.ensures.1) (find_shut _ _ _ c.open_known.ensures.head _ (ap head_in c.in_err-g.was))

pub find-requires : goal.find-requires
find-requires c = (c.open_known.ensures.head.good _ (ap head_in c.in_ok-g.was)).1

pub returns-in_err-root : goal.returns-in_err-root
returns-in_err-root c =
    let F = rw (c.open_known.ensures.words _ c.in_ok-g.was) at c.find.ensures in
    rw (error_is _ _ c.from_residual-in_err-root.ensures.1)
    (known_opened _ _ _ c.open_known.ensures.head _ (ap head_in c.in_ok-g.was)
    (λ p l. pass (omega (arith, l, ids_is p)) (far_near _ _) (find_lost _ _ p _ _ F l (ap bare_found c.in_err-root.was))))

pub returns : goal.returns
returns c =
    let F = rw (c.open_known.ensures.words _ c.in_ok-g.was) at c.find.ensures in
    known_opened _ _ _ c.open_known.ensures.head _ (ap head_in c.in_ok-g.was)
    (λ p l. pass (omega (arith, l, ids_is p)) (far_near _ _) (find_root _ _ p _ _ F l _ (ap bare_found c.in_ok-root.was)))
