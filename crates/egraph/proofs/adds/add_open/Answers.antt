use Rattle.std.proofs.Common.{ap, refl}
use Rattle.broken.specs.Words.{error_is}
use Rattle.parts.specs.Bare.{bare_found}
use Rattle.egraph.specs.Adds.{root_given, root_lost, root_none}
use Rattle.egraph.proofs.adds.add_open.Goals as goal

pub returns-in_err-id-clause-says : goal.returns-in_err-id-clause-says
returns-in_err-id-clause-says c = rw (error_is _ _ c.from_residual.ensures.1) (root_none _ _ _ _ c.in_err-id.ensures.says)

pub find-requires : goal.find-requires
find-requires c = rw c.view.ensures.1 (c.in_ok-id.ensures.inside.known _ refl)

pub returns-in_err-root-clause-says : goal.returns-in_err-root-clause-says
returns-in_err-root-clause-says c =
    let F = rw (c.view.ensures.0, c.view.ensures.1) at c.find.ensures in
    rw (error_is _ _ c.from_residual-in_err-root.ensures.1) (root_lost _ _ _ _ c.in_ok-id.ensures.says _ c.in_ok-id.ensures.inside _ F (ap bare_found c.in_err-root.was))

pub returns-clause-says : goal.returns-clause-says
returns-clause-says c =
    let F = rw (c.view.ensures.0, c.view.ensures.1) at c.find.ensures in
    root_given _ _ _ _ c.in_ok-id.ensures.says _ c.in_ok-id.ensures.inside _ F _ (ap bare_found c.in_ok-root.was)
