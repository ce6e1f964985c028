use mathlib.Core.Path.{ap, sym, ◌∙◌}
use Rattle.std.proofs.lemmas.Bool.{eqb-false, eqb-true}
use Rattle.broken.specs.Words.{is_broken}
use Rattle.parts.specs.Bare.{bare_found}
use Rattle.uniting.specs.Uniting.{unite_broken, unite_lost, unite_lost_2, unite_same, unite_yes}
use Rattle.uniting.proofs.unite.Goals as goal

pub returns-in_err-x-clause-says : goal.returns-in_err-x-clause-says
returns-in_err-x-clause-says c = rw (is_broken _ c.from_residual.ensures.0) (unite_lost _ _ _ _ _ _ c.find_mut.ensures.did (ap bare_found c.in_err-x.was))

pub returns-in_err-y-clause-says : goal.returns-in_err-y-clause-says
returns-in_err-y-clause-says c =
    rw (is_broken _ c.from_residual-in_err-y.ensures.0) (unite_lost_2 _ _ _ _ _ _ c.find_mut.ensures.did _ _ (rw c.find_mut.ensures.head at c.find_mut-2.ensures.did) (ap bare_found c.in_err-y.was))

pub returns-then-eq-clause-says : goal.returns-then-eq-clause-says
returns-then-eq-clause-says c =
    let e = c.find_mut.ensures.head in
    rw (c.find_mut-2.ensures.head, e)
    (unite_same _ _ _ _ _ _ c.find_mut.ensures.did _ _ (rw e at c.find_mut-2.ensures.did) _ _ (ap bare_found c.in_ok-x.was) (ap bare_found c.in_ok-y.was) c.args.g.now.ok (eqb-true _ _ (sym c.eq.ensures ∙ c.if-eq.true)))

pub returns-in_err-join_roots-clause-says : goal.returns-in_err-join_roots-clause-says
returns-in_err-join_roots-clause-says c =
    let e = c.find_mut.ensures.head in
    rw (is_broken _ c.from_residual-in_err-join_roots.ensures.0)
    (unite_broken _ _ _ _ _ _ c.find_mut.ensures.did _ _ (rw e at c.find_mut-2.ensures.did) _ _ (ap bare_found c.in_ok-x.was) (ap bare_found c.in_ok-y.was) _ _ (rw (c.find_mut-2.ensures.head, e) at c.join_roots.ensures.says) c.requires.0 c.requires.1 (eqb-false _ _ (sym c.eq.ensures ∙ c.if-eq.false)) (rw c.in_err-join_roots.was))

pub returns-clause-says : goal.returns-clause-says
returns-clause-says c =
    let e = c.find_mut.ensures.head in
    unite_yes _ _ _ _ _ _ c.find_mut.ensures.did _ _ (rw e at c.find_mut-2.ensures.did) _ _ (ap bare_found c.in_ok-x.was) (ap bare_found c.in_ok-y.was) _ _ (rw (c.find_mut-2.ensures.head, e) at c.join_roots.ensures.says) c.requires.0 c.requires.1 (eqb-false _ _ (sym c.eq.ensures ∙ c.if-eq.false)) _ (rw c.in_ok-join_roots.was)
