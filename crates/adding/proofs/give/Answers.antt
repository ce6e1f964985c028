use Rattle.std.specs.Prelude.{refl}
use mathlib.Core.Logic.{inl, inr}
use native.Mathlib.Omega.{arith}
use Rattle.std.proofs.lemmas.Result.{err_from_is_err_and}
use Rattle.adding.specs.Giving.{give_full, give_lost, give_new, give_old}
use Rattle.adding.proofs.give.Goals as goal

pub returns-in_err-p-clause-gives : goal.returns-in_err-p-clause-gives
returns-in_err-p-clause-gives c = let p = err_from_is_err_and c.from_residual.result c.from_residual.ensures.1 in
    let P = rw (c.view.ensures.0, c.view.ensures.1) at c.probe.ensures in
    rw (p.1, p.2) (give_lost _ _ _ _ P c.in_err-p.was)

pub returns-in-Some-clause-gives : goal.returns-in-Some-clause-gives
returns-in-Some-clause-gives c = let P = rw (c.view.ensures.0, c.view.ensures.1) at c.probe.ensures in
    give_old _ _ _ _ P _ c.in_ok-p.was _ c.in-Some.is

pub returns-then-h-clause-gives : goal.returns-then-h-clause-gives
returns-then-h-clause-gives c = let P = rw (c.view.ensures.0, c.view.ensures.1) at c.probe.ensures in
    give_full _ _ _ _ P _ c.in_ok-p.was c.in_default.is (inl (omega arith))

pub returns-then-h-fit-clause-gives : goal.returns-then-h-fit-clause-gives
returns-then-h-fit-clause-gives c = let x = c.args.fit in
    let P = rw (c.view.ensures.0, c.view.ensures.1) at c.probe.ensures in
    give_full _ _ _ _ P _ c.in_ok-p.was c.in_default.is (inr (omega arith))

pub grow-requires : goal.grow-requires
grow-requires c = let P = rw (c.view.ensures.0, c.view.ensures.1) at c.probe.ensures in
    let R = P.key _ c.in_ok-p.was in
    record { ids_lt_n = (omega arith, omega arith, R.count); by_index = λ i l. R.inside i (omega (arith, R.count)) }

pub returns-clause-gives : goal.returns-clause-gives
returns-clause-gives c = let x = c.args.fit in
    let P = rw (c.view.ensures.0, c.view.ensures.1) at c.probe.ensures in
    give_new _ _ _ _ P _ c.in_ok-p.was c.in_default.is (omega arith, omega arith) _ _ (rw c.in_ok-grow.was at c.grow.ensures.grows) _ refl
