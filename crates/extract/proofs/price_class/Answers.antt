use native.Mathlib.Omega.{arith}
use Rattle.broken.specs.Words.{is_broken}
use Rattle.layout.specs.Did.{did_as, did_none}
use Rattle.extract.specs.Priced.{price_done, price_lost, price_none}
use Rattle.extract.proofs.price_class.Goals as goal

pub returns-in_err-root : goal.returns-in_err-root
returns-in_err-root c =
    let found = rw (c.view.ensures.0, c.view.ensures.1) at c.class_root.ensures in
    rw (is_broken _ c.from_residual.ensures.0) (did_none (price_lost _ _ _ c.requires _ found c.in_err-root.was))

pub returns-in_err-e : goal.returns-in_err-e
returns-in_err-e c =
    let found = rw (c.view.ensures.0, c.view.ensures.1) at c.class_root.ensures in
    let costs = c.find_costs.ensures in
    let entry = rw (c.view-2.ensures.0, c.view-2.ensures.1, costs.head) at c.get_entry.ensures in
    let low = found.low _ c.in_ok-root.was in
    rw (is_broken _ c.from_residual-in_err-e.ensures.0)
    (did_as costs (price_none _ _ _ c.requires _ found _ c.in_ok-root.was _ _ costs.did _ (omega (arith, low, c.args.g.now.ok.ids_in)) entry (grind arith)))

pub returns : goal.returns
returns c =
    let found = rw (c.view.ensures.0, c.view.ensures.1) at c.class_root.ensures in
    let costs = c.find_costs.ensures in
    let entry = rw (c.view-2.ensures.0, c.view-2.ensures.1, costs.head) at c.get_entry.ensures in
    let low = found.low _ c.in_ok-root.was in
    did_as costs (price_done _ _ _ c.requires _ found _ c.in_ok-root.was _ _ costs.did _ (omega (arith, low, c.args.g.now.ok.ids_in)) entry c.in_ok-e.e (grind arith))
