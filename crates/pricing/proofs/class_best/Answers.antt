use native.Mathlib.Omega.{arith}
use Rattle.broken.specs.Words.{is_broken}
use Rattle.pricing.specs.Best.{best_all, best_broken, best_lost, best_unread, walk_known, walk_more, walk_start}
use Rattle.pricing.proofs.class_best.Goals as goal

pub returns-in_err-id-items : goal.returns-in_err-id-items
returns-in_err-id-items c = rw (is_broken _ c.from_residual.ensures.0) (best_unread _ _ _ _ c.class_nodes.ensures c.in_err-id-items.was)

pub loop-id-init : goal.loop-id-init
loop-id-init c = rw c.into_iter-id-iterator.ensures.into_iter_gives (walk_start _ _ _ _ c.class_nodes.ensures _ c.in_ok-id-items.was)

pub returns-in_err-id : goal.returns-in_err-id
returns-in_err-id c =
    let next = rw c.in_err-id.was at c.in-Some.ensures.steps in
    rw (is_broken _ c.from_residual-in_err-id.ensures.0) (best_lost _ _ _ _ _ c.loop-id.invariant _ _ next)

pub better-requires : goal.better-requires
better-requires c =
    let next = rw c.in_ok-id.was at c.in-Some.ensures.steps in
    (omega (arith, walk_known _ _ _ _ _ c.loop-id.invariant _ _ next, c.args.g.now.ok.ids_in), c.loop-id.invariant.low)

pub returns-in_err-best : goal.returns-in_err-best
returns-in_err-best c =
    let next = rw c.in_ok-id.was at c.in-Some.ensures.steps in
    rw (is_broken _ c.from_residual-in_err-best.ensures.0) (best_broken _ _ _ _ _ c.loop-id.invariant _ _ next _ c.better.ensures c.in_err-best.was)

pub loop-id-preserved : goal.loop-id-preserved
loop-id-preserved c =
    let next = rw c.in_ok-id.was at c.in-Some.ensures.steps in
    walk_more _ _ _ _ _ c.loop-id.invariant _ _ next _ c.better.ensures _ c.in_ok-best.was

pub returns : goal.returns
returns c = best_all _ _ _ _ _ c.loop-id.invariant c.in-None.ensures.steps.0
