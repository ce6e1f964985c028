use native.Mathlib.Omega.{arith}
use Rattle.broken.specs.Words.{is_broken}
use Rattle.layout.specs.Did.{did_as, did_both, did_none, did_then}
use Rattle.tidying.specs.Classing.{class_done, class_idle, class_left, class_long, class_lost, class_unsorted}
use Rattle.tidying.proofs.tidy_class.Goals as goal

pub returns-then-k-lt2 : goal.returns-then-k-lt2
returns-then-k-lt2 c = did_none (class_idle _ _ _ c.args.g.now.ok c.requires _ (rw (c.view.ensures.0, c.view.ensures.1) at c.len-k.ensures) c.if-k-lt2.true)

pub returns-then-g-k : goal.returns-then-g-k
returns-then-g-k c = did_none (class_long _ _ _ c.args.g.now.ok c.requires _ (rw (c.view.ensures.0, c.view.ensures.1) at c.len-k.ensures) c.if-g-k.true)

pub returns-in_err-copy : goal.returns-in_err-copy
returns-in_err-copy c =
    let len = rw (c.view.ensures.0, c.view.ensures.1) at c.len-k.ensures in
    rw (is_broken _ c.from_residual.ensures.0) (did_as c.copy.ensures (class_lost _ _ _ c.args.g.now.ok c.requires _ len _ _ c.copy.ensures.did c.in_err-copy.was))

pub returns-in_err-d : goal.returns-in_err-d
returns-in_err-d c =
    let len = rw (c.view.ensures.0, c.view.ensures.1) at c.len-k.ensures in
    let sort = rw c.copy.ensures.head at c.sort.ensures.did in
    rw (is_broken _ c.from_residual-in_err-d.ensures.0)
    (did_then c.copy.ensures c.sort.ensures (class_unsorted _ _ _ c.args.g.now.ok c.requires _ len _ _ c.copy.ensures.did _ _ sort c.in_err-d.was))

pub refill-requires : goal.refill-requires
refill-requires c =
    let len = rw (c.view.ensures.0, c.view.ensures.1) at c.len-k.ensures in
    let sort = rw c.copy.ensures.head at c.sort.ensures.did in
    rw (c.empty.ensures.head, c.sort.ensures.head, c.copy.ensures.head)
    (c.requires, class_left _ _ _ c.args.g.now.ok c.requires _ len _ _ c.copy.ensures.did _ _ sort _ c.in_ok-d.was (omega arith))

pub returns : goal.returns
returns c =
    let len = rw (c.view.ensures.0, c.view.ensures.1) at c.len-k.ensures in
    let sort = rw c.copy.ensures.head at c.sort.ensures.did in
    let empty = rw (c.sort.ensures.head, c.copy.ensures.head) at c.empty.ensures.did in
    let refill = rw (c.empty.ensures.head, c.sort.ensures.head, c.copy.ensures.head) at c.refill.ensures.did in
    did_then (did_both (did_both c.copy.ensures c.sort.ensures) c.empty.ensures) c.refill.ensures
    (class_done _ _ _ c.args.g.now.ok c.requires _ len _ _ c.copy.ensures.did _ _ sort _ c.in_ok-d.was (omega arith) _ empty _ _ refill)
