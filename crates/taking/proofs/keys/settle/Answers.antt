use Rattle.broken.specs.Words.{is_broken}
use Rattle.layout.specs.Did.{did_as, did_both, did_then}
use Rattle.taking.specs.Settle.{settle_done, settle_stuck, settle_torn}
use Rattle.taking.proofs.keys.settle.Goals as goal

pub returns-in_err-vacate : goal.returns-in_err-vacate
returns-in_err-vacate c = rw (is_broken _ c.from_residual.ensures.0) (did_as c.vacate.ensures (settle_stuck _ _ _ _ _ _ c.vacate.ensures.did c.in_err-vacate.was))

pub returns-in_err-set_key : goal.returns-in_err-set_key
returns-in_err-set_key c =
    rw (is_broken _ c.from_residual-in_err-set_key.ensures.0)
    (did_then c.vacate.ensures c.set_key.ensures (settle_torn _ _ _ _ _ _ c.vacate.ensures.did _ _ (rw c.vacate.ensures.head at c.set_key.ensures.did) c.in_err-set_key.was))

pub returns : goal.returns
returns c =
    let e1 = c.vacate.ensures.head in
    let e2 = c.set_key.ensures.head in
    did_then (did_both c.vacate.ensures c.set_key.ensures) c.enter.ensures
    (settle_done _ _ _ _ _ _ c.vacate.ensures.did _ _ (rw e1 at c.set_key.ensures.did) _ (rw (e2, e1) at c.bucket-bucket.ensures) _ _ (rw (e2, e1) at c.enter.ensures.did))
