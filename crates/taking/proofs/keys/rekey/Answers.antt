use Rattle.broken.specs.Words.{is_broken}
use Rattle.layout.specs.Did.{did_none, did_then}
use Rattle.taking.specs.Rekey.{rekey_done, rekey_lost, rekey_stuck}
use Rattle.taking.proofs.keys.rekey.Goals as goal

pub returns-in_err-key : goal.returns-in_err-key
returns-in_err-key c = let s = c.view.ensures in rw (is_broken _ c.from_residual.ensures.0) (did_none (rekey_lost _ _ _ _ (rw (s.0, s.1) at c.fresh_key.ensures) c.in_err-key.was))

pub returns-in_err-settle : goal.returns-in_err-settle
returns-in_err-settle c =
    let s = c.view.ensures in
    rw (is_broken _ c.from_residual-in_err-settle.ensures.0)
    (did_then c.oust-was.ensures c.settle.ensures
    (rekey_stuck _ _ _ _ (rw (s.0, s.1) at c.fresh_key.ensures) _ c.in_ok-key.was _ _ _ _ c.oust-was.ensures.did (rw c.oust-was.ensures.head at c.settle.ensures.did) c.in_err-settle.was))

pub returns : goal.returns
returns c =
    let s = c.view.ensures in
    did_then c.oust-was.ensures c.settle.ensures
    (rekey_done _ _ _ _ (rw (s.0, s.1) at c.fresh_key.ensures) _ c.in_ok-key.was _ _ _ _ c.oust-was.ensures.did (rw c.oust-was.ensures.head at c.settle.ensures.did))
