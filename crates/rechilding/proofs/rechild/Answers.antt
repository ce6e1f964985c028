use Rattle.broken.specs.Words.{is_broken}
use Rattle.layout.specs.Did.{did_as, did_none}
use Rattle.rechilding.specs.Rechild.{rechild_lost, rechild_renewed, rechild_same}
use Rattle.rechilding.proofs.rechild.Goals as goal

pub returns-in_err-key : goal.returns-in_err-key
returns-in_err-key c =
    let key = rw (c.view-seen.ensures.0, c.view-seen.ensures.1) at c.fresh_key.ensures in
    rw (is_broken _ c.from_residual.ensures.0) (did_none (rechild_lost _ _ _ _ key c.in_err-key.was))

pub returns-then-same : goal.returns-then-same
returns-then-same c =
    let key = rw (c.view-seen.ensures.0, c.view-seen.ensures.1) at c.fresh_key.ensures in
    let row = rw (c.view-seen.ensures.0, c.view-seen.ensures.1) at c.key_or_leaf-row.ensures in
    did_none (rechild_same _ _ _ _ key _ c.in_ok-key.was c.key_or_leaf-row.result row _ c.same.ensures c.if-same.true)

pub returns : goal.returns
returns c =
    let key = rw (c.view-seen.ensures.0, c.view-seen.ensures.1) at c.fresh_key.ensures in
    let row = rw (c.view-seen.ensures.0, c.view-seen.ensures.1) at c.key_or_leaf-row.ensures in
    did_as c.renew.ensures (rechild_renewed _ _ _ _ key _ c.in_ok-key.was c.key_or_leaf-row.result row _ c.same.ensures c.if-same.false _ _ c.renew.ensures.did)
