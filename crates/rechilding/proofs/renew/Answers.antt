use Rattle.broken.specs.Words.{is_broken}
use Rattle.layout.specs.Did.{did_as, did_then}
use Rattle.rechilding.specs.Rechild.{renew_set, renew_stuck}
use Rattle.rechilding.proofs.renew.Goals as goal

pub returns-in_err-vacate : goal.returns-in_err-vacate
returns-in_err-vacate c = let v = c.vacate.ensures in rw (is_broken _ c.from_residual.ensures.0) (did_as v (renew_stuck _ _ _ _ _ _ v.did c.in_err-vacate.was))

pub returns : goal.returns
returns c =
    let v = c.vacate.ensures in
    let s = c.set_key.ensures in
    did_then v s (renew_set _ _ _ _ _ _ v.did _ _ (rw v.head at s.did))
