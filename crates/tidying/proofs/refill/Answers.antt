use Rattle.layout.specs.Did.{did_none, did_then}
use Rattle.tidying.specs.Refill.{refill_more, refill_start}
use Rattle.tidying.proofs.refill.Goals as goal

pub loop-i-init : goal.loop-i-init
loop-i-init c = did_none (refill_start _ _ _ _ _ c.args.g.now.ok.lent c.requires.0 c.requires.1)

pub loop-i-preserved : goal.loop-i-preserved
loop-i-preserved c =
    let d = c.loop-i.invariant in
    did_then d c.put_back.ensures
    (refill_more _ _ _ _ _ c.args.g.now.ok.lent c.requires.0 c.requires.1 _ _ _ _ d.did c.loop-i-test.true (rw d.head at c.put_back.ensures.did))
