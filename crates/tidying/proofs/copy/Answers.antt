use Rattle.layout.specs.Did.{did_as, did_none}
use Rattle.tidying.specs.Copy.{copy_start, copy_stray}
use Rattle.tidying.proofs.copy.Goals as goal

pub loop-place-init : goal.loop-place-init
loop-place-init c =
    let last = rw (c.view.ensures.0, c.view.ensures.1) at c.last-id.ensures in
    (last.small, did_none (copy_start _ _ _ _ _ c.requires.0 c.requires.1 _ c.args.g.now.ok.lent last))

pub returns-then-g-id : goal.returns-then-g-id
returns-then-g-id c =
    let d = c.loop-place.invariant.1 in
    did_as d (copy_stray _ _ _ _ _ c.requires.0 c.requires.1 _ _ _ c.loop-place-test.true (rw d.head at c.if-g-id.true) d.did)
