use mathlib.Core.Path.{refl}
use Rattle.layout.specs.Did.{did_both, did_then}
use Rattle.pricing.specs.Entries.{kept}
use Rattle.pricing.proofs.set_entry.Goals as goal

pub returns : goal.returns
returns c =
    let low = c.set_scratch.ensures in
    let high = c.set_scratch-2.ensures in
    let mark = c.set_scratch-3.ensures in
    did_then (did_both low high) mark (kept _ _ _ _ _ _ _ _ _ _ refl refl low.did (rw low.head at high.did) (rw (high.head, low.head) at mark.did))
