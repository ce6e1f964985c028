use mathlib.Core.Path.{sym}
use Rattle.layout.specs.Did.{did_both, did_then}
use Rattle.growing.specs.Store.{stores}
use Rattle.growing.proofs.store.Goals as goal

pub returns : goal.returns
returns c = let p = c.requires in
    let a = c.make_set.ensures in
    let b = c.store.ensures in
    let d = c.push.ensures in
    did_then (did_both a b) d (stores _ _ _ _ _ _ _ _ _ p.0 p.1 (sym c.args.given.many) a.did (rw a.head at b.did) (rw (b.head, a.head) at d.did))
