use Rattle.growing.specs.Link.{links}
use Rattle.layout.specs.Did.{did_then}
use Rattle.growing.proofs.link_one.Goals as goal

pub returns : goal.returns
returns c = let a = c.set_owner.ensures in
    let b = c.push.ensures in
    did_then a b (links _ _ _ _ _ _ _ _ c.args.g.now.ok c.requires.1 a.did (rw a.head at b.did))
