use Rattle.broken.specs.Words.{is_broken}
use Rattle.layout.specs.Did.{did_as, did_then}
use Rattle.growing.specs.Connect.{connect_broken, connected}
use Rattle.growing.proofs.connect.Goals as goal

pub returns-in_err-link_all : goal.returns-in_err-link_all
returns-in_err-link_all c = let a = c.link_all.ensures in
    rw (is_broken _ c.from_residual.ensures.0) (did_as a (connect_broken _ _ _ _ _ _ _ a.did c.in_err-link_all.was))

pub returns : goal.returns
returns c = let a = c.link_all.ensures in
    let b = c.push.ensures in
    did_then a b (connected _ _ _ _ _ _ _ a.did _ _ (rw a.head at b.did))
