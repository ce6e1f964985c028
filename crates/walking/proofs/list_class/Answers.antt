use Rattle.layout.specs.Did.{did_then}
use Rattle.walking.specs.Step.{listed_class}
use Rattle.walking.proofs.list_class.Goals as goal

pub returns : goal.returns
returns c =
    let at_place = c.set_scratch.ensures in
    let place = c.set_scratch-2.ensures in
    did_then at_place place (listed_class _ _ _ _ _ _ _ at_place.did (rw at_place.head at place.did))
