use Rattle.growing.specs.Enter.{enters}
use Rattle.layout.specs.Did.{did_as}
use Rattle.growing.proofs.enter.Goals as goal

pub returns : goal.returns
returns c = let e = c.enter.ensures in did_as e (enters _ _ _ _ _ _ _ c.bucket-bucket.ensures e.did)
