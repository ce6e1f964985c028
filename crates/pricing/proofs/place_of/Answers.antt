use Rattle.pricing.specs.Laid.{place_at_is}
use Rattle.pricing.proofs.place_of.Goals as goal

pub returns : goal.returns
returns c = place_at_is _ _ _ _ c.scratch.ensures _ c.checked_sub.ensures
