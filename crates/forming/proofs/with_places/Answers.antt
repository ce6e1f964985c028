use Rattle.std.proofs.Common.{rules}
use Rattle.forming.specs.Placed.{places_asked}
use Rattle.forming.proofs.with_places.Goals as goal

pub returns : goal.returns
returns c = places_asked _ _ c.args.fit _ (λ k a q. search rules) _ c.try_map.ensures
