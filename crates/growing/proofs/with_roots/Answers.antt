use Rattle.std.proofs.Common.{rules}
use native.Mathlib.Omega.{arith}
use Rattle.growing.specs.Roots.{roots_asked}
use Rattle.growing.proofs.with_roots.Goals as goal

pub try_map-requires : goal.try_map-requires
try_map-requires c = λ i lt. let k = c.requires i (omega (arith, c.args.given.many)) in search rules

pub returns : goal.returns
returns c = roots_asked _ _ c.args.given _ c.requires (λ k a h q. search rules) _ c.try_map.ensures
