use Rattle.std.specs.Prelude.{refl}
use native.Mathlib.Omega.{arith}
use Rattle.std.proofs.Common.{◌∙◌}
use Rattle.layout.proofs.Lent.{did_lent}
use Rattle.layout.proofs.arrays.clear_scratch.Goals as goal

pub returns : goal.returns
returns c = did_lent _ c.scratch.ensures c.args.g.now.ok.lent c.fill.auto.self (c.fill.ensures.after (λ y e. e) ∙ grind arith) refl refl refl
