use mathlib.Core.Path.{refl}
use native.Mathlib.Omega.{arith}
use Rattle.pending.specs.Promise.{top_one, top_many}
use Rattle.pending.proofs.top.Goals as goal

pub returns-then-count-eq0 : goal.returns-then-count-eq0
returns-then-count-eq0 c = top_one _ _ _ refl (λ i. omega (arith, c.type_inv.ps i)) c.if-count-eq0.true

pub returns : goal.returns
returns c = top_many _ _ _ refl (λ i. omega (arith, c.type_inv.ps i)) c.if-count-eq0.false
