use native.Mathlib.Omega.{arith}
use Rattle.pricing.specs.Best.{choose_new, choose_old}
use Rattle.pricing.proofs.choose.Goals as goal

pub returns-in-Some : goal.returns-in-Some
returns-in-Some c = choose_old _ c.args.price _ (omega (arith, c.ranges.price)) _ c.in-Some.is c.if-e-price.true

pub returns-in_default : goal.returns-in_default
returns-in_default c = choose_new _ c.args.price _ (omega (arith, c.ranges.price)) (rw c.in-Some.is c.if-e-price.false)

pub returns-in_default-2 : goal.returns-in_default-2
returns-in_default-2 c = choose_new _ c.args.price _ (omega (arith, c.ranges.price)) (rw c.in_default.is tt)
