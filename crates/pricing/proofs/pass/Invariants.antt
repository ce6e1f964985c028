use Rattle.layout.specs.Did.{Did}
use Rattle.pricing.specs.Pass.{Passing}
use Rattle.pricing.proofs.pass.Given as goal

abbrev pub invariant-loop-r : goal.invariant-loop-r
invariant-loop-r l = Did (Passing l.initial.g.h l.r l.taken) l.initial.g l.g
