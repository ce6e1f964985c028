use Rattle.layout.specs.Did.{Did}
use Rattle.pricing.specs.Costs.{Finding}
use Rattle.pricing.proofs.find_costs.Given as goal

abbrev pub invariant-loop-round : goal.invariant-loop-round
invariant-loop-round l = Did (Finding l.initial.g.h l.round) l.initial.g l.g
