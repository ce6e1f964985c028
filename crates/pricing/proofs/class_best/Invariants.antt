use Rattle.layout.specs.Seen.{seen}
use Rattle.pricing.specs.Best.{Walking}
use Rattle.pricing.proofs.class_best.Given as goal

abbrev pub invariant-loop-id : goal.invariant-loop-id
invariant-loop-id l = Walking l.g.h (seen l.g) l.fn.r.0 l.id-iterator l.best
