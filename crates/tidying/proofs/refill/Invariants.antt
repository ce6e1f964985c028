use Rattle.layout.specs.Did.{Did}
use Rattle.tidying.specs.Refill.{RefilledTo}
use Rattle.tidying.proofs.refill.Given as goal

abbrev pub invariant-loop-i : goal.invariant-loop-i
invariant-loop-i l = Did (RefilledTo l.initial.g.h.n l.initial.g.h.m l.list.0 l.d l.i) l.initial.g l.g
