use Rattle.layout.specs.Did.{Did}
use Rattle.rechilding.specs.All.{RechildedTo}
use Rattle.rechilding.proofs.rechild_all.Given as goal

abbrev pub invariant-loop-i : goal.invariant-loop-i
invariant-loop-i l = Did (λ ws ws'. RechildedTo l.initial.g.h ws ws' l.i) l.initial.g l.g
