use Rattle.layout.specs.Did.{Did}
use Rattle.tidying.specs.Classes.{TidiedTo}
use Rattle.tidying.proofs.tidy.Given as goal

abbrev pub invariant-loop-i : goal.invariant-loop-i
invariant-loop-i l = Did (λ ws ws'. TidiedTo l.initial.g.h ws ws' l.i) l.initial.g l.g
