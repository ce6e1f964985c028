use Rattle.language.specs.Fitting.{term}
use Rattle.layout.specs.Seen.{seen}
use Rattle.walking.specs.Kids.{Looking}
use Rattle.walking.proofs.first_unlisted.Given as goal

abbrev pub invariant-loop-kid : goal.invariant-loop-kid
invariant-loop-kid l = Looking l.g.h.n l.g.h.ids (seen l.g).scratch (term l.fn.fit) l.kid-index
