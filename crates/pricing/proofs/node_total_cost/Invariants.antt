use Rattle.language.specs.Fitting.{term}
use Rattle.layout.specs.Seen.{seen}
use Rattle.pricing.specs.Node.{Adding}
use Rattle.pricing.proofs.node_total_cost.Given as goal

abbrev pub invariant-loop-kid : goal.invariant-loop-kid
invariant-loop-kid l = Adding l.g.h.n l.g.h.ids (seen l.g).scratch (term l.fn.fit) l.kid-index l.sum
