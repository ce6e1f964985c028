use Rattle.layout.specs.Seen.{seen}
use Rattle.spelling.specs.Pieces.{Wrote, pieces}
use Rattle.egraph.specs.Stored.{row_piece}
use Rattle.egraph.proofs.listing.put_nodes.Given as goal

abbrev pub invariant-loop-i : goal.invariant-loop-i
invariant-loop-i l = Wrote l.initial.out 0 (pieces (row_piece (seen l.g).rows l.g.h.n l.g.h.m) l.i) l.at l.out
