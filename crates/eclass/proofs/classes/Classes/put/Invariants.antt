use Rattle.spelling.specs.Pieces.{Wrote, pieces}
use Rattle.eclass.proofs.classes.Classes.put.Given as goal

abbrev pub invariant-loop-i : goal.invariant-loop-i
invariant-loop-i g l = Wrote l.fn.out 0 (pieces (g.P.Piece.piece l.list l.self.g.h l.self.g.ws.now) l.i) l.at l.out
