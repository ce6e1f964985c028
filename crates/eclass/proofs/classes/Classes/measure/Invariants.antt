use mathlib.Core.Path.{◌≡◌}
use Prim.Native.Nat.{◌*◌, ◌≤◌}
use lib.ListN.{length}
use Rattle.spelling.specs.Pieces.{pieces}
use Rattle.eclass.proofs.classes.Classes.measure.Given as goal

abbrev pub invariant-loop-i : goal.invariant-loop-i
invariant-loop-i g l = (l.total ≤ 47244640258 * l.i) × (l.total ≡ length (pieces (g.P.Piece.piece l.list l.self.g.h l.self.g.ws.now) l.i))
