use native.Mathlib.Omega.{arith}
use Rattle.spelling.specs.Pieces.{pieces_next, pieces_room, pieces_start}
use Rattle.eclass.proofs.classes.Classes.put.Goals as goal

pub loop-i-init : goal.loop-i-init
loop-i-init g c = pieces_start _ _

pub put-at-requires-clause-r_in_bounds : goal.put-at-requires-clause-r_in_bounds
put-at-requires-clause-r_in_bounds g c = pieces_room _ _ c.loop-i.i _ _ c.loop-i.invariant _ (omega arith) c.requires

pub loop-i-preserved : goal.loop-i-preserved
loop-i-preserved g c = pieces_next _ _ c.loop-i.i _ _ c.loop-i.invariant _ _ c.put-at.ensures
