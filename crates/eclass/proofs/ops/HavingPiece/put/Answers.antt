use mathlib.Core.Path.{refl}
use Rattle.eclass.specs.Ops.{op_put, op_room, op_skip}
use Rattle.eclass.proofs.ops.HavingPiece.put.Goals as goal

pub bounds-out-place : goal.bounds-out-place
bounds-out-place c = op_room _ _ _ _ _ _ _ c.has_op.ensures c.if-has_op.true _ _ c.requires.r_in_bounds

pub returns-then-has_op : goal.returns-then-has_op
returns-then-has_op c = op_put _ _ _ _ _ _ _ c.has_op.ensures c.if-has_op.true _ _ _ refl

pub returns : goal.returns
returns c = op_skip _ _ _ _ _ _ _ c.has_op.ensures c.if-has_op.false _ _
