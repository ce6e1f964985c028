use Rattle.eclass.specs.Ops.{op_count}
use Rattle.eclass.proofs.ops.HavingPiece.words.Goals as goal

pub returns-clause-exact : goal.returns-clause-exact
returns-clause-exact c = op_count _ _ _ _ _ _ _ _ c.has_op.ensures c.from.ensures
