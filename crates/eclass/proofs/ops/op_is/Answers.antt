use Rattle.eclass.specs.Ops.{op_read}
use Rattle.eclass.proofs.ops.op_is.Goals as goal

pub returns : goal.returns
returns c = rw c.eq.ensures (op_read _ _ _ _ _ c.key_or_leaf-key.result c.key_or_leaf-key.ensures)
