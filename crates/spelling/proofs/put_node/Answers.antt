use native.Mathlib.Omega.{arith}
use Rattle.spelling.specs.Puts.{puts}
use Rattle.spelling.proofs.put_node.Goals as goal

pub returns : goal.returns
returns c =
    puts _ _ _ _ _ c.args.fit c.requires c.node_length-n.ensures.0 c.copy_from_slice.ensures.after (omega arith) c.put_kids.ensures
