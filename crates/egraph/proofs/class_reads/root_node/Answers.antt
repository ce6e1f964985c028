use native.Mathlib.Omega.{arith}
use Rattle.egraph.specs.ClassReads.{root_node_read, root_node_stray}
use Rattle.egraph.proofs.class_reads.root_node.Goals as goal

pub returns-then-g-id : goal.returns-then-g-id
returns-then-g-id c = root_node_stray _ _ _ c.if-g-id.true

pub returns : goal.returns
returns c = root_node_read _ _ _ (omega (arith, c.if-g-id.false)) _ c.key.ensures
