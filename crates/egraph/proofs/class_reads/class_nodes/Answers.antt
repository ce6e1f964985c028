use Rattle.egraph.specs.ClassReads.{nodes_all, nodes_long}
use native.Mathlib.Omega.{arith}
use Rattle.egraph.proofs.class_reads.class_nodes.Goals as goal

pub returns-then-g-left : goal.returns-then-g-left
returns-then-g-left c = nodes_long _ _ _ c.requires _ c.len-left.ensures c.if-g-left.true

pub returns : goal.returns
returns c = nodes_all _ _ _ c.requires _ c.len-left.ensures (omega (arith, c.if-g-left.false)) _ c.last-id.ensures
