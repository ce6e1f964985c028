use Rattle.egraph.specs.ClassReads.{node_count}
use Rattle.egraph.proofs.class_reads.count_nodes.Goals as goal

pub returns : goal.returns
returns c = node_count _ _ _ c.count_nodes.ensures
