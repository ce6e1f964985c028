use Rattle.egraph.specs.ClassReads.{class_root}
use Rattle.egraph.proofs.class_reads.class_root.Goals as goal

pub returns : goal.returns
returns c = class_root _ _ _ _ c.find.ensures
