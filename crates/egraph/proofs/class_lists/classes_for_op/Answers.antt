use Rattle.egraph.specs.ClassLists.{its_ops}
use Rattle.egraph.proofs.class_lists.classes_for_op.Goals as goal

pub returns : goal.returns
returns c = c.list_pieces.ensures _ (λ h q l. its_ops _ h q l _)
