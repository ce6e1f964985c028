use Rattle.egraph.specs.ClassLists.{its_classes}
use Rattle.egraph.proofs.class_lists.classes.Goals as goal

pub returns : goal.returns
returns c = c.list_pieces.ensures _ (λ h q l. its_classes _ h q l)
