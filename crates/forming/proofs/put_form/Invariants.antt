use Rattle.spelling.specs.Pieces.{Wrote, pieces}
use Rattle.layout.specs.Seen.{seen}
use Rattle.forming.specs.FormNode.{form_piece}
use Rattle.forming.proofs.put_form.Given as goal

abbrev pub invariant-loop-p : goal.invariant-loop-p
invariant-loop-p l = Wrote l.initial.out 0 (pieces (form_piece l.g.h (seen l.g)) l.p) l.at l.out
