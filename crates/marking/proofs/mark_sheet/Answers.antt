use Rattle.marking.specs.Marks.{set_up, unmarked}
use Rattle.marking.proofs.mark_sheet.Goals as goal

pub mark_both-requires : goal.mark_both-requires
mark_both-requires c = set_up _ _ _ _ (rw c.in-Ok.is at c.setup.ensures)

pub returns-in-Err : goal.returns-in-Err
returns-in-Err c = unmarked _ c.default.ensures
