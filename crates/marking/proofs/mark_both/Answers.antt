use Rattle.marking.specs.Marks.{add_made, marked, over_made, unmarked}
use Rattle.marking.proofs.mark_both.Goals as goal

pub returns-in-Ok : goal.returns-in-Ok
returns-in-Ok c = let digits = add_made (add_made c.requires c.leaf-zero.ensures) c.leaf-five.ensures in
    let keyed = over_made (over_made digits c.over-half.ensures) c.over-key.ensures in
    let first = over_made (over_made keyed c.over-padded.ensures) c.over-careful.ensures in
    let begun = over_made (over_made first c.over-small.ensures) c.over-mistaken.ensures in
    let said = c.state.ensures c.in-Ok.is in
    (marked begun said c.mark_answer.ensures, marked begun said c.mark_answer-in-Ok.ensures)

pub returns-in-Err : goal.returns-in-Err
returns-in-Err c = unmarked _ c.default.ensures
