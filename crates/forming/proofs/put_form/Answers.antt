use native.Mathlib.Omega.{arith}
use Rattle.spelling.specs.Pieces.{pieces_start}
use Rattle.forming.specs.Form.{put_next, put_room}
use Rattle.forming.proofs.put_form.Goals as goal

pub loop-p-init : goal.loop-p-init
loop-p-init c = pieces_start _ _

pub put_node-at-requires : goal.put_node-at-requires
put_node-at-requires c =
    let N = c.form_node.ensures in
    let e = c.unwrap-node.ensures in
    put_room _ _ _ _ N _ e _ _ _ c.loop-p.invariant _ (omega arith) c.requires.k_in_bounds

pub loop-p-preserved : goal.loop-p-preserved
loop-p-preserved c = put_next _ _ _ _ c.form_node.ensures _ c.unwrap-node.ensures _ _ _ c.loop-p.invariant _ _ c.put_node-at.ensures
