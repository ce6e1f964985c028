use native.Mathlib.Omega.{arith}
use Rattle.spelling.specs.Pieces.{long_none}
use Rattle.forming.specs.Form.{fine_more, fine_none, measure_more}
use Rattle.forming.proofs.measure_form.Goals as goal

pub loop-p-init : goal.loop-p-init
loop-p-init c = (long_none _, omega arith, fine_none _ _)

pub loop-p-preserved : goal.loop-p-preserved
loop-p-preserved c =
    let N = c.form_node.ensures in
    let e = c.in_ok-node.was in (
      measure_more _ _ _ _ N _ e _ _ c.node_length-total.ensures.0 c.loop-p.invariant.0,
      omega (arith, c.node_length-total.ensures.1, c.loop-p.invariant.1),
      fine_more _ _ _ _ N _ e c.loop-p.invariant.2,
    )
