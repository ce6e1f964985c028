use mathlib.Core.Path.{ap}
use native.Mathlib.Omega.{arith}
use Rattle.egraph.specs.Answers.{a_graph, handed_on, head_in, known_no_head, known_read, known_unknown, no_graph}
use Rattle.egraph.proofs.open_known.Goals as goal

pub returns-in_err-g : goal.returns-in_err-g
returns-in_err-g c =
    let e = ap head_in c.in_err-g.was in
    rw (handed_on _ _ c.open.ensures.head _ e _ c.from_residual.ensures.1) (no_graph (known_no_head _ _ _ c.open.ensures.head _ e))

pub returns-then-g-id : goal.returns-then-g-id
returns-then-g-id c = no_graph (known_unknown _ _ _ c.open.ensures.head _ (ap head_in c.in_ok-g.was) (omega arith))

pub returns : goal.returns
returns c = a_graph _ (known_read _ _ _ c.open.ensures.head _ (ap head_in c.in_ok-g.was) (omega arith)) (c.open.ensures.words _ c.in_ok-g.was)
