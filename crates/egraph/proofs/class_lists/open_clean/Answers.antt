use mathlib.Core.Path.{ap}
use Rattle.egraph.specs.Answers.{a_graph, clean_no_head, clean_not_rebuilt, clean_read, handed_on, head_in, no_graph}
use Rattle.egraph.proofs.class_lists.open_clean.Goals as goal

pub returns-in_err-g : goal.returns-in_err-g
returns-in_err-g c =
    let e = ap head_in c.in_err-g.was in
    rw (handed_on _ _ c.open.ensures.head _ e _ c.from_residual.ensures.1) (no_graph (clean_no_head _ _ c.open.ensures.head _ e))

pub returns-then-not-g : goal.returns-then-not-g
returns-then-not-g c = no_graph (clean_not_rebuilt _ _ c.open.ensures.head _ (ap head_in c.in_ok-g.was) c.if-not-g.true)

pub returns : goal.returns
returns c = a_graph _ (clean_read _ _ c.open.ensures.head _ (ap head_in c.in_ok-g.was) c.if-not-g.false) (c.open.ensures.words _ c.in_ok-g.was)
