use Rattle.egraph.specs.Answers.{head_refused, opened}
use Rattle.egraph.specs.Reads.{count_open}
use Rattle.egraph.proofs.reads.number_of_classes.Goals as goal

pub returns-in_err-h : goal.returns-in_err-h
returns-in_err-h c = head_refused _ _ _ c.read_head.ensures _ c.in_err-h.was _ c.from_residual.ensures.1

pub returns : goal.returns
returns c = opened _ _ c.read_head.ensures _ c.in_ok-h.was (λ p. count_open _ _ p)
