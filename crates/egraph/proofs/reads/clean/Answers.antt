use Rattle.egraph.specs.Answers.{head_refused, opened}
use Rattle.egraph.specs.Reads.{clean_open}
use Rattle.egraph.proofs.reads.clean.Goals as goal

pub returns-in_err-h : goal.returns-in_err-h
returns-in_err-h c = head_refused _ _ _ c.read_head.ensures _ c.in_err-h.was _ c.from_residual.ensures.1

pub returns : goal.returns
returns c = opened _ _ c.read_head.ensures _ c.in_ok-h.was (λ p. clean_open _ _ p)
