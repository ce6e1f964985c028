use Rattle.egraph.specs.Answers.{opens}
use Rattle.egraph.proofs.read_head.Goals as goal

pub returns : goal.returns
returns c = opens _ _ _ c.read_head.ensures c.ok_or.ensures.value
