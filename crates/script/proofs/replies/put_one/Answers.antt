use Rattle.script.specs.Puts.{wrote_join}
use Rattle.script.proofs.replies.put_one.Goals as goal

pub returns : goal.returns
returns c = wrote_join (wrote_join c.put-a.ensures c.put_word-b.ensures.wrote) c.put.ensures
