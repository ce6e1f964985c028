use Rattle.script.specs.Puts.{form_done}
use Rattle.script.proofs.replies.put_form.Goals as goal

pub returns : goal.returns
returns c = form_done c.args.size c.args.words.now c.put-a.ensures c.put_word-b.ensures.wrote c.put_words-c.ensures.wrote c.put.ensures
