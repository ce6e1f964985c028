use Rattle.script.specs.Verbs.{verbs_table, verb_of_word}
use Rattle.script.proofs.verbs.verb_of.Goals as goal

pub returns : goal.returns
unfolding verb_of_word verbs_table
returns c = c.row_of.ensures
