use borrow.Author.Rules.{rules}
use Rattle.language.specs.Struct.{node_of}
use Rattle.language.proofs.Node.leaf.Goals as goal

pub returns : goal.returns
unfolding node_of
returns c = search rules
