use mathlib.Core.Path.{sym}
use Rattle.std.proofs.lemmas.List.{take-map}
use Rattle.language.specs.Struct.{node_of}
use Rattle.language.proofs.Node.children.Goals as goal

pub returns : goal.returns
unfolding node_of
returns c = sym (take-map _ _ _)
