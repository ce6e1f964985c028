use mathlib.Core.Path.{refl}
use Rattle.language.specs.Struct.{node_of_more}
use Rattle.language.proofs.Sized.{sized}
use Rattle.language.proofs.Node.with.Goals as goal

pub returns : goal.returns
returns c = (refl, node_of_more c.args.self c.args.id (sized c.args.self c.well_formed.0) c.requires)
