use Rattle.language.proofs.Sized.{sized}
use Rattle.language.specs.Methods.{matched}
use Rattle.language.proofs.Node.matches.Goals as goal

pub returns : goal.returns
returns c = matched c.args.self c.args.other (sized _ c.well_formed.0) (sized _ c.well_formed.1.0) c.requires.0 c.requires.1 _ c.eq.ensures
