use Rattle.language.proofs.Sized.{sized}
use Rattle.language.specs.Methods.{ordered}
use Rattle.language.proofs.Node.order.Goals as goal

pub returns : goal.returns
returns c = let f = sized _ c.well_formed.0 in
    let g = sized _ c.well_formed.1.0 in
    rw c.cmp.ensures (ordered c.args.self c.args.other f g c.requires.0 c.requires.1 _ _ c.children.ensures c.children-2.ensures)
