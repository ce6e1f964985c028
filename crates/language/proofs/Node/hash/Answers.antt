use mathlib.Core.Path.{◌≡◌}
use borrow.Author.Rules.{rules}
use Rattle.std.specs.List.{fold}
use Rattle.language.specs.Hashed.{mixed}
use Rattle.language.specs.Methods.{hashed}
use Rattle.language.proofs.Sized.{sized}
use Rattle.language.proofs.Node.hash.Goals as goal

pub returns : goal.returns
returns c = let e : c.fold.result ≡ fold (λ h k. mixed h k.0) c.mix-start.result c.children.result.now = search rules in
    rw (e, c.mix-start.ensures, c.mix-2.ensures, c.mix.ensures) (hashed c.args.self (sized _ c.well_formed.0) c.requires _ c.children.ensures)
