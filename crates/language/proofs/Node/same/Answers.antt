use Rattle.language.specs.Methods.{equal}
use Rattle.language.proofs.Node.same.Goals as goal

pub returns-then-matches : goal.returns-then-matches
returns-then-matches c = equal _ _ _ _ (c.matches.ensures.holds c.if-matches.true) c.children.ensures c.children-then-matches.ensures _ c.eq.ensures
