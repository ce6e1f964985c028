use mathlib.Core.Path.{◌∙◌}
use Rattle.std.proofs.Common.{rules, subst}
use Rattle.layout.specs.Written.{Noted, fresh_head}
use Rattle.egraph.specs.Setup.{set_up}
use Rattle.egraph.proofs.begin.set_up.Goals as goal

pub returns : goal.returns
returns c =
    let E = c.empty_lists.ensures in
    let H = E.head ∙ c.fresh-h.ensures in
    let N = subst (λ ws. Noted ws c.fresh_head.new.ws (fresh_head c.args.n c.args.m)) (search rules) c.fresh_head.ensures in
    set_up _ _ _ _ _ _ c.requires.limits c.requires.m_in_bounds (rw c.fresh-h.ensures at E.did) (rw H at c.clear_scratch.ensures.did) N
