use Rattle.uniting.specs.Joining.{join_first, join_second}
use native.Mathlib.Omega.{arith}
use Rattle.uniting.proofs.join_roots.Goals as goal

pub returns-then-x-y-clause-says : goal.returns-then-x-y-clause-says
returns-then-x-y-clause-says c =
    let s = c.view-seen.ensures in
    join_second _ _ _ _ c.args.g.now.ok c.requires _ _ (rw (s.0, s.1) at c.len-x.ensures) (rw (s.0, s.1) at c.len-y.ensures) _ _ c.if-x-y.true c.merge.ensures.says

pub returns-else-x-y-clause-says : goal.returns-else-x-y-clause-says
returns-else-x-y-clause-says c =
    let s = c.view-seen.ensures in
    join_first _ _ _ _ c.args.g.now.ok c.requires _ _ (rw (s.0, s.1) at c.len-x.ensures) (rw (s.0, s.1) at c.len-y.ensures) _ _ (omega (arith, c.if-x-y.false)) c.merge-else-x-y.ensures.says
