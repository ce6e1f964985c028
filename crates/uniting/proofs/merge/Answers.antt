use Rattle.broken.specs.Words.{is_broken}
use Rattle.uniting.specs.Merging.{merge_done, merge_full, merge_members, merge_none, merge_uses}
use native.Mathlib.Omega.{arith}
use Rattle.uniting.proofs.merge.Goals as goal

pub returns-then-g-depth-clause-says : goal.returns-then-g-depth-clause-says
returns-then-g-depth-clause-says c = merge_full _ _ _ _ c.args.g.now.ok c.requires (omega arith)

pub returns-then-g-eq0-clause-says : goal.returns-then-g-eq0-clause-says
returns-then-g-eq0-clause-says c = merge_none _ _ _ _ c.args.g.now.ok c.requires (omega arith)

pub returns-in_err-join-clause-says : goal.returns-in_err-join-clause-says
returns-in_err-join-clause-says c = rw (is_broken _ c.from_residual.ensures.0) (merge_uses _ _ _ _ c.args.g.now.ok c.requires _ _ c.join.ensures.did c.in_err-join.was)

pub returns-in_err-join-2-clause-says : goal.returns-in_err-join-2-clause-says
returns-in_err-join-2-clause-says c =
    rw (is_broken _ c.from_residual-in_err-join-2.ensures.0)
    (merge_members _ _ _ _ c.args.g.now.ok c.requires _ _ c.join.ensures.did _ _ _ _ _ _ (rw c.join.ensures.head at c.push_stretch-depth.ensures.did) (rw (c.push_stretch-depth.ensures.head, c.join.ensures.head) at c.join-2.ensures.did) c.in_err-join-2.was)

pub returns-clause-says : goal.returns-clause-says
returns-clause-says c =
    let e1 = c.join.ensures.head in
    let e2 = c.push_stretch-depth.ensures.head in
    let e3 = c.join-2.ensures.head in
    let s = c.view-seen.ensures in
    rw (c.union.ensures.head, e3, e2, e1)
    (merge_done _ _ _ _ c.args.g.now.ok c.requires _ _ c.join.ensures.did _ _ _ _ _ _ (rw e1 at c.push_stretch-depth.ensures.did) (rw (e2, e1) at c.join-2.ensures.did) _ (omega arith) (rw (s.0, s.1) at c.last-last.ensures) (rw (s.0, s.1) at c.len-count.ensures) (rw (e3, e2, e1) at c.union.ensures.did))
