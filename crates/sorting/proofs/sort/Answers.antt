use Rattle.std.proofs.Common.{List, Ok, rules, subst, ℕ}
use Rattle.sorting.specs.Promise.{Sorts, whole_area, sorts_done}
use Rattle.sorting.proofs.sort.Goals as goal

pub returns : goal.returns
returns c =
    let below = rw c.need-base.ensures at (c.are_ids.ensures.holds c.if-not-are_ids.false) in
    let run = rw c.need-base.ensures at c.sort_run.ensures.did in
    let sorted = sorts_done _ _ _ _ _ _ (whole_area _ _ _ _ c.requires.0 c.requires.1 below) run in
    subst (λ (ws : List ℕ). Sorts c.args.ws.now ws c.args.n c.args.m c.args.k (Ok c.sort_run.result)) (search rules) sorted
