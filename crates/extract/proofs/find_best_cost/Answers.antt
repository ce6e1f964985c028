use Rattle.std.proofs.Common.{rules, subst}
use Rattle.broken.specs.Words.{error_is}
use Rattle.extract.specs.Cost.{CostSays, cost_done, cost_refused}
use Rattle.extract.proofs.find_best_cost.Goals as goal

pub returns-in_err-h : goal.returns-in_err-h
returns-in_err-h c = rw (error_is _ _ c.from_residual.ensures.1) (cost_refused _ _ _ (c.open.ensures.bad _ c.in_err-h.was))

pub invariant_of-g : goal.invariant_of-g
invariant_of-g c = record { ok = (c.open.ensures.good _ c.in_ok-h.was).head_is.ok }

pub work_out-answer-requires : goal.work_out-answer-requires
work_out-answer-requires c = (c.open.ensures.good _ c.in_ok-h.was).known

pub returns : goal.returns
returns c =
    let work = c.work_out-answer.ensures in
    let done = cost_done _ _ _ (c.open.ensures.good _ c.in_ok-h.was) _ _ _ work.did (rw work.head at c.clear_scratch.ensures.did) in
    subst (CostSays _ _ _) (search rules) done
