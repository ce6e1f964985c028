use Rattle.std.proofs.Common.{Ok, ap, ◌∙◌}
use Rattle.broken.specs.Words.{is_broken}
use Rattle.pricing.specs.Best.{better_unread, better_broken, better_none, better_priced}
use Rattle.pricing.proofs.better.Goals as goal

pub returns-in_err-key : goal.returns-in_err-key
returns-in_err-key c = rw (is_broken _ c.from_residual.ensures.0) (better_unread _ _ _ _ _ c.root_node.ensures c.in_err-key.was)

pub returns-in_err-node_total_cost : goal.returns-in_err-node_total_cost
returns-in_err-node_total_cost c = rw (is_broken _ c.from_residual-in_err-node_total_cost.ensures.0) (better_broken _ _ _ _ _ c.root_node.ensures _ c.in_ok-key.was _ c.node_total_cost.ensures c.in_err-node_total_cost.was)

pub returns-in-None : goal.returns-in-None
returns-in-None c = better_none _ _ _ _ _ c.root_node.ensures _ c.in_ok-key.was _ c.node_total_cost.ensures c.requires.1 (c.in_ok-node_total_cost.was ∙ ap Ok c.in-None.is)

pub returns-in-Some : goal.returns-in-Some
returns-in-Some c = better_priced _ _ _ _ _ c.root_node.ensures _ c.in_ok-key.was _ c.node_total_cost.ensures _ _ c.requires.0 c.requires.1 (c.in_ok-node_total_cost.was ∙ ap Ok c.in-Some.is) c.choose.ensures
