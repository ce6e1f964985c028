use Rattle.std.proofs.Common.{◌≡◌, ◌+◌}
use Rattle.std.specs.Iterator.Adapters.{take_count}
use Rattle.trial_parts.proofs.nodes.some_node.Given as goal

abbrev pub invariant-loop-x : goal.invariant-loop-x
invariant-loop-x l = l.node.count + take_count l.x-iterator ≡ l.count
