use Prim.Native.Nat.{◌≤◌}
use Rattle.cost.proofs.building.nodes.Given as goal

abbrev pub invariant-loop : goal.invariant-loop
invariant-loop g l = 1 ≤ l.b.ids
