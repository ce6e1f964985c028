use Prim.Native.Nat.{◌≤◌}
use Rattle.std.proofs.Common.{length}
use Rattle.cost.proofs.building.unions.Given as goal

abbrev pub invariant-loop-a : goal.invariant-loop-a
invariant-loop-a g l = l.yes ≤ length l.yielded
