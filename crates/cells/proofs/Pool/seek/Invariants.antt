use Prim.Native.Nat.{◌-◌}
use Rattle.cells.specs.Cuts.{Going}
use Rattle.cells.proofs.Pool.seek.Given as goal

-- `seek` meets its contract: the search goes on from where it stands.
-- Assumes nothing.
abbrev pub invariant-loop-passed : goal.invariant-loop-passed
invariant-loop-passed l = Going l.self.ws.now l.self.lists l.self.cells l.list l.cell (l.size - l.passed) l.spot l.after
