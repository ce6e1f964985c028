use mathlib.Core.Path.{◌≡◌}
use Prim.Native.Nat.{◌<◌, ◌-◌}
use Rattle.cells.specs.Trail.{trail}
use Rattle.cells.proofs.Pool.walk.Given as goal

-- `walk` meets its contract: after some steps, at c, what is left of the trail is the whole trail.
-- Assumes nothing.
abbrev pub invariant-loop-taken : goal.invariant-loop-taken
invariant-loop-taken l = (l.c < l.self.cells) × (trail l.self.ws.now l.self.lists l.self.cells l.k l.cell ≡ trail l.self.ws.now l.self.lists l.self.cells (l.k - l.taken) l.c)
