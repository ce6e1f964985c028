use mathlib.Core.Path.{◌≡◌}
use Prim.Native.Nat.{◌-◌}
use Rattle.taking.specs.Drain.{Going}
use Rattle.taking.proofs.drains.drain_within.Given as goal

abbrev pub invariant-loop-taken : goal.invariant-loop-taken
invariant-loop-taken l =
    (l.g.ws.ghost_name ≡ l.initial.g.ws.ghost_name) × Going l.initial.g.h l.fuel l.initial.g.ws.now l.g.h l.g.ws.now (l.fuel - l.taken) l.yes l.taken
