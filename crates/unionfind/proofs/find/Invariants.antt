use Rattle.unionfind.specs.Words.{find_in}
use Prim.Native.Nat.{◌<◌, ◌-◌}
use mathlib.Core.Path.{◌≡◌}
use Rattle.unionfind.proofs.find.Given as goal

abbrev pub invariant-loop-followed : goal.invariant-loop-followed
invariant-loop-followed l = (l.current < l.ids) × (find_in l.ps l.ids l.ids l.id ≡ find_in l.ps l.ids (l.ids - l.followed) l.current)
