use Rattle.unionfind.specs.Words.{halve}
use lib.ListN.{length}
use Prim.Native.Nat.{◌<◌, ◌-◌}
use mathlib.Core.Path.{◌≡◌}
use Rattle.unionfind.proofs.find_mut.Given as goal

abbrev pub invariant-loop-followed : goal.invariant-loop-followed
invariant-loop-followed l = (l.current < l.ids) × (length l.ps ≡ length l.initial.ps) × (halve l.initial.ps l.ids l.ids l.id ≡ halve l.ps l.ids (l.ids - l.followed) l.current)
