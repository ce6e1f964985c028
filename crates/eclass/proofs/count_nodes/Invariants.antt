use mathlib.Core.Path.{◌≡◌}
use Prim.Native.Nat.{◌≤◌}
use Rattle.layout.specs.Seen.{seen}
use Rattle.eclass.specs.ClassCount.{total_of}
use Rattle.eclass.proofs.count_nodes.Given as goal

abbrev pub invariant-loop-i : goal.invariant-loop-i
invariant-loop-i l = (l.total ≤ l.g.h.ids) × (l.total ≡ total_of (seen l.g).members l.g.h.n l.i)
