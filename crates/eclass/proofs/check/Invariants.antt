use Prim.Native.Nat.{◌<◌, ℕ}
use Rattle.layout.specs.Seen.{seen}
use Rattle.eclass.specs.ClassWalk.{Fine}
use Rattle.eclass.proofs.check.Given as goal

abbrev pub invariant-loop-i : goal.invariant-loop-i
invariant-loop-i l = (r : ℕ) → r < l.i → Fine (seen l.g).members (seen l.g).rows l.g.h.n l.g.h.m l.g.h.ids r
