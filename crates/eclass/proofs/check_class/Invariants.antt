use Prim.Native.Nat.{◌-◌}
use Rattle.layout.specs.Seen.{seen}
use Rattle.eclass.specs.ClassWalk.{Walk, back}
use Rattle.eclass.specs.Checks.{AllFine}
use Rattle.eclass.proofs.check_class.Given as goal

abbrev pub invariant-loop-passed : goal.invariant-loop-passed
invariant-loop-passed l = Walk (seen l.g).members l.g.h.n l.fn.r.0 (back (seen l.g).members l.g.h.n (l.size - l.passed) l.id.0) (AllFine (seen l.g).rows l.g.h.n l.g.h.m l.g.h.ids)
