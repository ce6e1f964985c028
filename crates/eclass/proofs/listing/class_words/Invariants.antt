use Prim.Native.Nat.{◌*◌, ◌+◌, ◌≤◌}
use lib.ListN.{length}
use Rattle.layout.specs.Seen.{seen}
use Rattle.eclass.specs.ClassWalk.{Walk, len_of}
use Rattle.eclass.specs.Lists.{Measuring}
use Rattle.eclass.proofs.listing.class_words.Given as goal

abbrev pub invariant-loop-id : goal.invariant-loop-id
invariant-loop-id l = (l.total + 11 * length l.id-iterator ≤ 11 * len_of (seen l.classes.g).members l.classes.g.h.n l.fn.r.0) × Walk (seen l.classes.g).members l.classes.g.h.n l.fn.r.0 l.id-iterator (Measuring (seen l.classes.g).rows l.classes.g.h.n l.classes.g.h.m l.total)
