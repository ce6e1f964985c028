use mathlib.Core.Path.{◌≡◌}
use Prim.Native.Nat.{◌+◌, ◌≤◌}
use lib.ListN.{length}
use Rattle.layout.specs.Seen.{seen}
use Rattle.eclass.specs.ClassWalk.{Walk}
use Rattle.eclass.specs.Lists.{Ahead, Placing}
use Rattle.eclass.proofs.listing.put_members.Given as goal

abbrev pub invariant-loop-id : goal.invariant-loop-id
invariant-loop-id l = (l.start ≤ l.place + l.w) × (length l.out ≡ length l.fn.out) × Ahead (seen l.classes.g).rows l.classes.g.h.n l.classes.g.h.m l.place l.id-iterator l.start × Walk (seen l.classes.g).members l.classes.g.h.n l.fn.r.0 l.id-iterator (Placing (seen l.classes.g).rows l.classes.g.h.n l.classes.g.h.m l.fn.out l.out l.start (l.place + l.w))
