use mathlib.Core.Path.{◌≡◌}
use Prim.Native.Nat.{◌<◌, ◌≤◌, ◌*◌, ℕ}
use lib.ListN.{length}
use Rattle.layout.specs.Seen.{seen}
use Rattle.rows.specs.Read.{Sane}
use Rattle.spelling.specs.Pieces.{pieces}
use Rattle.egraph.specs.Stored.{row_piece}
use Rattle.egraph.proofs.listing.measure.Given as goal

abbrev pub invariant-loop-i : goal.invariant-loop-i
invariant-loop-i l = (l.total ≡ length (pieces (row_piece (seen l.g).rows l.g.h.n l.g.h.m) l.i)) × (l.total ≤ 11 * l.i) × ((j : ℕ) → j < l.i → Sane (seen l.g).rows l.g.h.n l.g.h.m j)
