use mathlib.Core.Path.{◌≡◌}
use Prim.Native.Nat.{◌*◌, ◌≤◌}
use lib.ListN.{length}
use Rattle.spelling.specs.Pieces.{pieces}
use Rattle.layout.specs.Seen.{seen}
use Rattle.forming.specs.Form.{FineForm}
use Rattle.forming.specs.FormNode.{form_piece}
use Rattle.forming.proofs.measure_form.Given as goal

abbrev pub invariant-loop-p : goal.invariant-loop-p
invariant-loop-p l =
    let v = seen l.g in
    (l.total ≡ length (pieces (form_piece l.g.h v) l.p)) × (l.total ≤ 11 * l.p) × FineForm l.g.h v l.p
