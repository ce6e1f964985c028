use native.Mathlib.Omega.{arith}
use Rattle.std.proofs.Common.{length-take-le, sym}
use Rattle.layout.specs.Written.{noted_fresh}
use Rattle.layout.proofs.fresh_head.Goals as goal

pub slice_bounds-fill-end-2 : goal.slice_bounds-fill-end-2
slice_bounds-fill-end-2 c = sym (length-take-le 32 _ (omega arith))

pub returns : goal.returns
returns c = noted_fresh _ c.fill.new.self _ _ _ (omega arith) (c.fill.ensures.after (λ y e. e)) (rw c.fresh.ensures at c.write_head.ensures)
