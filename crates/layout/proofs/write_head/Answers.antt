use native.Mathlib.Omega.{arith}
use Rattle.layout.specs.Written.{noted_written}
use Rattle.layout.proofs.write_head.Goals as goal

pub returns : goal.returns
returns c = noted_written _ _ _ _ (omega arith) c.copy_from_slice.ensures.after c.from.ensures
