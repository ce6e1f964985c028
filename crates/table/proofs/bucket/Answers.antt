use native.Mathlib.Omega.{arith}
use Rattle.table.specs.Buckets.{product_low, lands}
use Rattle.table.proofs.bucket.Goals as goal

pub overflow_mul-r : goal.overflow_mul-r
overflow_mul-r c = omega (arith, product_low c.hash-h.result c.args.n (omega arith) c.requires.1)

pub returns : goal.returns
returns c = lands _ _ _ c.hash-h.ensures (omega arith) c.requires.0
