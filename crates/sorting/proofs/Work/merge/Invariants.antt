use Prim.Native.Nat.{◌+◌}
use Rattle.sorting.specs.Did.{Did}
use Rattle.sorting.specs.Merge.{Going}
use Rattle.sorting.proofs.Work.merge.Given as goal

abbrev pub invariant-loop-rest : goal.invariant-loop-rest
invariant-loop-rest l = Did (λ ws us n m. Going ws us n m l.fn.pair.left l.fn.pair.right l.to l.rest.left l.rest.right l.d) l.fn.self l.self

abbrev pub decreases-loop-rest : goal.decreases-loop-rest
decreases-loop-rest l = l.rest.left.len + l.rest.right.len
