use Prim.Native.Nat.{◌<◌, ◌^◌}
use Rattle.layout.specs.Did.{Did}
use Rattle.tidying.specs.Copy.{CopiedTo}
use Rattle.tidying.proofs.copy.Given as goal

abbrev pub invariant-loop-place : goal.invariant-loop-place
invariant-loop-place l = (l.id.0 < 2 ^ 32) × Did (CopiedTo l.fn.g.h.n l.fn.g.h.m l.fn.list.0 l.k l.place l.id.0) l.fn.g l.g
