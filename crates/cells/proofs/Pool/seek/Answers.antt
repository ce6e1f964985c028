use Rattle.std.proofs.Common.{◌≡◌, ◌+◌, ◌-◌, arith}
use Rattle.cells.specs.Cuts.{seen_long, going_step, seen_stray}
use Rattle.cells.proofs.Pool.seek.Goals as goal

pub returns-then-size-self : goal.returns-then-size-self
returns-then-size-self c = seen_long _ _ _ _ _ c.requires (omega arith)

pub returns-then-cur-self : goal.returns-then-cur-self
returns-then-cur-self c = seen_stray _ _ _ _ _ c.requires _ _ _ c.loop-passed.invariant (omega arith) (omega arith)

pub loop-passed-preserved : goal.loop-passed-preserved
loop-passed-preserved c =
    let left : c.len-size.result - (c.loop-passed.passed + 1) ≡ c.len-size.result - c.loop-passed.passed - 1 = omega arith in
    rw left (going_step _ _ _ _ _ c.requires _ _ _ c.loop-passed.invariant (omega arith) (omega arith) c.if-cur-cell.false)
