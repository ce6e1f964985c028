use native.Mathlib.Omega.{arith}
use Rattle.cells.specs.Changes.{join_idle, join_long, join_done}
use Rattle.cells.proofs.join.Goals as goal

pub returns-then-more-eq0 : goal.returns-then-more-eq0
returns-then-more-eq0 c = let s = c.requires.stay_lt_lists in join_idle _ _ _ _ _ c.requires.room s.0 s.1 s.2 (omega arith)

pub returns-then-size-more : goal.returns-then-size-more
returns-then-size-more c = let s = c.requires.stay_lt_lists in join_long _ _ _ _ _ c.requires.room s.0 s.1 s.2 (omega arith) (omega arith)

pub returns : goal.returns
returns c = let s = c.requires.stay_lt_lists in
    rw c.choose-first.ensures (join_done _ _ _ _ _ c.requires.room s.0 s.1 s.2 (omega arith) (omega arith) (omega arith))
