use native.Mathlib.Omega.{arith}
use Rattle.cells.specs.Changes.{push_done, push_broken}
use Rattle.cells.proofs.push.Goals as goal

pub returns-then-size-cells : goal.returns-then-size-cells
returns-then-size-cells c = push_broken _ _ _ _ _ c.requires.room c.requires.list_lt_lists.0 c.requires.list_lt_lists.1 (omega arith)

pub returns : goal.returns
returns c = rw c.choose-first.ensures (push_done _ _ _ _ _ c.requires.room c.requires.list_lt_lists.0 c.requires.list_lt_lists.1 (omega arith))
