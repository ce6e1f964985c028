use Rattle.rows.specs.Promise.{reads_done}
use Rattle.rows.proofs.Indexes.{count_at, first_at}
use native.Mathlib.Omega.{arith}
use Rattle.rows.proofs.Nodes.row.Goals as goal

pub returns : goal.returns
returns c = let few = rw count_at at c.if-count-gt-PLACES.false in
    let room = rw (first_at, count_at) at c.if-first-count.false in
    reads_done _ _ _ _ _ _ (omega arith) (few, room) (rw (count_at, first_at) at c.over-node.ensures.1)
