use Rattle.std.proofs.Common.{Ok, arith, refl}
use Rattle.marking.specs.Marks.{next_not, next_there, none_left}
use Rattle.marking.proofs.over.Goals as goal

pub returns-in_err-id : goal.returns-in_err-id
returns-in_err-id c = next_not _ _ _ _ _ _ c.loop-child.invariant.1 _ c.loop-child-test.true c.in_err-id.was _ c.from_residual.ensures.1

pub loop-child-preserved : goal.loop-child-preserved
loop-child-preserved c = (omega arith, rw c.with-node.ensures.1 (next_there _ _ _ _ _ _ c.loop-child.invariant.1 _ c.loop-child-test.true c.in_ok-id.was))

pub returns : goal.returns
returns c = none_left _ _ _ _ c.loop-child.child-index (Ok (record { 0 = 0 })) c.loop-child.invariant.1 (omega arith) _ _
    (record { node = _; is = refl; says = c.add.ensures })
