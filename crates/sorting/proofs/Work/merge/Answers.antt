use native.Mathlib.Omega.{arith}
use Rattle.sorting.specs.Did.{did_as, did_none}
use Rattle.sorting.specs.Merge.{going_start, going_left, going_right, going_turn, going_end}
use Rattle.sorting.proofs.Work.merge.Goals as goal

pub loop-rest-init : goal.loop-rest-init
loop-rest-init c = did_none (going_start _ _ _ _ _ _)

pub next-turn-requires : goal.next-turn-requires
next-turn-requires c = let w = c.loop-rest.invariant in
    rw (w.n, w.m)
    record {
      front = omega arith;
      ordered = omega arith;
      room = omega arith;
      some = omega arith;
      left_ids = going_left _ _ _ _ _ _ _ _ _ _ c.requires w.did;
      right_ids = going_right _ _ _ _ _ _ _ _ _ _ c.requires w.did;
    }

pub loop-rest-preserved : goal.loop-rest-preserved
loop-rest-preserved c = let w = c.loop-rest.invariant in
    record {
      loan = w.loan;
      n = w.n;
      m = w.m;
      did = going_turn _ _ _ _ _ _ _ _ _ _ c.requires w.did _ c.next-turn.ensures.shorter (rw (w.n, w.m) at c.next-turn.ensures.step);
    }

pub returns : goal.returns
returns c = let w = c.loop-rest.invariant in
    did_as w (going_end _ _ _ _ _ _ _ _ _ _ (omega arith) w.did)
