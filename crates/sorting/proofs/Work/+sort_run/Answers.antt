use native.Mathlib.Omega.{arith}
use Rattle.sorting.specs.Did.{did_as, did_both, did_none}
use Rattle.sorting.specs.Run.{run_short}
use Rattle.sorting.specs.Join.{run_second, run_near, run_join}
use Rattle.sorting.proofs.Work.+sort_run.Goals as goal

pub returns-then-k-lt2 : goal.returns-then-k-lt2
returns-then-k-lt2 t c = did_none (run_short _ _ _ _ _ (omega arith))

pub sort_run-b-requires : goal.sort_run-b-requires
sort_run-b-requires t c =
    let a = c.sort_run-a.ensures in
    (omega arith, rw (a.n, a.m) (run_second _ _ _ _ _ _ _ _ _ c.requires (omega arith) a.did))

pub join-requires : goal.join-requires
join-requires t c =
    let a = c.sort_run-a.ensures in
    let b = did_both a c.sort_run-b.ensures in
    rw (b.n, b.m) (run_near _ _ _ _ _ _ _ _ _ c.requires (omega arith) a.did _ _ b.did.1)

pub returns : goal.returns
returns t c =
    let a = c.sort_run-a.ensures in
    let b = did_both a c.sort_run-b.ensures in
    let d = did_both b c.join.ensures in
    did_as d (run_join _ _ _ _ _ _ _ _ _ c.requires (omega arith) a.did _ _ b.did.1 _ _ d.did.1)
