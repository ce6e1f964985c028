use Rattle.std.proofs.Common.{◌≡◌, ◌+◌, ◌-◌, arith}
use Rattle.sorting.specs.Did.{did_none}
use Rattle.sorting.specs.Join.{joins_ready, joins_merged}
use Rattle.sorting.proofs.Work.join.Goals as goal

pub returns-then-meets : goal.returns-then-meets
returns-then-meets c = did_none (joins_ready _ _ _ _ _ (c.meets.ensures c.if-meets.true))

pub returns : goal.returns
returns c =
    let d = c.merge-d.ensures in
    let copied : c.args.pair.left.start + c.args.self.now.n + c.merge-d.result - (c.args.pair.left.start + c.args.self.now.n) ≡ c.merge-d.result = omega arith in
    record {
      loan = d.loan;
      n = d.n;
      m = d.m;
      did = joins_merged _ _ _ _ _ _ _ _ c.requires d.did c.copy_within.ensures.len (rw copied at c.copy_within.ensures.by_index);
    }
