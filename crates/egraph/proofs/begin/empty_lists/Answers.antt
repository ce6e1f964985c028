use Rattle.std.proofs.Common.{◌∙◌}
use Rattle.layout.specs.Did.{did_as, did_both}
use Rattle.egraph.specs.Setup.{emptied}
use Rattle.egraph.proofs.begin.empty_lists.Goals as goal

pub returns : goal.returns
returns c =
    let U = c.clear.ensures in
    let M = c.clear-2.ensures in
    let T = c.clear-3.ensures in
    did_as (did_both (did_both U M) T) (emptied _ _ _ _ _ _ U.did (rw U.head at M.did) (rw (M.head ∙ U.head) at T.did))
