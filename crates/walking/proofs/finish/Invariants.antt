use Prim.Native.Nat.{◌*◌, ◌+◌, ◌-◌, ◌≤◌}
use Rattle.layout.specs.Did.{Did}
use Rattle.walking.specs.Walk.{Walking}
use Rattle.walking.proofs.finish.Given as goal

abbrev pub invariant-loop-at : goal.invariant-loop-at
invariant-loop-at l =
    let h = l.initial.g.h in
    (l.at.listed ≤ h.n) × (l.at.depth ≤ h.n) × Did (Walking h l.at.listed l.at.depth) l.initial.g l.g

abbrev pub decreases-loop-at : goal.decreases-loop-at
decreases-loop-at l = 3 * l.initial.g.h.n - (2 * l.at.listed + l.at.depth)
