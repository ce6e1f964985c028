use native.Mathlib.Omega.{arith}
use Rattle.taking.specs.Take.{last_broken, last_done}
use Rattle.taking.proofs.takes.take_last.Goals as goal

pub returns-then-h-place-clause-says : goal.returns-then-h-place-clause-says
returns-then-h-place-clause-says c = last_broken _ _ c.args.g.now.ok _ _ (c.requires.0, c.requires.1) (omega arith)

pub returns-clause-says : goal.returns-clause-says
returns-clause-says c =
    let s = c.view-seen.ensures in
    rw c.hand.ensures.words
    (last_done _ _ c.args.g.now.ok _ _ (c.requires.0, c.requires.1) _ _ _ _ _ (rw (s.0, s.1) at c.owner-id.ensures) (rw (s.0, s.1) at c.link-before.ensures) c.push_stretch-depth.ensures.did (rw c.push_stretch-depth.ensures.head at c.hand.ensures.hands))
