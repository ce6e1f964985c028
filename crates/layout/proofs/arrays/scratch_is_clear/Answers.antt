use native.Mathlib.Omega.{arith}
use borrow.Author.Rules.{rules}
use borrow.Author.Tests.{tests}
use Rattle.std.proofs.Common.{◌≡◌, ◌≢◌, ◌*◌, length}
use Rattle.std.proofs.lemmas.Iterator.{YieldsList-from_slice, cases_from_all}
use Rattle.lists.specs.Parts.{part}
use Rattle.layout.proofs.Lent.{seen_range}
use Rattle.layout.proofs.Zero.{all_zero}
use Rattle.layout.proofs.arrays.scratch_is_clear.Goals as goal

pub returns : goal.returns
returns c =
    let l = part c.args.g.now.ws.now c.scratch.result.start c.scratch.result.end in
    let size : length l ≡ 6 * c.args.g.now.h.n = grind arith in
    rw (seen_range c.args.g.now.ws.now c.scratch.ensures, ← size)
    (all_zero _ l
    (cases_from_all _ _ _ (λ x. x ≡ 0) (λ x. x ≢ 0) c.all.ensures.ran (YieldsList-from_slice l cc)
    (λ x q k. search (rules, tests)) (λ x q k. search (rules, tests))))
