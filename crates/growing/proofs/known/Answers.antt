use Rattle.std.proofs.Common.{rules, tests, ◌<◌, ◌≤◌}
use Rattle.std.proofs.lemmas.Iterator.{YieldsList-from_slice, cases_from_all}
use Rattle.language.specs.Fitting.{term}
use Rattle.growing.specs.Known.{says_known}
use Rattle.growing.proofs.known.Goals as goal

pub returns : goal.returns
returns c =
    let run = cases_from_all _ _ _ (λ k. k.0 < c.args.ids) (λ k. c.args.ids ≤ k.0) c.all.ensures.ran (YieldsList-from_slice c.children.result.now cc)
    (λ k q z. search (rules, tests)) (λ k q z. search (rules, tests)) in
    says_known (term c.args.fit) c.args.ids c.children.result.now c.children.ensures _ run
