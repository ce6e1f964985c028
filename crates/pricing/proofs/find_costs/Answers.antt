use mathlib.Core.Path.{◌∙◌, ap}
use Rattle.std.specs.Prelude.{Ok}
use native.Mathlib.Omega.{arith}
use Rattle.broken.specs.Words.{is_broken}
use Rattle.layout.specs.Did.{did_as, did_none, did_then}
use Rattle.pricing.specs.Costs.{costs_broken, costs_done, costs_long, costs_out, finding_more, finding_start}
use Rattle.pricing.proofs.find_costs.Goals as goal

pub returns-in_err-count_nodes : goal.returns-in_err-count_nodes
returns-in_err-count_nodes c =
    let count = rw (c.view.ensures.0, c.view.ensures.1) at c.count_nodes.ensures in
    rw (is_broken _ c.from_residual.ensures.0) (did_none (costs_long _ _ _ count c.in_err-count_nodes.was))

pub loop-round-init : goal.loop-round-init
loop-round-init c = did_none (finding_start _ _)

pub returns-in_err-pass : goal.returns-in_err-pass
returns-in_err-pass c =
    let d = c.loop-round.invariant in
    let pass = rw d.head at c.pass.ensures.did in
    rw (is_broken _ c.from_residual-in_err-pass.ensures.0) (did_then d c.pass.ensures (costs_broken _ _ _ _ _ d.did _ pass c.in_err-pass.was))

pub returns-then-not-branch : goal.returns-then-not-branch
returns-then-not-branch c =
    let d = c.loop-round.invariant in
    let pass = rw d.head at c.pass.ensures.did in
    did_then d c.pass.ensures (costs_done _ _ _ _ _ d.did _ pass (c.in_ok-pass.was ∙ ap Ok c.if-not-branch.true))

pub loop-round-preserved : goal.loop-round-preserved
loop-round-preserved c =
    let d = c.loop-round.invariant in
    let pass = rw d.head at c.pass.ensures.did in
    did_then d c.pass.ensures (finding_more _ _ _ _ _ d.did _ pass (c.in_ok-pass.was ∙ ap Ok c.if-not-branch.false))

pub returns : goal.returns
returns c = let d = c.loop-round.invariant in did_as d (costs_out _ _ _ _ (omega arith) d.did)
