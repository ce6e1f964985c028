use mathlib.Core.Path.{ap}
use native.Mathlib.Omega.{arith}
use Rattle.broken.specs.Words.{error_is}
use Rattle.egraph.specs.Answers.{head_in}
use Rattle.egraph.specs.Listing.{nodes_broken, nodes_fit, nodes_listed, nodes_long, nodes_on, nodes_shut}
use Rattle.egraph.proofs.listing.nodes.Goals as goal

pub returns-in_err-g : goal.returns-in_err-g
returns-in_err-g c = rw (error_is _ _ c.from_residual.ensures.1) (nodes_shut _ _ _ c.open.ensures.head _ (ap head_in c.in_err-g.was))

pub returns-in_err-k : goal.returns-in_err-k
returns-in_err-k c =
    let o = c.open.ensures.head.good _ (ap head_in c.in_ok-g.was) in
    let M = rw (c.open.ensures.words _ c.in_ok-g.was) at c.measure.ensures in
    rw (error_is _ _ c.from_residual-in_err-k.ensures.1) (nodes_on _ _ o _ _ (nodes_broken _ _ o _ _ M _ c.in_err-k.was))

pub returns-then-out-k : goal.returns-then-out-k
returns-then-out-k c =
    let o = c.open.ensures.head.good _ (ap head_in c.in_ok-g.was) in
    let M = rw (c.open.ensures.words _ c.in_ok-g.was) at c.measure.ensures in
    nodes_on _ _ o _ _ (nodes_long _ _ o _ _ M _ c.in_ok-k.was (omega arith))

pub put_nodes-requires : goal.put_nodes-requires
put_nodes-requires c =
    let o = c.open.ensures.head.good _ (ap head_in c.in_ok-g.was) in
    let M = rw (c.open.ensures.words _ c.in_ok-g.was) at c.measure.ensures in
    rw (c.open.ensures.words _ c.in_ok-g.was) (nodes_fit _ _ o c.args.out.now _ M _ c.in_ok-k.was (omega arith))

pub returns : goal.returns
returns c =
    let o = c.open.ensures.head.good _ (ap head_in c.in_ok-g.was) in
    let M = rw (c.open.ensures.words _ c.in_ok-g.was) at c.measure.ensures in
    let W = rw (c.open.ensures.words _ c.in_ok-g.was) at c.put_nodes.ensures in
    nodes_on _ _ o _ _ (nodes_listed _ _ o _ _ M _ c.in_ok-k.was (omega arith) _ _ W)
