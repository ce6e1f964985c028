use mathlib.Core.Path.{ap}
use native.Mathlib.Omega.{arith}
use Rattle.broken.specs.Words.{error_is}
use Rattle.egraph.specs.Answers.{head_in}
use Rattle.egraph.specs.Listing.{node_broken, node_is, node_on, node_shut}
use Rattle.egraph.proofs.listing.id_to_node.Goals as goal

pub returns-in_err-g : goal.returns-in_err-g
returns-in_err-g c = rw (error_is _ _ c.from_residual.ensures.1) (node_shut _ _ _ c.open_known.ensures.head _ (ap head_in c.in_err-g.was))

pub given-requires : goal.given-requires
given-requires c = omega (arith, (c.open_known.ensures.head.good _ (ap head_in c.in_ok-g.was)).1, c.in_ok-g.g.ok.ids_in)

pub returns-in_err-given : goal.returns-in_err-given
returns-in_err-given c =
    let o = c.open_known.ensures.head.good _ (ap head_in c.in_ok-g.was) in
    let G = rw (c.open_known.ensures.words _ c.in_ok-g.was) at c.given.ensures in
    rw (error_is _ _ c.from_residual-in_err-given.ensures.1) (node_on _ _ o.0 _ o.1 _ (node_broken _ _ o.0 _ _ G o.1 c.in_err-given.was))

pub returns : goal.returns
returns c =
    let o = c.open_known.ensures.head.good _ (ap head_in c.in_ok-g.was) in
    let G = rw (c.open_known.ensures.words _ c.in_ok-g.was) at c.given.ensures in
    node_on _ _ o.0 _ o.1 _ (node_is _ _ o.0 _ _ G o.1 _ c.in_ok-given.was)
