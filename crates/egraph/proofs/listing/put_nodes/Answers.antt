use mathlib.Core.Path.{◌≡◌}
use native.Mathlib.Omega.{arith}
use Rattle.spelling.specs.Pieces.{pieces_start}
use Rattle.egraph.specs.Stored.{stored_next, stored_pieces, stored_room}
use Rattle.egraph.proofs.listing.put_nodes.Goals as goal

pub loop-i-init : goal.loop-i-init
loop-i-init c = pieces_start _ _

pub overflow_cast-i : goal.overflow_cast-i
overflow_cast-i c = omega (arith, c.args.g.now.ok)

pub given_or_leaf-given-requires : goal.given_or_leaf-given-requires
given_or_leaf-given-requires c = omega (arith, c.args.g.now.ok)

pub put_node-at-requires : goal.put_node-at-requires
put_node-at-requires c = stored_room _ _ _ _ c.given_or_leaf-given.result c.given_or_leaf-given.ensures _ _ _ c.loop-i.invariant _ c.loop-i-test.true c.requires

pub loop-i-preserved : goal.loop-i-preserved
loop-i-preserved c = stored_next _ _ _ _ c.given_or_leaf-given.result c.given_or_leaf-given.ensures _ _ _ c.loop-i.invariant _ _ c.put_node-at.ensures

pub shape_of-out : goal.shape_of-out
shape_of-out c = c.loop-i.invariant.size

pub returns : goal.returns
returns c = let e : c.loop-i.i ≡ c.args.g.now.h.ids = omega arith in rw (stored_pieces, ← e) c.loop-i.invariant
