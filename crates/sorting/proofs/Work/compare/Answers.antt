use Rattle.lists.specs.Reads.{at}
use Rattle.sorting.specs.Ids.{by_nodes}
use Rattle.sorting.proofs.Work.compare.Goals as goal

pub returns : goal.returns
returns c = by_nodes c.args.self.now.ws.now c.args.self.now.n c.args.self.now.m (at c.args.self.now.ws.now c.args.i) (at c.args.self.now.ws.now c.args.j) _ _ _
    (rw c.need.ensures at c.key_or_leaf-a.ensures) (rw c.need.ensures at c.key_or_leaf-b.ensures) c.order.ensures
