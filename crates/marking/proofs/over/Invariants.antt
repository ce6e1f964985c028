use Rattle.std.specs.Prelude.{◌≡◌, drop}
use Rattle.language.specs.Struct.{node_of}
use Rattle.marking.specs.Marks.{Leads, childless}
use Rattle.marking.proofs.over.Given as goal

abbrev pub invariant-loop-child : goal.invariant-loop-child
invariant-loop-child l = (l.node.count ≡ l.child-index) × Leads l.ws (node_of l.node) (drop l.child-index l.children) (childless l.fn.op.0 0) l.children
