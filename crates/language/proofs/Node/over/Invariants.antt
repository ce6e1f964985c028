use mathlib.Core.Path.{◌≡◌}
use lib.ListN.{take}
use Rattle.language.specs.Struct.{node_of}
use Rattle.language.proofs.Node.over.Given as goal

abbrev pub invariant-loop-kid : goal.invariant-loop-kid
invariant-loop-kid l = (l.node.count ≡ l.kid-index) × (node_of l.node ≡ record { op = l.fn.op.0; payload = l.payload; kids = take l.kid-index l.kids })
