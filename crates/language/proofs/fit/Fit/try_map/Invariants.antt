use mathlib.Core.Path.{◌≡◌}
use Rattle.language.specs.Fitting.{term}
use Rattle.language.specs.Mapped.{Gave}
use Rattle.language.specs.Partway.{Partway}
use Rattle.language.specs.Struct.{node_of}
use Rattle.language.proofs.fit.Fit.try_map.Given as goal

abbrev pub invariant-loop-i : goal.invariant-loop-i
invariant-loop-i g l = (l.node.count ≡ l.fn.self.node.count) × Partway (Gave (goal.F-post g l.f)) l.i (term l.fn.self) (node_of l.node)
