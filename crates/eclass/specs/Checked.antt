-- What `Classes::of` promises (src/classes.rt): the classes of this very graph, or a refusal, exactly where a walk over members is broken.
-- Assumes nothing.
use Rattle.std.specs.Prelude.{Err, Ok, Result, ◌≡◌}
use Rattle.broken.specs.declared.Broken.{Broken}
use Rattle.layout.specs.declared.graph.Graph.{Graph}
use Rattle.eclass.specs.Checks.{UnbrokenIn}
use Rattle.eclass.specs.declared.classes.Classes.{Classes}

abbrev pub Checked : Graph → Result Classes Broken → Type 0
Checked g (Ok classes) = classes.g ≡ g
Checked g (Err _) = UnbrokenIn g.h g.ws.now → ⊥
