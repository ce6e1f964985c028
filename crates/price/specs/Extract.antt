-- Prices and cheapest forms of a graph, as document 01 has them ("The price of a form", from `src/extract.rs`): the passes run over the graph's classes in
-- ascending root id, over each class's nodes in node order. `find_best_cost` of an id is the price of its root in `table AstSize g`, `find_best` the words of its listing.
-- Assumes nothing.
use Rattle.std.specs.Prelude.{[], suc, ℕ}
use Rattle.steps.specs.Classes.{class_nodes, class_roots}
use Rattle.steps.specs.Graph.{Graph, ids}
use Rattle.closure.specs.Listed.{NodeOf}
use Rattle.price.specs.Form.{Form, In}
use Rattle.price.specs.Listing.{Listing, cheapest}
use Rattle.price.specs.Pass.{Table, final, passes}
use Rattle.price.specs.Rule.{Rule}

-- f is a form of class r
abbrev pub FormOf : Graph → Form → ℕ → Type 0
FormOf g f r = In (NodeOf g) f r

-- the table after the passes
abbrev pub table : {P : Type 0} → Rule P → Graph → Table P
table R g = final R (class_nodes g) (class_roots g)

-- the same, to compute with (`quick`)
abbrev pub quick_table : {P : Type 0} → Rule P → Graph → Table P
quick_table R g = passes R (class_nodes g) (class_roots g) (suc (ids g)) []

-- the cheapest form of class r by the table t
abbrev pub listing : {P : Type 0} → Graph → Table P → ℕ → Listing
listing g t r = cheapest t (class_roots g) r
