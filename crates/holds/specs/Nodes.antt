-- The parts `rows` and `table` hold the stored nodes of a graph and its table. The key of an id is its second row: its node with the children that were roots when
-- the row was last set. The table part holds ids under their keys, and it says at live keys what the graph's table says; dead keys mean nothing.
-- Assumes nothing.
use Rattle.std.specs.Prelude.{List, ◌≡◌, ℕ, Some}
use Rattle.language.specs.Term.{Term, term_at}
use Rattle.steps.specs.Graph.{kept}
use Rattle.closure.specs.Tables.{Live}
use Rattle.rows.specs.Rows.{Rows}
use Rattle.table.specs.Table.{Held, Table}

pub record Nodes (n m : ℕ) (rs ts : List ℕ) (ns : List Term) (roots : List ℕ) (memo : List (Term × ℕ)) : Type 0 where
  pub keys : List Term
  pub rows : Rows rs n m ns keys
  pub buckets : List (List ℕ)
  pub table : Table ts n keys buckets
  pub found : (k : Term) (i : ℕ) → Live roots k → kept k memo ≡ Some i → Held buckets i × (term_at keys i ≡ k)
  pub only : (k : Term) (i : ℕ) → Live roots k → Held buckets i → term_at keys i ≡ k → kept k memo ≡ Some i
