-- The part `members` holds, for each class, ids that stand for its nodes: ids of the class such that each id of the class has the node of one of them. A rebuild
-- leaves one id for each node, in node order; later unions join the lists.
-- Assumes nothing.
use Rattle.std.specs.Prelude.{List, ◌≡◌, ◌<◌, ℕ}
use Rattle.lists.specs.Members.{Mem}
use Rattle.language.specs.Term.{Term}
use Rattle.steps.specs.Graph.{canon, node, root}
use Rattle.cells.specs.Pool.{Pool, row}

-- n lists over n ids, of which there are N; the lists of roots hold ids of their class, and the others are empty
pub record Members (n N : ℕ) (ms : List ℕ) (ns : List Term) (roots : List ℕ) : Type 0 where
  pub lists : List (List ℕ)
  pub pool : Pool ms n n lists
  pub in_class : (a x : ℕ) → Mem x (row lists a) → (x < N) × (root roots x ≡ a)
  pub all : (i : ℕ) → i < N → (j : ℕ) × Mem j (row lists (root roots i)) × (canon roots (node ns j) ≡ canon roots (node ns i))
