-- The parts `uses`, `owners` and `pending` hold the parent lists and the pending list of a graph. A parent list is a list of child places, each with the id that
-- owns it; an entry of pending is one id or a stretch of a parent list, which keeps its contents through later pushes and joins.
-- Assumes nothing.
use Rattle.std.specs.Prelude.{List, [], map, ◌≡◌, ◌<◌, ◌≤◌, ℕ, length}
use Rattle.lists.specs.Reads.{at}
use Rattle.steps.specs.Graph.{uses}
use Rattle.cells.specs.Pool.{Pool, Under, row}
use Rattle.cells.specs.Stretch.{Stretch}
use Rattle.pending.specs.Moves.{Pending}

-- a stretch of places, as the ids that own them
pub record Owned (own : List ℕ) (L : List (List ℕ)) (c k : ℕ) (xs : List ℕ) : Type 0 where
  pub places : List ℕ
  pub stretch : Stretch L c k places
  pub are : xs ≡ map (at own) places

-- n lists over m places; the first N lists are the parent lists ps, and the others are empty; places from u on are in no list.
-- The stack of `depth` entries stands for the pending list
pub record Parents (n m N u depth : ℕ) (us own st : List ℕ) (ps : List (List ℕ)) (pend : List ℕ) : Type 0 where
  pub lists : List (List ℕ)
  pub pool : Pool us n m lists
  pub count : length ps ≡ N
  pub are : (a : ℕ) → a < N → uses ps a ≡ map (at own) (row lists a)
  pub none : (a : ℕ) → N ≤ a → row lists a ≡ []
  pub under : Under lists u
  pub pending : Pending (Owned own lists) st depth pend
