-- Demand 3's two notions, which document 01 cites under "What pins an answer down". `Forced` is what the requested unions force: equality's laws, and congruence of nodes alike in operator, payload and child count.
-- `Made` says that calls made a graph from fresh. Calls that answer without changing the graph (`find`, `lookup`, an add of a node that is found) need no case.
-- Assumes nothing.
use Rattle.std.specs.Prelude.{List, [], ◌∷◌, ◌++◌, ℕ, ◌<◌, length}
use Rattle.lists.specs.Members.{Mem}
use Rattle.lists.specs.Reads.{at}
use Rattle.language.specs.Term.{Term, Match}
use Rattle.steps.specs.Graph.{Graph, ids, node}
use Rattle.steps.specs.Machine.{fresh, add, union, Rebuild}

-- the least relation on ids that holds the pairs us asked for, is an equivalence, and is closed under congruence of the stored nodes ns
pub data Forced (ns : List Term) (us : List (ℕ × ℕ)) : ℕ → ℕ → Type 0 where
  asked : {i j : ℕ} → Mem (i, j) us → Forced ns us i j
  self : {i : ℕ} → Forced ns us i i
  back : {i j : ℕ} → Forced ns us i j → Forced ns us j i
  then : {i j k : ℕ} → Forced ns us i j → Forced ns us j k → Forced ns us i k
  alike : {i j : ℕ} → i < length ns → j < length ns → Match (node ns i) (node ns j)
      → ((p : ℕ) → p < length (node ns i).kids → Forced ns us (at (node ns i).kids p) (at (node ns j).kids p)) → Forced ns us i j

-- the graph g is made from fresh by accepted calls, and us are the unions asked for, in order. The limits and the eight places refuse some of
-- these adds, so the graphs of a port are among them. `add` and `add_uncanonical` leave the same graph
pub data Made : List (ℕ × ℕ) → Graph → Type 0 where
  start : Made [] fresh
  added : {us : List (ℕ × ℕ)} {g : Graph} (x : Term) → ((c : ℕ) → Mem c x.kids → c < ids g) → Made us g → Made us (add g x).graph
  joined : {us : List (ℕ × ℕ)} {g : Graph} (i j : ℕ) → i < ids g → j < ids g → Made us g → Made (us ++ ((i, j) ∷ [])) (union g i j).graph
  rebuilt : {us : List (ℕ × ℕ)} {g h : Graph} {y t : ℕ} → Rebuild g y t h → Made us g → Made us h
