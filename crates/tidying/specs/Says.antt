-- What the end of a rebuild promises: one class tidied, and all of them. On words that hold a graph whose keys are up to date, the member list of a class
-- becomes one id for each node of the class, in node order; after all classes the graph is clean.
-- Assumes nothing.
use Rattle.std.specs.Prelude.{Ok, Result, true, List, map, ◌≡◌, ℕ, length, set}
use Rattle.broken.specs.declared.Broken.{Broken}
use Rattle.steps.specs.Classes.{class_nodes}
use Rattle.steps.specs.Graph.{Graph, key_of}
use Rattle.steps.specs.Machine.{marked}
use Rattle.holds.specs.Holds.{HoldsAt, UpToDate}
use Rattle.holds.specs.Inside.{Inside, Near}
use Rattle.layout.specs.View.{View, view}
use Rattle.layout.specs.declared.Head.{Head}
use Rattle.holds.specs.HoldsLaws.{marked_head}

-- the words hold the graph as before, but list a: it has the ids of the class's nodes
pub record ClassTidied {h : Head} {u : ℕ} {v : View} {g : Graph} (H : HoldsAt h u v g) (a : ℕ) (v' : View) : Type 0 where
  pub holds : HoldsAt h u v' g
  pub keys : holds.nodes.keys ≡ H.nodes.keys
  pub left : List ℕ
  pub lists : holds.members.lists ≡ set H.members.lists a left
  pub tidy : map (key_of g) left ≡ class_nodes g a

-- what `tidy_class` promises
pub record TidiesClass (h : Head) (a : ℕ) (ws : List ℕ) (r : Result Unit Broken) (ws' : List ℕ) : Type 0 where
  pub inside : Inside h.n h.m ws ws'
  pub sound : (g : Graph) (u : ℕ) (H : HoldsAt h u (view h.n h.m ws) g) → UpToDate H → (r ≡ Ok tt) × ClassTidied H a (view h.n h.m ws')

-- what `tidy` promises
pub record Tidies (h : Head) (ws : List ℕ) (r : Result Head Broken) (ws' : List ℕ) : Type 0 where
  pub inside : Inside h.n h.m ws ws'
  pub exact : (k : Head) → r ≡ Ok k → k ≡ marked_head h true
  pub range : (k : Head) → r ≡ Ok k → Near (length ws) h k
  pub sound : (g : Graph) (u : ℕ) (H : HoldsAt h u (view h.n h.m ws) g) → UpToDate H
      → (r ≡ Ok (marked_head h true)) × HoldsAt (marked_head h true) u (view h.n h.m ws') (marked g true)
