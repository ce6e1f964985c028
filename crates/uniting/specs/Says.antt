-- What the steps of a union promise: on any words, what they leave alone and which head they leave; on words that hold a graph, which graph they leave.
-- Assumes nothing.
use Rattle.std.specs.Prelude.{Err, Ok, Result, Bool, false, List, ◌≢◌, ◌≡◌, ◌-◌, ◌<◌, ℕ, length}
use Rattle.broken.specs.declared.Broken.{Broken}
use Rattle.steps.specs.Graph.{Graph, root, uses}
use Rattle.steps.specs.Machine.{merge, union, union_by}
use Rattle.holds.specs.Holds.{HoldsAt}
use Rattle.holds.specs.Inside.{Inside}
use Rattle.layout.specs.View.{view}
use Rattle.layout.specs.declared.Head.{Head}
use Rattle.uniting.specs.Near.{NearIds}

-- one class less, unclean, and the depth of pending d
abbrev pub merged_numbers : Head → ℕ → Head
merged_numbers h d = record { n = h.n; m = h.m; ids = h.ids; places = h.places; depth = d; classes = h.classes - 1; clean = false }

-- two roots: the class of `lose` goes into that of `stay`
pub record MergeSays (h : Head) (stay lose : ℕ) (ws : List ℕ) (r : Result Head Broken) (ws' : List ℕ) : Type 0 where
  pub inside : Inside h.n h.m ws ws'
  pub range : (k : Head) → r ≡ Ok k → NearIds (length ws) h k
  pub sound : (g : Graph) (u : ℕ) → HoldsAt h u (view h.n h.m ws) g → root g.roots stay ≡ stay → root g.roots lose ≡ lose
      → (d : ℕ) × (r ≡ Ok (merged_numbers h d)) × HoldsAt (merged_numbers h d) u (view h.n h.m ws') (merge g stay lose)

-- of two roots, the first stays unless its parent list is strictly shorter
pub record JoinSays (h : Head) (a b : ℕ) (ws : List ℕ) (r : Result Head Broken) (ws' : List ℕ) : Type 0 where
  pub inside : Inside h.n h.m ws ws'
  pub range : (k : Head) → r ≡ Ok k → NearIds (length ws) h k
  pub sound : (g : Graph) (u : ℕ) → HoldsAt h u (view h.n h.m ws) g → root g.roots a ≡ a → root g.roots b ≡ b
      → (n : a ≢ b) (s : Dec (length (uses g.parents a) < length (uses g.parents b)))
      → (k : Head) × (r ≡ Ok k) × HoldsAt k u (view h.n h.m ws') (union_by g a b (no n) s).graph

-- the head that a union leaves, and whether two classes were joined: of one class already, they were not
pub record United : Type 0 where
  pub head : Head
  pub joined : Bool

abbrev pub answered : Bool → Head → United
answered b k = record { head = k; joined = b }

abbrev pub told : Bool → Head → Result United Broken
told b k = Ok (answered b k)

-- the answer of a union with the head that it leaves, where it was not refused
abbrev pub united : Head → Result Bool Broken → Result United Broken
united k (Ok b) = told b k
united k (Err e) = Err e

-- any two ids
pub record UniteSays (h : Head) (i j : ℕ) (ws : List ℕ) (r : Result United Broken) (ws' : List ℕ) : Type 0 where
  pub inside : Inside h.n h.m ws ws'
  pub range : (s : United) → r ≡ Ok s → NearIds (length ws) h s.head
  pub sound : (g : Graph) (u : ℕ) → HoldsAt h u (view h.n h.m ws) g
      → (k : Head) × (r ≡ told (union g i j).answer k) × HoldsAt k u (view h.n h.m ws') (union g i j).graph
