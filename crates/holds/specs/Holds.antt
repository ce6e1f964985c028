-- When words hold a graph. `HoldsAt` speaks of the numbers of a head and of the nine parts, so that it also holds between the steps of a call, while the head in the
-- words is not yet written back; `Holds` speaks of words at rest. Neither says that calls made the graph: that is `Made` of steps.
-- Assumes nothing.
use Rattle.std.specs.Prelude.{true, List, map, ◌≡◌, ◌*◌, ◌+◌, ◌<◌, ◌≤◌, ℕ, length, replicate}
use Rattle.language.specs.Term.{term_at}
use Rattle.steps.specs.Classes.{class_nodes}
use Rattle.steps.specs.Graph.{Graph, ids, key_of}
use Rattle.cells.specs.Pool.{row}
use Rattle.holds.specs.Members.{Members}
use Rattle.holds.specs.Nodes.{Nodes}
use Rattle.holds.specs.Parents.{Parents}
use Rattle.layout.specs.Head.{GoodHead, numbers}
use Rattle.layout.specs.View.{View, hd, view}
use Rattle.layout.specs.declared.Head.{Head}
use Rattle.rows.specs.Rows.{taken}
use Rattle.unionfind.specs.Forest.{Forest}

-- limits and counts in range
pub record Range (h : Head) : Type 0 where
  pub n_low : 1 ≤ h.n
  pub n_high : h.n ≤ 65536
  pub m_high : h.m ≤ 262144
  pub ids_in : h.ids ≤ h.n
  pub places_in : h.places ≤ h.m
  pub depth_in : h.depth ≤ 2 * h.n
  pub classes_in : h.classes ≤ h.ids

-- u places are in parent lists already: fewer than the stored nodes have, while a node is being added
pub record HoldsAt (h : Head) (u : ℕ) (v : View) (g : Graph) : Type 0 where
  pub range : Range h
  pub ids_are : h.ids ≡ ids g
  pub places_are : h.places ≡ taken g.nodes (length g.nodes)
  pub clean_is : h.clean ≡ g.clean
  pub few : h.depth + h.classes ≤ 2 * h.ids
  pub linked : u ≤ h.places
  pub forest : Forest v.forest h.ids h.classes g.roots
  pub nodes : Nodes h.n h.m v.rows v.table g.nodes g.roots g.memo
  pub parents : Parents h.n h.m h.ids u h.depth v.uses v.owners v.pending g.parents g.pending
  pub members : Members h.n h.ids v.members g.nodes g.roots
  -- in a clean graph the keys are up to date, and each class's members are in node order, one for each node
  pub tidy_keys : g.clean ≡ true → (i : ℕ) → i < ids g → term_at nodes.keys i ≡ key_of g i
  pub tidy_lists : g.clean ≡ true → (r : ℕ) → map (key_of g) (row members.lists r) ≡ class_nodes g r
  pub scratch : v.scratch ≡ replicate (6 * h.n) 0

-- the key of each id, as the words have it, is its node with root children
abbrev pub UpToDate : {h : Head} {u : ℕ} {v : View} {g : Graph} → HoldsAt h u v g → Type 0
UpToDate {g = g} H = (i : ℕ) → i < ids g → term_at H.nodes.keys i ≡ key_of g i

-- the words ws hold the graph g
pub record Holds (ws : List ℕ) (g : Graph) : Type 0 where
  pub good : GoodHead (length ws) (hd ws)
  pub at_rest : HoldsAt (numbers (hd ws)) (numbers (hd ws)).places (view (numbers (hd ws)).n (numbers (hd ws)).m ws) g
