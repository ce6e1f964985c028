-- Words determine the graph that they hold, but for what the table says at dead keys, which no answer shows (closure's Tables).
-- So two outcomes that satisfy a call's promise hold the same graph.
-- Assumes nothing.
use Rattle.std.specs.Prelude.{List, ◌≡◌, ℕ}
use Rattle.std.proofs.Common.{◌∙◌, sym}
use Rattle.steps.specs.Graph.{Graph}
use Rattle.closure.specs.Tables.{Agree}
use Rattle.holds.specs.Holds.{Holds, HoldsAt}
use Rattle.holds.specs.Nodes.{Nodes}
use Rattle.holds.specs.NodesLaws.{nodes_determined}
use Rattle.holds.specs.ParentsLaws.{parents_determined}
use Rattle.layout.specs.View.{View}
use Rattle.layout.specs.declared.Head.{Head}
use Rattle.unionfind.specs.Forest
use Rattle.unionfind.specs.Forest.{Forest}

-- two graphs that differ at most in what their tables say at dead keys
pub record SameGraph (g g' : Graph) : Type 0 where
  pub nodes : g.nodes ≡ g'.nodes
  pub roots : g.roots ≡ g'.roots
  pub parents : g.parents ≡ g'.parents
  pub pending : g.pending ≡ g'.pending
  pub clean : g.clean ≡ g'.clean
  pub table : Agree g.roots g.memo g'.memo

pub determined_at : (h : Head) (u : ℕ) (v : View) (g g' : Graph) → HoldsAt h u v g → HoldsAt h u v g' → SameGraph g g'
determined_at h u v g g' H K =
    let F = Forest.determined H.forest K.forest in
    let P = parents_determined _ _ _ _ _ _ _ _ _ _ _ _ H.parents K.parents in
    let rr : g.roots ≡ g'.roots = F.1 in
    let D : Nodes h.n h.m v.rows v.table g'.nodes g.roots g'.memo = rw rr K.nodes in
    let N = nodes_determined _ _ _ _ _ _ _ _ _ H.nodes D (sym H.ids_are ∙ K.ids_are) in
    record { nodes = N.0; roots = rr; parents = P.0; pending = P.1; clean = sym H.clean_is ∙ K.clean_is; table = N.1 }

pub determined : (ws : List ℕ) (g g' : Graph) → Holds ws g → Holds ws g' → SameGraph g g'
determined ws g g' H K = determined_at _ _ _ g g' H.at_rest K.at_rest
