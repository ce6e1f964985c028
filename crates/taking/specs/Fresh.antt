-- The key that an id has now: its node as it was given, with root children. On words that hold no graph the node may name children that are no ids, which is tested.
-- Assumes nothing.
use Rattle.broken.specs.declared.Broken.{Broken}
use Rattle.broken.specs.Words.{broken}
use Rattle.std.specs.Prelude.{Ok, Result, List, ◌⊎◌, ◌≡◌, ◌<◌, ◌≤◌, ℕ, length}
use Rattle.std.proofs.Common.{inl, inr, ◌∙◌, ap, arith}
use Rattle.std.proofs.Math.ListN.{get_or-eq_default}
use Rattle.lists.specs.Members.{Mem, mem_at}
use Rattle.lists.specs.Reads.{at}
use Rattle.lists.specs.Tests.{lt_or, zero_one}
use Rattle.language.specs.Fitting.{term}
use Rattle.language.specs.Term.{Known}
use Rattle.language.specs.declared.fit.Fit.{Fit}
use Rattle.steps.specs.Graph.{Graph, canon, ids, key_of, node}
use Rattle.growing.specs.Roots.{WithRoots}
use Rattle.holds.specs.Holds.{HoldsAt}
use Rattle.holds.specs.NodesLaws.{nodes_given}
use Rattle.layout.specs.View.{view}
use Rattle.layout.specs.declared.Head.{Head}
use Rattle.rows.specs.Promise.{Given, IsNodeOf}

-- ---- the promise

pub record FreshSays (h : Head) (i : ℕ) (ws : List ℕ) (r : Result Fit Broken) : Type 0 where
  pub sound : (g : Graph) (u : ℕ) → HoldsAt h u (view h.n h.m ws) g → i < ids g → ((c : ℕ) → Mem c (node g.nodes i).kids → c < ids g)
      → IsNodeOf r (key_of g i)

module _ (h : Head) (i : ℕ) (ws : List ℕ) (f : Result Fit Broken) (F : Given (view h.n h.m ws).rows h.n h.m i f) where
  pub fresh_broken : f ≡ broken → FreshSays h i ws broken
  fresh_broken e = record {
    sound = λ g u H l K. let q = (nodes_given _ _ _ _ _ _ _ H.nodes i f l F).1 in zero_one cc;
  }

  module _ (x : Fit) (e : f ≡ Ok x) where
    -- what is read on words that hold a graph
    fetched : (g : Graph) (u : ℕ) → HoldsAt h u (view h.n h.m ws) g → i < ids g → term x ≡ node g.nodes i
    fetched g u H l = let q = nodes_given _ _ _ _ _ _ _ H.nodes i f l F in let same : q.0 ≡ x = let s = q.1 in cc in rw (← same) q.2

    -- the children of a stored node are ids
    all_known : (g : Graph) (u : ℕ) → HoldsAt h u (view h.n h.m ws) g → i < ids g → ((c : ℕ) → Mem c (node g.nodes i).kids → c < ids g)
        → Known (term x) h.ids
    all_known g u H l K j lt = rw (fetched g u H l, H.ids_are) (go (lt_or j (length (node g.nodes i).kids)))
      where
        go : (j < length (node g.nodes i).kids) ⊎ (length (node g.nodes i).kids ≤ j) → at (node g.nodes i).kids j < ids g
        go (inl b) = K (at (node g.nodes i).kids j) (mem_at (node g.nodes i).kids j b)
        go (inr b) = omega (arith, get_or-eq_default (node g.nodes i).kids 0 b)

    pub fresh_unknown : (Known (term x) h.ids → ⊥) → FreshSays h i ws broken
    fresh_unknown unknown = record {
      sound = λ g u H l K. absurd (unknown (all_known g u H l K));
    }

    pub fresh_done : (r : Result Fit Broken) → WithRoots ws h x r → FreshSays h i ws r
    fresh_done r W = record {
      sound = λ g u H l K. let w = W.sound g u H in (w.0, w.1, w.2 ∙ ap (canon g.roots) (fetched g u H l));
    }
