-- The key rows of all ids brought up to date, one after the other. What `rechild_all` promises, what holds on the way, and the ways out.
-- Assumes nothing.
use Rattle.std.specs.Prelude.{Ok, Result, List, ◌≢◌, ◌≡◌, refl, ◌+◌, ◌<◌, ◌≤◌, ℕ}
use Rattle.broken.specs.declared.Broken.{Broken}
use Rattle.broken.specs.Words.{apart, broken}
use Rattle.std.proofs.Common.{⊎_elim, ◌∙◌, ap, sym, arith}
use Rattle.lists.specs.Tests.{eq_or}
use Rattle.language.specs.Term.{term_at}
use Rattle.steps.specs.Graph.{Graph, ids, key_of}
use Rattle.holds.specs.Holds.{HoldsAt, UpToDate}
use Rattle.holds.specs.Inside.{Inside, inside_same, inside_then}
use Rattle.layout.specs.View.{View, view}
use Rattle.layout.specs.declared.Head.{Head}
use Rattle.rechilding.specs.Rechild.{Fit, RechildSays, Rechilded}

-- the words hold the graph, and every key row is up to date
pub record AllRechilded (h : Head) (u : ℕ) (v : View) (g : Graph) : Type 0 where
  pub holds : HoldsAt h u v g
  pub keys : UpToDate holds

pub record RechildsAll (h : Head) (ws : List ℕ) (r : Result Unit Broken) (ws' : List ℕ) : Type 0 where
  pub inside : Inside h.n h.m ws ws'
  pub sound : (g : Graph) (u : ℕ) → HoldsAt h u (view h.n h.m ws) g → Fit g → (r ≡ Ok tt) × AllRechilded h u (view h.n h.m ws') g

-- ---- on the way: the rows of the ids below i are up to date

pub record RechildedBelow (h : Head) (u : ℕ) (v : View) (g : Graph) (i : ℕ) : Type 0 where
  pub holds : HoldsAt h u v g
  pub keys : (j : ℕ) → j < i → term_at holds.nodes.keys j ≡ key_of g j

pub record RechildedTo (h : Head) (ws ws' : List ℕ) (i : ℕ) : Type 0 where
  pub inside : Inside h.n h.m ws ws'
  pub sound : (g : Graph) (u : ℕ) → HoldsAt h u (view h.n h.m ws) g → Fit g → RechildedBelow h u (view h.n h.m ws') g i

below_more : (h : Head) (u : ℕ) (v v' : View) (g : Graph) (i : ℕ) → (B : RechildedBelow h u v g i) → Rechilded B.holds i v' → RechildedBelow h u v' g (i + 1)
below_more h u v v' g i B R = record {
  holds = R.holds;
  keys = λ j l. ⊎_elim
      (λ (q : j ≡ i). ap (term_at R.holds.nodes.keys) q ∙ R.key ∙ ap (key_of g) (sym q))
      (λ (q : j ≢ i). R.others j q ∙ B.keys j (omega arith))
      (eq_or j i);
}

module _ (h : Head) (ws : List ℕ) where
  pub rechilded_none : RechildedTo h ws ws 0
  rechilded_none = record {
    inside = inside_same h.n h.m ws;
    sound = λ g u H F. record { holds = H; keys = λ j l. absurd (omega arith) };
  }

  module _ (i : ℕ) (r : Result Unit Broken) (ws1 ws2 : List ℕ) (A : RechildedTo h ws ws1 i) (R : RechildSays h i ws1 r ws2) (low : i < h.ids) where
    one : (g : Graph) (u : ℕ) → HoldsAt h u (view h.n h.m ws) g → Fit g → (r ≡ Ok tt) × RechildedBelow h u (view h.n h.m ws2) g (i + 1)
    one g u H F =
        let B = A.sound g u H F in
        let l : i < ids g = omega (arith, B.holds.ids_are) in
        let s = R.sound g u B.holds F l in
        (s.0, below_more h u (view h.n h.m ws1) (view h.n h.m ws2) g i B s.1)

    pub rechilded_more : RechildedTo h ws ws2 (i + 1)
    rechilded_more = record { inside = inside_then A.inside R.inside; sound = λ g u H F. (one g u H F).1 }

    pub rechilded_broken : r ≡ broken → RechildsAll h ws broken ws2
    rechilded_broken e = record {
      inside = inside_then A.inside R.inside;
      sound = λ g u H F. apart e (one g u H F).0;
    }

  pub rechilded_all : (i : ℕ) (ws' : List ℕ) → h.ids ≤ i → RechildedTo h ws ws' i → RechildsAll h ws (Ok tt) ws'
  rechilded_all i ws' end A = record {
    inside = A.inside;
    sound = λ g u H F.
        let B = A.sound g u H F in
        (refl, record { holds = B.holds; keys = λ j l. B.keys j (omega (arith, B.holds.ids_are)) });
  }
