-- A node with each child replaced by its root: what is known of each root, and what `with_roots` promises.
-- Assumes nothing.
use Rattle.std.specs.Prelude.{Ok, Result, List, ◌≡◌, refl, ◌<◌, ℕ, Err}
use Rattle.broken.specs.declared.Broken.{Broken}
use Rattle.broken.specs.Words.{apart, broken, err≢ok}
use Rattle.std.proofs.Common.{arith, subst, sym}
use Rattle.lists.specs.Reads.{at}
use Rattle.language.specs.Partway.{Partway, partway_all, partway_as}
use Rattle.language.specs.Fitting.{term}
use Rattle.language.specs.Term.{Known}
use Rattle.language.specs.declared.fit.Fit.{Fit}
use Rattle.steps.specs.Graph.{Graph, canon, root}
use Rattle.holds.specs.Holds.{HoldsAt}
use Rattle.layout.specs.View.{view}
use Rattle.layout.specs.declared.Head.{Head}
use Rattle.rows.specs.Promise.{IsNodeOf}
use Rattle.unionfind.specs.Forest.{Forest}
use Rattle.unionfind.specs.Promise.{Finds}
use Rattle.language.specs.Mapped.{Mapped}
use Rattle.language.specs.declared.Id.{Id}
use Rattle.parts.specs.Bare.{bare_found}

-- k is the root of c in the forest f of N ids
pub record RootIs (f : List ℕ) (N c k : ℕ) : Type 0 where
  pub low : k < N
  pub law : (C : ℕ) (R : List ℕ) → Forest f N C R → k ≡ root R c

is_root : (f : List ℕ) (N c k : ℕ) → Finds f N c (Ok k) → RootIs f N c k
unfolding root
is_root f N c k F = record { low = F.inside k refl; law = λ C R G. let e = F.law C R G in cc }

-- ---- the promise

-- y is x with other children, each an id of the head h
pub record Rooted (h : Head) (x y : Fit) : Type 0 where
  pub count : y.node.count ≡ x.node.count
  pub op : (term y).op ≡ (term x).op
  pub payload : (term y).payload ≡ (term x).payload
  pub inside : (i : ℕ) → i < x.node.count → at (term y).kids i < h.ids

pub record WithRoots (ws : List ℕ) (h : Head) (x : Fit) (r : Result Fit Broken) : Type 0 where
  pub found : (y : Fit) → r ≡ Ok y → Rooted h x y
  pub sound : (g : Graph) (u : ℕ) → HoldsAt h u (view h.n h.m ws) g → IsNodeOf r (canon g.roots (term x))

module _ (ws : List ℕ) (h : Head) (x : Fit) where
  roots_done : (y : Fit) → y.node.count ≡ x.node.count → Partway (RootIs (view h.n h.m ws).forest h.ids) x.node.count (term x) (term y) → WithRoots ws h x (Ok y)
  roots_done y c P = record {
    found = λ z q. let same : y ≡ z = cc in subst (Rooted h x) same (record { count = c; op = P.op; payload = P.payload; inside = λ j lt. (P.done j lt).low });
    sound = λ g u H. (y, refl, partway_all _ _ _ _ P (root g.roots) (sym x.many) (λ c k q. q.law h.classes g.roots H.forest));
  }

  roots_lost : (k : ℕ) → Finds (view h.n h.m ws).forest h.ids k broken → WithRoots ws h x broken
  roots_lost k F = record {
    found = λ y q. err≢ok q;
    sound = λ g u H. apart refl (F.law h.classes g.roots H.forest);
  }

  -- Q is what the root that is asked for of each child answers
  module _ (Q : Id → Result Id Broken → Type 0) (K : Known (term x) h.ids)
      (asked : (c : ℕ) (a : Result Id Broken) → c < h.ids → Q (record { 0 = c }) a → Finds (view h.n h.m ws).forest h.ids c (bare_found a)) where
    pub roots_asked : (r : Result Fit Broken) → Mapped Q x r → WithRoots ws h x r
    roots_asked (Ok y) M =
        let D = M.all y refl in
        roots_done y D.0 (partway_as _ _ _ _ _ (λ j lt q. is_root _ _ _ _ (asked _ _ (K j (omega (arith, x.many))) q)) D.1)
    roots_asked (Err e) M = let D = M.refused e refl in roots_lost _ (asked _ _ (K D.0 (omega (arith, D.2, x.many))) D.4)
