-- An id gets another key, which no other id in the table has: it leaves the table under the old one, its key row is set, and it goes in under the new one.
-- Assumes nothing.
use Rattle.std.specs.Prelude.{Ok, Result, List, ◌∷◌, ◌≡◌, refl, ◌<◌, ℕ, length, Some}
use Rattle.broken.specs.declared.Broken.{Broken}
use Rattle.broken.specs.Words.{apart, broken}
use Rattle.std.proofs.Common.{subst}
use Rattle.lists.specs.Tests.{zero_one}
use Rattle.language.specs.Term.{Term}
use Rattle.steps.specs.Graph.{canon, kept, node}
use Rattle.closure.specs.Tables.{Live}
use Rattle.holds.specs.Inside.{Inside, inside_lent, inside_then}
use Rattle.holds.specs.Nodes.{Nodes}
use Rattle.holds.specs.NodesPut.{Ready, Vacant}
use Rattle.holds.specs.NodesRekey.{rekey_enter, rekey_leave, rekey_row}
use Rattle.layout.specs.Cut.{rows, table}
use Rattle.layout.specs.Lent.{Lent, lent_next}
use Rattle.layout.specs.View.{View, put, view}
use Rattle.layout.specs.declared.Head.{Head}
use Rattle.rows.specs.Promise.{Keyed}
use Rattle.table.specs.Buckets.{Lands}
use Rattle.table.specs.Entering.{Entered}
use Rattle.taking.specs.Leave.{VacateSays}

-- another table and other rows, in which i has the key k
pub record Settled (h : Head) (i : ℕ) (k : Term) (v : View) (ns : List Term) (roots : List ℕ) (memo : List (Term × ℕ)) (r : Result Unit Broken) (ws' : List ℕ) : Type 0 where
  pub done : r ≡ Ok tt
  pub rs : List ℕ
  pub ts : List ℕ
  pub is : view h.n h.m ws' ≡ put rows (put table v ts) rs
  pub nodes : Nodes h.n h.m rs ts ns roots ((k, i) ∷ memo)

-- v is what the steps before have made of a view; D is of the table before the id that had the key left it
pub record SettleSays (h : Head) (i : ℕ) (k : Term) (ws : List ℕ) (r : Result Unit Broken) (ws' : List ℕ) : Type 0 where
  pub inside : Inside h.n h.m ws ws'
  pub sound : (v : View) → view h.n h.m ws ≡ v → (ts₀ : List ℕ) (ns : List Term) (roots : List ℕ) (memo : List (Term × ℕ)) (D : Nodes h.n h.m v.rows ts₀ ns roots memo)
      → i < length ns → k ≡ canon roots (node ns i) → ((k' : Term) → Live roots k' → kept k' memo ≡ Some i → k' ≡ k)
      → Vacant h.n v.table D.keys D.buckets i k
      → Settled h i k v ns roots memo r ws'

module _ (h : Head) (i : ℕ) (k : Term) (ws ws1 : List ℕ) (d : Result Unit Broken) (L : VacateSays h i ws d ws1) where
  -- i is out
  left : (v : View) → view h.n h.m ws ≡ v → (ts₀ : List ℕ) (ns : List Term) (roots : List ℕ) (memo : List (Term × ℕ)) (D : Nodes h.n h.m v.rows ts₀ ns roots memo)
      → i < length ns → Vacant h.n v.table D.keys D.buckets i k
      → (d ≡ Ok tt) × (ts : List ℕ) × (view h.n h.m ws1 ≡ put table v ts) × Ready h.n ts D.keys D.buckets i k
  left v ev ts₀ ns roots memo D low W =
      let a = L.sound v ev ns D.keys D.rows low in
      let b = rekey_leave h.n _ a.2 D.keys D.buckets i k a.0 W a.4 in
      (a.1 b.0, a.2, a.3, b.1)

  pub settle_stuck : d ≡ broken → SettleSays h i k ws broken ws1
  settle_stuck e = record {
    inside = L.inside;
    sound = λ v ev ts₀ ns roots memo D low key own W. apart e (left v ev ts₀ ns roots memo D low W).0;
  }

  module _ (ws2 : List ℕ) (q : Result Unit Broken) (K : Lent rows h.n h.m (λ w w'. Keyed w w' h.n h.m i k q) ws1 ws2) where
    pub settle_torn : q ≡ broken → SettleSays h i k ws broken ws2
    settle_torn e = record {
      inside = inside_then L.inside (inside_lent (λ v l. refl) K);
      sound = λ v ev ts₀ ns roots memo D low key own W.
          let a = left v ev ts₀ ns roots memo D low W in
          let n = lent_next K a.2 in
          let f = (rekey_row _ _ _ ts₀ ns roots memo D i k n.new q low key n.did).0 in
          zero_one cc;
    }

    pub settle_done : (b : ℕ) → Lands h.n k b → (ws3 : List ℕ) (r : Result Unit Broken) → Lent table h.n h.m (λ w w'. Entered w w' h.n b i r) ws2 ws3 → SettleSays h i k ws r ws3
    settle_done b B ws3 r E = record {
      inside = inside_then L.inside (inside_then (inside_lent (λ v l. refl) K) (inside_lent (λ v l. refl) E));
      sound = λ v ev ts₀ ns roots memo D low key own W.
          let a = left v ev ts₀ ns roots memo D low W in
          let n = lent_next K a.2 in
          let p = lent_next (subst (λ (y : ℕ). Lent table h.n h.m (λ w w'. Entered w w' h.n y i r) ws2 ws3) B.exact E) n.is in
          let row = rekey_row _ _ _ ts₀ ns roots memo D i k n.new q low key n.did in
          let t = rekey_enter _ _ _ ts₀ ns roots memo D i k n.new a.1 p.new r low own row.1 a.3 p.did in
          record { done = t.0; rs = n.new; ts = p.new; is = p.is; nodes = t.1 };
    }
