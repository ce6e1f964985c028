-- The key row of one id brought up to date: its node with root children. What `renew` and `rechild` promise. The graph is the same after it, at any time in its
-- life; what is asked of it is what every made graph has.
-- Assumes nothing.
use Rattle.std.specs.Prelude.{Ok, Result, Bool, false, true, List, [], ◌≢◌, ◌≡◌, refl, ◌<◌, ℕ}
use Rattle.broken.specs.declared.Broken.{Broken}
use Rattle.broken.specs.Words.{apart, broken}
use Rattle.std.proofs.Common.{⊎_elim, ◌∙◌, ap, subst, sym, arith, get_or-set_other, get_or-set_same}
use Rattle.lists.specs.Members.{Mem}
use Rattle.lists.specs.Tests.{Says, eq_or, zero_one}
use Rattle.language.specs.Fitting.{term}
use Rattle.language.specs.Term.{Term, term_at}
use Rattle.language.specs.declared.fit.Fit.{Fit as FitNode}
use Rattle.steps.specs.Graph.{Graph, ids, key_of, node}
use Rattle.closure.specs.Slots.{Keyed}
use Rattle.holds.specs.Holds.{HoldsAt}
use Rattle.holds.specs.Inside.{Inside, inside_lent, inside_same, inside_then}
use Rattle.holds.specs.Nodes.{Nodes}
use Rattle.holds.specs.NodesRechild.{nodes_rechild}
use Rattle.layout.specs.Cut.{rows, table}
use Rattle.layout.specs.Lent.{Lent, lent_next}
use Rattle.layout.specs.View.{View, put, view}
use Rattle.layout.specs.declared.Head.{Head}
use Rattle.rows.specs.Promise
use Rattle.rows.specs.Determined.{read_key}
use Rattle.rows.specs.Read.{key_read}
use Rattle.taking.specs.Fresh.{FreshSays}
use Rattle.taking.specs.Leave.{VacateSays}

-- what is asked of the graph: children are ids, and the table leads from a live key to an id that has it
pub record Fit (g : Graph) : Type 0 where
  pub kids : (i c : ℕ) → i < ids g → Mem c (node g.nodes i).kids → c < ids g
  pub keyed : Keyed g.nodes g.roots g.memo

-- the words hold the graph as before, but the key row of i: that is up to date
pub record Rechilded {h : Head} {u : ℕ} {v : View} {g : Graph} (H : HoldsAt h u v g) (i : ℕ) (v' : View) : Type 0 where
  pub holds : HoldsAt h u v' g
  pub key : term_at holds.nodes.keys i ≡ key_of g i
  pub others : (j : ℕ) → j ≢ i → term_at holds.nodes.keys j ≡ term_at H.nodes.keys j

-- what `renew` promises, where the key row of i is not k
pub record RenewSays (h : Head) (i : ℕ) (k : Term) (ws : List ℕ) (r : Result Unit Broken) (ws' : List ℕ) : Type 0 where
  pub inside : Inside h.n h.m ws ws'
  pub sound : (g : Graph) (u : ℕ) (H : HoldsAt h u (view h.n h.m ws) g) → Fit g → i < ids g → k ≡ key_of g i → term_at H.nodes.keys i ≢ k
      → (r ≡ Ok tt) × Rechilded H i (view h.n h.m ws')

-- what `rechild` promises
pub record RechildSays (h : Head) (i : ℕ) (ws : List ℕ) (r : Result Unit Broken) (ws' : List ℕ) : Type 0 where
  pub inside : Inside h.n h.m ws ws'
  pub sound : (g : Graph) (u : ℕ) (H : HoldsAt h u (view h.n h.m ws) g) → Fit g → i < ids g → (r ≡ Ok tt) × Rechilded H i (view h.n h.m ws')

-- ---- other rows and another table, of the same graph

module _ {h : Head} {u : ℕ} {v : View} {g : Graph} (H : HoldsAt h u v g) (i : ℕ) (rs ts : List ℕ) (N : Nodes h.n h.m rs ts g.nodes g.roots g.memo)
    (key : term_at N.keys i ≡ key_of g i) (others : (j : ℕ) → j ≢ i → term_at N.keys j ≡ term_at H.nodes.keys j) where
  holds_rows : HoldsAt h u (put rows (put table v ts) rs) g
  holds_rows = record {
    range = H.range;
    ids_are = H.ids_are;
    places_are = H.places_are;
    clean_is = H.clean_is;
    few = H.few;
    linked = H.linked;
    forest = H.forest;
    nodes = N;
    parents = H.parents;
    members = H.members;
    tidy_keys = λ e j l. ⊎_elim (λ (q : j ≡ i). ap (term_at N.keys) q ∙ key ∙ ap (key_of g) (sym q)) (λ (q : j ≢ i). others j q ∙ H.tidy_keys e j l) (eq_or j i);
    tidy_lists = H.tidy_lists;
    scratch = H.scratch;
  }

  renewed : Rechilded H i (put rows (put table v ts) rs)
  unfolding holds_rows
  renewed = record { holds = holds_rows; key = key; others = others }

-- ---- the ways out of `renew`

module _ (h : Head) (i : ℕ) (k : Term) (ws ws1 : List ℕ) (d : Result Unit Broken) (L : VacateSays h i ws d ws1) where
  out : (g : Graph) (u : ℕ) (H : HoldsAt h u (view h.n h.m ws) g) → i < ids g → d ≡ Ok tt
  out g u H low =
      let a = L.sound (view h.n h.m ws) refl g.nodes H.nodes.keys H.nodes.rows low in
      a.1 (a.4.sound H.nodes.keys H.nodes.buckets H.nodes.table refl)

  pub renew_stuck : d ≡ broken → RenewSays h i k ws broken ws1
  renew_stuck e = record {
    inside = L.inside;
    sound = λ g u H F low key stale. apart e (out g u H low);
  }

  module _ (ws2 : List ℕ) (q : Result Unit Broken) (K : Lent rows h.n h.m (λ w w'. Promise.Keyed w w' h.n h.m i k q) ws1 ws2) where
    both : (g : Graph) (u : ℕ) (H : HoldsAt h u (view h.n h.m ws) g) → Fit g → i < ids g → k ≡ key_of g i → term_at H.nodes.keys i ≢ k
        → (q ≡ Ok tt) × Rechilded H i (view h.n h.m ws2)
    both g u H F low key stale =
        let a = L.sound (view h.n h.m ws) refl g.nodes H.nodes.keys H.nodes.rows low in
        let n = lent_next K a.3 in
        let b = nodes_rechild _ _ _ _ g.nodes g.roots g.memo H.nodes i k (λ k' l e. F.keyed k' i l e ∙ sym key) stale n.new a.2 a.0 q low key a.4 n.did in
        let same = get_or-set_same H.nodes.keys i k (record { op = 0; payload = 0; kids = [] }) (omega (arith, H.nodes.rows.keys)) in (
          b.1,
          subst (λ (v : View). Rechilded H i v) (sym n.is) (renewed H i n.new a.2 b.2
              (ap (λ (ks : List Term). term_at ks i) b.3 ∙ same ∙ key)
              (λ j ne. ap (λ (ks : List Term). term_at ks j) b.3 ∙ get_or-set_other H.nodes.keys i j k (record { op = 0; payload = 0; kids = [] }) ne)),
        )

    pub renew_set : RenewSays h i k ws q ws2
    renew_set = record {
      inside = inside_then L.inside (inside_lent (λ v l. refl) K);
      sound = λ g u H F low key stale. both g u H F low key stale;
    }

-- ---- the ways out of `rechild`

module _ (h : Head) (i : ℕ) (ws : List ℕ) (f : Result FitNode Broken) (F : FreshSays h i ws f) where
  pub rechild_lost : f ≡ broken → RechildSays h i ws broken ws
  rechild_lost e = record {
    inside = inside_same h.n h.m ws;
    sound = λ g u H T low. let q = (F.sound g u H low (λ c. T.kids i c low)).1 in zero_one cc;
  }

  module _ (x : FitNode) (is : f ≡ Ok x) (w : FitNode) (W : term w ≡ key_read (view h.n h.m ws).rows h.n h.m i) (b : Bool) (S : Says b (term w ≡ term x)) where
    -- the row, and the key that it should have
    row_is : (g : Graph) (u : ℕ) (H : HoldsAt h u (view h.n h.m ws) g) → i < ids g → term w ≡ term_at H.nodes.keys i
    row_is g u H low = W ∙ read_key _ _ _ g.nodes H.nodes.keys H.nodes.rows i low

    key_is : (g : Graph) (u : ℕ) (H : HoldsAt h u (view h.n h.m ws) g) → Fit g → i < ids g → term x ≡ key_of g i
    key_is g u H T low =
        let q = F.sound g u H low (λ c. T.kids i c low) in
        let same : q.0 ≡ x = let s = q.1 in cc in
        rw (← same) q.2

    pub rechild_same : b ≡ true → RechildSays h i ws (Ok tt) ws
    rechild_same e = record {
      inside = inside_same h.n h.m ws;
      sound = λ g u H T low. (refl, record { holds = H; key = sym (row_is g u H low) ∙ S.holds e ∙ key_is g u H T low; others = λ j ne. refl });
    }

    pub rechild_renewed : b ≡ false → (r : Result Unit Broken) (ws1 : List ℕ) → RenewSays h i (term x) ws r ws1 → RechildSays h i ws r ws1
    rechild_renewed e r ws1 R = record {
      inside = R.inside;
      sound = λ g u H T low. R.sound g u H T low (key_is g u H T low) (λ q. S.fails e (row_is g u H low ∙ q));
    }
