-- The table's entry for the key of an id is set to it: the machine's `keyed`. The graph is unclean, as it is while entries are pending.
-- Assumes nothing.
use Rattle.std.specs.Prelude.{Ok, Option, Result, Some, false, List, ◌∷◌, ◌≡◌, ◌<◌, ℕ}
use Rattle.broken.specs.declared.Broken.{Broken}
use Rattle.broken.specs.Words.{broken}
use Rattle.std.proofs.Common.{◌∙◌, subst, sym}
use Rattle.std.proofs.lemmas.Bool.{false≢true}
use Rattle.lists.specs.Members.{Mem}
use Rattle.lists.specs.Tests.{zero_one}
use Rattle.language.specs.Fitting.{term}
use Rattle.language.specs.Term.{Term}
use Rattle.language.specs.declared.Id.{Id}
use Rattle.language.specs.declared.fit.Fit.{Fit}
use Rattle.steps.specs.Graph.{Graph, ids, kept, key_of, node}
use Rattle.steps.specs.Machine.{keyed}
use Rattle.closure.specs.Tables.{Live, canon_live}
use Rattle.holds.specs.Holds.{HoldsAt}
use Rattle.holds.specs.HoldsLaws.{root_again}
use Rattle.holds.specs.Inside.{Inside, inside_same, inside_then}
use Rattle.holds.specs.Nodes.{Nodes}
use Rattle.layout.specs.Cut.{rows, table}
use Rattle.layout.specs.View.{View, put, view}
use Rattle.layout.specs.declared.Head.{Head}
use Rattle.taking.specs.Fresh.{FreshSays}
use Rattle.taking.specs.Leave.{OustSays, Ousted}
use Rattle.taking.specs.Settle.{SettleSays, Settled}
use Rattle.language.specs.Told.{told_id}

-- what is asked of a graph where id i gets its entry: the graph is unclean, the children of the id are ids, and it has no live key but its own in the table
pub record Ripe (g : Graph) (i : ℕ) : Type 0 where
  pub low : i < ids g
  pub unclean : g.clean ≡ false
  pub kids : (c : ℕ) → Mem c (node g.nodes i).kids → c < ids g
  pub own : (k : Term) → Live g.roots k → kept k g.memo ≡ Some i → k ≡ key_of g i

pub record RekeySays (h : Head) (i : ℕ) (ws : List ℕ) (r : Result (Option Id) Broken) (ws' : List ℕ) : Type 0 where
  pub inside : Inside h.n h.m ws ws'
  pub range : (x : Id) → r ≡ Ok (Some x) → x.0 < h.ids
  pub sound : (g : Graph) (u : ℕ) → HoldsAt h u (view h.n h.m ws) g → Ripe g i
      → (r ≡ told_id (kept (key_of g i) g.memo)) × HoldsAt h u (view h.n h.m ws') (keyed g (key_of g i) i)

-- other rows and another table, of the same nodes and roots
holds_keyed : {h : Head} {u : ℕ} {v : View} {g : Graph} (H : HoldsAt h u v g) → g.clean ≡ false → (k : Term) (i : ℕ) (rs ts : List ℕ)
    → Nodes h.n h.m rs ts g.nodes g.roots ((k, i) ∷ g.memo) → HoldsAt h u (put rows (put table v ts) rs) (keyed g k i)
holds_keyed H unclean k i rs ts N = record {
  range = H.range;
  ids_are = H.ids_are;
  places_are = H.places_are;
  clean_is = H.clean_is;
  few = H.few;
  linked = H.linked;
  forest = H.forest;
  nodes = N;
  parents = H.parents;
  members = H.members;
  tidy_keys = λ e. absurd (false≢true (sym unclean ∙ e));
  tidy_lists = λ e. absurd (false≢true (sym unclean ∙ e));
  scratch = H.scratch;
}

holds_settled : {h : Head} {u : ℕ} {v : View} {g : Graph} (H : HoldsAt h u v g) → g.clean ≡ false → (k : Term) (i : ℕ) (ts ws' : List ℕ) (r : Result Unit Broken)
    → Settled h i k (put table v ts) g.nodes g.roots g.memo r ws' → HoldsAt h u (view h.n h.m ws') (keyed g k i)
holds_settled {h} {u} {v} {g} H unclean k i ts ws' r S = subst (λ (x : View). HoldsAt h u x (keyed g k i)) (sym S.is) (holds_keyed H unclean k i S.rs S.ts S.nodes)

module _ (h : Head) (i : ℕ) (ws : List ℕ) (f : Result Fit Broken) (F : FreshSays h i ws f) where
  pub rekey_lost : f ≡ broken → RekeySays h i ws broken ws
  rekey_lost e = record {
    inside = inside_same h.n h.m ws;
    range = λ x q. zero_one cc;
    sound = λ g u H R. let q = (F.sound g u H R.low R.kids).1 in zero_one cc;
  }

  module _ (x : Fit) (e : f ≡ Ok x) (ws1 ws2 : List ℕ) (o : Result (Option Id) Broken) (s : Result Unit Broken) (O : OustSays h (term x) ws o ws1)
      (S : SettleSays h i (term x) ws1 s ws2) where
    -- both steps, on words that hold a graph
    both : (g : Graph) (u : ℕ) → HoldsAt h u (view h.n h.m ws) g → Ripe g i
        → (s ≡ Ok tt) × (o ≡ told_id (kept (key_of g i) g.memo)) × HoldsAt h u (view h.n h.m ws2) (keyed g (key_of g i) i)
    both g u H R =
        subst (λ (k : Term). (s ≡ Ok tt) × (o ≡ told_id (kept k g.memo)) × HoldsAt h u (view h.n h.m ws2) (keyed g k i)) key
        (settled (O.sound g.nodes g.roots g.memo H.nodes i (sym H.ids_are) live))
      where
        k : Term
        k = term x

        key : k ≡ key_of g i
        key =
            let q = F.sound g u H R.low R.kids in
            let same : q.0 ≡ x = let s = q.1 in cc in
            rw (← same) q.2

        live : Live g.roots k
        live = rw key (canon_live g.roots (node g.nodes i) (root_again H.forest))

        settled : (o ≡ told_id (kept k g.memo)) × Ousted h i k H.nodes.keys H.nodes.buckets (view h.n h.m ws) ws1
            → (s ≡ Ok tt) × (o ≡ told_id (kept k g.memo)) × HoldsAt h u (view h.n h.m ws2) (keyed g k i)
        settled a =
            let b = S.sound (put table (view h.n h.m ws) a.1.ts) a.1.is (view h.n h.m ws).table g.nodes g.roots g.memo H.nodes R.low key
            (λ k' l e. R.own k' l e ∙ sym key) a.1.vacant in
            (b.done, a.0, holds_settled H R.unclean k i a.1.ts ws2 s b)

    pub rekey_stuck : s ≡ broken → RekeySays h i ws broken ws2
    rekey_stuck e = record {
      inside = inside_then O.inside S.inside;
      range = λ x q. zero_one cc;
      sound = λ g u H R. let q = (both g u H R).0 in zero_one cc;
    }

    pub rekey_done : RekeySays h i ws o ws2
    rekey_done = record {
      inside = inside_then O.inside S.inside;
      range = O.range;
      sound = λ g u H R. let b = both g u H R in (b.1, b.2);
    }
