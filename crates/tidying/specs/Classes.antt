-- All classes tidied, one after the other: what holds on the way, and at the end, when the graph is clean.
-- Assumes nothing.
use Rattle.std.specs.Prelude.{Ok, Result, true, List, [], map, ◌≡◌, refl, ◌+◌, ◌<◌, ◌≤◌, ℕ, length}
use Rattle.broken.specs.declared.Broken.{Broken}
use Rattle.broken.specs.Words.{apart, broken}
use Rattle.std.proofs.Common.{⊎_elim, ◌∙◌, ap, subst, arith}
use Rattle.lists.specs.Members.{no_member}
use Rattle.lists.specs.Reads.{set_all}
use Rattle.lists.specs.Tests.{lt_or, zero_one}
use Rattle.language.specs.Sorted.{sorted}
use Rattle.language.specs.Term.{Term, term_at}
use Rattle.steps.specs.Classes.{class_nodes}
use Rattle.steps.specs.Graph.{Graph, key_of, root}
use Rattle.steps.specs.Machine.{marked}
use Rattle.cells.specs.Pool.{row}
use Rattle.holds.specs.Holds.{HoldsAt, UpToDate}
use Rattle.holds.specs.Inside.{Inside, Near, inside_same, inside_then}
use Rattle.layout.specs.Head.{HeadOk}
use Rattle.layout.specs.View.{View, view}
use Rattle.layout.specs.declared.Head.{Head}
use Rattle.tidying.specs.Class.{class_sorted}
use Rattle.tidying.specs.Says.{ClassTidied, Tidies, TidiesClass}
use Rattle.unionfind.specs.Forest.{root_low}
use Rattle.holds.specs.HoldsLaws.{marked_head}

-- the lists below i are tidy
pub record TidyBelow (h : Head) (u : ℕ) (v : View) (g : Graph) (i : ℕ) : Type 0 where
  pub holds : HoldsAt h u v g
  pub keys : UpToDate holds
  pub lists : (q : ℕ) → q < i → map (key_of g) (row holds.members.lists q) ≡ class_nodes g q

-- ---- over a view

tidy_more : (h : Head) (u : ℕ) (v v' : View) (g : Graph) (i : ℕ) → i < h.n → (T : TidyBelow h u v g i) → ClassTidied T.holds i v' → TidyBelow h u v' g (i + 1)
tidy_more h u v v' g i hi T C = record {
  holds = C.holds;
  keys = λ j l. ap (λ (ks : List Term). term_at ks j) C.keys ∙ T.keys j l;
  lists = λ q. rw C.lists
      (set_all (λ q zs. q < i + 1 → map (key_of g) zs ≡ class_nodes g q) T.holds.members.lists i C.left [] (omega (arith, T.holds.members.pool.count))
      (λ _. C.tidy) (λ j ne l. T.lists j (omega arith)) q);
}

-- a number that is no id is no root: its list is empty
past_none : (h : Head) (u : ℕ) (v : View) (g : Graph) (H : HoldsAt h u v g) (q : ℕ) → h.ids ≤ q → row H.members.lists q ≡ []
unfolding root
past_none h u v g H q past =
    no_member (row H.members.lists q) (λ x m. let c = H.members.in_class q x m in omega (arith, root_low H.forest x c.0))

-- and its class has no nodes
tidy_past : (h : Head) (u : ℕ) (v : View) (g : Graph) (H : HoldsAt h u v g) (q : ℕ) → h.ids ≤ q → map (key_of g) (row H.members.lists q) ≡ class_nodes g q
unfolding sorted
tidy_past h u v g H q past =
    let e = past_none h u v g H q past in
    let s = class_sorted g h.n h.ids v.members H.members H.ids_are q in
    rw e (rw e at s)

tidy_all : (h : Head) (u : ℕ) (v : View) (g : Graph) (i : ℕ) → h.ids ≤ i → TidyBelow h u v g i → HoldsAt (marked_head h true) u v (marked g true)
tidy_all h u v g i end T =
    let H = T.holds in
    record {
      range = record { n_low = H.range.n_low; n_high = H.range.n_high; m_high = H.range.m_high; ids_in = H.range.ids_in; places_in = H.range.places_in; depth_in = H.range.depth_in; classes_in = H.range.classes_in };
      ids_are = H.ids_are;
      places_are = H.places_are;
      clean_is = refl;
      few = H.few;
      linked = H.linked;
      forest = H.forest;
      nodes = H.nodes;
      parents = H.parents;
      members = H.members;
      tidy_keys = λ e. T.keys;
      tidy_lists = λ e q. ⊎_elim (λ (l : q < i). T.lists q l) (λ (l : i ≤ q). tidy_past h u v g H q (omega arith)) (lt_or q i);
      scratch = H.scratch;
    }

-- ---- over the words

-- on the way of `tidy`
pub record TidiedTo (h : Head) (ws ws' : List ℕ) (i : ℕ) : Type 0 where
  pub inside : Inside h.n h.m ws ws'
  pub sound : (g : Graph) (u : ℕ) (H : HoldsAt h u (view h.n h.m ws) g) → UpToDate H → TidyBelow h u (view h.n h.m ws') g i

module _ (h : Head) (ws : List ℕ) where
  pub tidied_none : TidiedTo h ws ws 0
  tidied_none = record {
    inside = inside_same h.n h.m ws;
    sound = λ g u H now. record { holds = H; keys = now; lists = λ q l. absurd (omega arith) };
  }

  module _ (i : ℕ) (r : Result Unit Broken) (ws1 ws2 : List ℕ) (A : TidiedTo h ws ws1 i) (C : TidiesClass h i ws1 r ws2) where
    pub tidied_more : i < h.n → TidiedTo h ws ws2 (i + 1)
    tidied_more hi = record {
      inside = inside_then A.inside C.inside;
      sound = λ g u H now.
          let T = A.sound g u H now in
          tidy_more h u (view h.n h.m ws1) (view h.n h.m ws2) g i hi T (C.sound g u T.holds T.keys).1;
    }

    pub tidied_broken : r ≡ broken → Tidies h ws broken ws2
    tidied_broken e = record {
      inside = inside_then A.inside C.inside;
      exact = λ k (f : broken ≡ Ok k). zero_one cc;
      range = λ k (f : broken ≡ Ok k). zero_one cc;
      sound = λ g u H now. let T = A.sound g u H now in apart e (C.sound g u T.holds T.keys).0;
    }

  pub tidied_all : (i : ℕ) (ws' : List ℕ) → HeadOk (length ws) h → h.ids ≤ i → TidiedTo h ws ws' i → Tidies h ws (Ok (marked_head h true)) ws'
  tidied_all i ws' ok end A = record {
    inside = A.inside;
    exact = λ k (e : Ok (marked_head h true) ≡ Ok k). cc;
    range = λ k (e : Ok (marked_head h true) ≡ Ok k). let is : marked_head h true ≡ k = cc in subst (λ (s : Head). Near (length ws) h s) is (record { ok = omega arith; n_is = refl; m_is = refl });
    sound = λ g u H now. (refl, tidy_all h u (view h.n h.m ws') g i end (A.sound g u H now));
  }
