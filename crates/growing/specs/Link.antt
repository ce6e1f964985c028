-- The new id is linked to the parent list of each child's root: the next place gets the id as its owner and goes to the end of that list. First for one place,
-- then for all the places of a node, one after the other.
-- Assumes nothing.
use Rattle.std.specs.Prelude.{Ok, Result, List, [], ◌++◌, ◌∷◌, ◌≡◌, refl, ◌+◌, ◌<◌, ◌≤◌, ℕ, length, set, take}
use Rattle.broken.specs.declared.Broken.{Broken}
use Rattle.broken.specs.Words.{apart, broken}
use Rattle.std.proofs.Common.{subst, add-one, arith, length-take-le, take-suc}
use Rattle.std.proofs.Math.Seq.{take-length}
use Rattle.lists.specs.Reads.{at, length_more}
use Rattle.steps.specs.Graph.{Graph}
use Rattle.steps.specs.Machine.{link, linked}
use Rattle.closure.specs.Facts.{link_append}
use Rattle.cells.specs.Changes.{Pushed}
use Rattle.holds.specs.Holds.{HoldsAt}
use Rattle.holds.specs.Inside.{Inside, inside_lent, inside_same, inside_then}
use Rattle.holds.specs.ParentsLaws.{parents_link}
use Rattle.layout.specs.Cut.{owners, uses}
use Rattle.layout.specs.Head.{HeadOk}
use Rattle.layout.specs.Lent.{Lent, Stored, lent_next}
use Rattle.layout.specs.View.{View, put, view}
use Rattle.layout.proofs.Sizes.{get_length}
use Rattle.layout.specs.declared.Head.{Head}

-- ---- one place

-- over a view: place u, the first that is in no list, goes to the list of the root `list`
pub link_holds : (h : Head) (u list i : ℕ) (v : View) (g : Graph) → HoldsAt h u v g → list < h.ids → u < h.places → length v.owners ≡ h.m
    → (own us : List ℕ) (r : Result Unit Broken) → own ≡ set v.owners u i → Pushed v.uses us h.n h.m list u r
    → (r ≡ Ok tt) × HoldsAt h (u + 1) (put uses (put owners v own) us) (linked g i (list ∷ []))
link_holds h u list i v g H hl room lo own us r e P =
    let R = H.range in
    let p = parents_link h.n h.m h.ids u h.depth v.uses v.owners v.pending g.parents g.pending H.parents list i hl R.ids_in (omega arith) lo us own r e P in (
      p.0,
      record {
        range = R;
        ids_are = H.ids_are;
        places_are = H.places_are;
        clean_is = H.clean_is;
        few = H.few;
        linked = omega arith;
        forest = H.forest;
        nodes = H.nodes;
        parents = p.1;
        members = H.members;
        tidy_keys = H.tidy_keys;
        tidy_lists = H.tidy_lists;
        scratch = H.scratch;
      },
    )

-- what `link_one` promises
pub record Links (h : Head) (place i list : ℕ) (r : Result Unit Broken) (ws ws' : List ℕ) : Type 0 where
  pub inside : Inside h.n h.m ws ws'
  pub sound : (g : Graph) → HoldsAt h place (view h.n h.m ws) g → place < h.places
      → (r ≡ Ok tt) × HoldsAt h (place + 1) (view h.n h.m ws') (linked g i (list ∷ []))

pub links : (ws ws1 ws2 : List ℕ) (h : Head) (place i list : ℕ) (r : Result Unit Broken) → HeadOk (length ws) h → list < h.ids
    → Lent owners h.n h.m (Stored place i) ws ws1 → Lent uses h.n h.m (λ w w'. Pushed w w' h.n h.m list place r) ws1 ws2
    → Links h place i list r ws ws2
links ws ws1 ws2 h place i list r ok hl O U =
    let a1 = lent_next O refl in
    let a2 = lent_next U a1.is in
    record {
      inside = inside_then (inside_lent (λ v l. refl) O) (inside_lent (λ v l. refl) U);
      sound = λ g H lt.
          let k = link_holds h place list i (view h.n h.m ws) g H hl lt (get_length owners h.n h.m ws ok.lent) a1.new a2.new r a1.did a2.did in
          (k.0, rw a2.is k.1);
    }

-- ---- all the places of a node

-- what `link_all` promises, for the children ks from place `base` on; and what holds on its way, for the children so far
pub record LinksAll (h : Head) (base i : ℕ) (ks : List ℕ) (r : Result Unit Broken) (ws ws' : List ℕ) : Type 0 where
  pub inside : Inside h.n h.m ws ws'
  pub sound : (g : Graph) → HoldsAt h base (view h.n h.m ws) g → (r ≡ Ok tt) × HoldsAt h (base + length ks) (view h.n h.m ws') (linked g i ks)

pub links_none : (h : Head) (base i : ℕ) (ws : List ℕ) → LinksAll h base i [] (Ok tt) ws ws
unfolding link
links_none h base i ws = record {
  inside = inside_same h.n h.m ws;
  sound = λ g H. (refl, subst (λ (u : ℕ). HoldsAt h u (view h.n h.m ws) g) (omega arith) H);
}

links_next : (h : Head) (base i list place : ℕ) (ks : List ℕ) (r : Result Unit Broken) (ws ws1 ws2 : List ℕ) → LinksAll h base i ks (Ok tt) ws ws1 → place ≡ base + length ks
    → place < h.places → Links h place i list r ws1 ws2 → LinksAll h base i (ks ++ (list ∷ [])) r ws ws2
links_next h base i list place ks r ws ws1 ws2 A e room L = record {
  inside = inside_then A.inside L.inside;
  sound = λ g H.
      let a = (A.sound g H).1 in
      let b = L.sound (linked g i ks) (rw e a) room in
      let s : place + 1 ≡ base + length (ks ++ (list ∷ [])) = omega (arith, length_more ks list) in
      (b.0, rw (← s, link_append i ks (list ∷ []) g.parents) b.1);
}

pub links_more : (h : Head) (base i list j place : ℕ) (ks : List ℕ) (r : Result Unit Broken) (ws ws1 ws2 : List ℕ) → LinksAll h base i (take j ks) (Ok tt) ws ws1 → j < length ks
    → base + length ks ≤ h.places → place ≡ base + j → list ≡ at ks j → Links h place i list r ws1 ws2 → LinksAll h base i (take (j + 1) ks) r ws ws2
links_more h base i list j place ks r ws ws1 ws2 A lt room ep el L =
    let t : take (j + 1) ks ≡ take j ks ++ (list ∷ []) = rw (add-one j, el) (take-suc ks j 0 lt) in
    rw t (links_next h base i list place (take j ks) r ws ws1 ws2 A (omega (arith, length-take-le j ks (omega arith))) (omega arith) L)

pub links_all : (h : Head) (base i j : ℕ) (ks : List ℕ) (ws ws' : List ℕ) → LinksAll h base i (take j ks) (Ok tt) ws ws' → j ≡ length ks → LinksAll h base i ks (Ok tt) ws ws'
links_all h base i j ks ws ws' A e = rw (e, take-length ks) at A

-- a place that is not taken: no graph is held
pub links_broken : (h : Head) (base i : ℕ) (js ks : List ℕ) (r : Result Unit Broken) (ws ws' : List ℕ) → LinksAll h base i js r ws ws' → r ≡ broken → LinksAll h base i ks broken ws ws'
links_broken h base i js ks r ws ws' A e = record { inside = A.inside; sound = λ g H. apart e (A.sound g H).0 }
