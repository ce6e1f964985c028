-- The steps of an add put together: the new id stored, entered in the table, linked to its children's classes and pushed on pending. `Grows` is what `grow` promises.
-- Assumes nothing.
use Rattle.std.specs.Prelude.{Ok, Result, false, List, [], ◌++◌, ◌∷◌, ◌≡◌, refl, ◌*◌, ◌+◌, ◌<◌, ◌≤◌, ℕ, length, None}
use Rattle.broken.specs.declared.Broken.{Broken}
use Rattle.broken.specs.Words.{apart, broken, err≢ok}
use Rattle.std.proofs.Common.{ap, arith}
use Rattle.holds.specs.HoldsLaws.{root_again}
use Rattle.language.specs.Term.{Term}
use Rattle.steps.specs.Graph.{Graph, canon, ids, kept}
use Rattle.steps.specs.Machine.{grow, keyed, linked, marked, pushed, stored}
use Rattle.closure.specs.Tables.{Live, canon_live}
use Rattle.growing.specs.Connect.{Connects}
use Rattle.growing.specs.Enter.{Enters, Waits}
use Rattle.growing.specs.Push.{deeper}
use Rattle.growing.specs.Store.{Stores, stored_numbers}
use Rattle.holds.specs.Holds.{HoldsAt}
use Rattle.holds.specs.Inside.{Inside, Near, inside_then}
use Rattle.holds.specs.NodesLaws.{live_more}
use Rattle.layout.specs.Head.{HeadOk}
use Rattle.layout.specs.View.{View, view}
use Rattle.layout.specs.declared.Head.{Head}

-- what the graph must be for an add of the node x under the key k
pub record Addable (h : Head) (x k : Term) (v : View) (g : Graph) : Type 0 where
  pub holds : HoldsAt h h.places v g
  pub key : k ≡ canon g.roots x
  pub new : kept k g.memo ≡ None

-- what `grow` promises: on any words the numbers that the head is left with are in range; on words that hold a graph it is the machine's own step
pub record Grows (h : Head) (x k : Term) (r : Result Head Broken) (ws ws' : List ℕ) : Type 0 where
  pub inside : Inside h.n h.m ws ws'
  pub range : (s : Head) → r ≡ Ok s → Near (length ws) h s × (s.ids ≡ h.ids + 1)
  pub sound : (g : Graph) → Addable h x k (view h.n h.m ws) g → (s : Head) × (r ≡ Ok s) × HoldsAt s s.places (view h.n h.m ws') (grow g x)

-- ---- from step to step

-- the graph once the id is in the table
abbrev kept_graph : Graph → Term → Term → ℕ → Graph
kept_graph g x k i = keyed (stored (marked g false) x) k i

grow_is : (g : Graph) (x k : Term) (i : ℕ) → k ≡ canon g.roots x → i ≡ ids g → pushed (linked (kept_graph g x k i) i k.kids) i ≡ grow g x
unfolding grow
grow_is g x k i e ei = rw (e, ei) refl

-- the steps so far, from the words ws: where these held a graph g to which the node can be added, the steps are done, and B holds of g
pub record Goes (h : Head) (x k : Term) (r : Result Unit Broken) (B : Graph → Type 0) (ws ws' : List ℕ) : Type 0 where
  pub inside : Inside h.n h.m ws ws'
  pub sound : (g : Graph) → Addable h x k (view h.n h.m ws) g → (r ≡ Ok tt) × B g

-- a step that is not done: the words held no graph to which the node can be added
pub grown_broken : {h : Head} {x k : Term} {B : Graph → Type 0} {r : (Result Unit Broken)} {ws ws' : List ℕ} → Goes h x k r B ws ws' → r ≡ broken → Grows h x k broken ws ws'
grown_broken {r = r} G e = record {
  inside = G.inside;
  range = λ t q. err≢ok q;
  sound = λ g a. apart e (G.sound g a).0;
}

module _ (h : Head) (c : ℕ) (x k : Term) where
  -- the head once the id is stored
  abbrev more : Head
  more = stored_numbers h c

  goes_then : {A B : Graph → Type 0} {r q : (Result Unit Broken)} {ws ws1 ws2 : List ℕ} → Goes h x k r A ws ws1 → Inside h.n h.m ws1 ws2
      → ((g : Graph) → Addable h x k (view h.n h.m ws) g → A g → (q ≡ Ok tt) × B g) → Goes h x k q B ws ws2
  goes_then G I f = record { inside = inside_then G.inside I; sound = λ g a. f g a (G.sound g a).1 }

  module _ (r : Result Unit Broken) (ws ws1 : List ℕ) (S : Stores h c x k r ws ws1) where
    pub goes_stored : Goes h x k r (λ g. Waits more h.places (view h.n h.m ws1) (stored (marked g false) x) h.ids k) ws ws1
    goes_stored = record {
      inside = S.inside;
      sound = λ g a. S.sound g h.places a.holds (ap (λ (t : Term). t.op) a.key) (ap (λ (t : Term). t.payload) a.key);
    }

    module _ (q : Result Unit Broken) (ws2 : List ℕ) (E : Enters more h.ids k q ws1 ws2) where
      pub goes_entered : Goes h x k q (λ g. HoldsAt more h.places (view h.n h.m ws2) (kept_graph g x k h.ids)) ws ws2
      goes_entered = goes_then goes_stored E.inside (λ g a w. E.sound (stored (marked g false) x) h.places w (live g a) a.new)
        where
          live : (g : Graph) → Addable h x k (view h.n h.m ws) g → Live (g.roots ++ (ids g ∷ [])) k
          live g a = rw (← a.holds.ids_are) (live_more g.roots h.ids k a.holds.forest.len (rw a.key (canon_live g.roots x (root_again a.holds.forest))))

      pub goes_connected : (s : Result Unit Broken) (ws3 : List ℕ) → Connects more h.places h.ids k.kids s ws2 ws3 → length k.kids ≡ c
          → Goes h x k s (λ g. HoldsAt (deeper more) more.places (view h.n h.m ws3) (grow g x)) ws ws3
      goes_connected s ws3 C ek = goes_then goes_entered C.inside (λ g a w.
          let p = rw ek at (C.sound (kept_graph g x k h.ids) w (omega (arith, a.holds.few))) in
          (p.0, rw (← grow_is g x k h.ids a.key a.holds.ids_are) p.1))

  pub grown_done : {r : (Result Unit Broken)} {ws ws' : List ℕ} → Goes h x k r (λ g. HoldsAt (deeper more) more.places (view h.n h.m ws') (grow g x)) ws ws'
      → HeadOk (length ws) h → h.ids < h.n → h.places + c ≤ h.m → h.depth < 2 * h.n → Grows h x k (Ok (deeper more)) ws ws'
  grown_done {ws = ws} G o id_room place_room depth_room = record {
    inside = G.inside;
    range = λ t q. let e : deeper more ≡ t = cc in rw (← e) (record { ok = ok; n_is = refl; m_is = refl }, refl);
    sound = λ g a. (deeper more, refl, (G.sound g a).1);
  }
    where
      ok : HeadOk (length ws) (deeper more)
      ok = record {
        n_low = o.n_low;
        n_high = o.n_high;
        m_high = o.m_high;
        ids_in = omega arith;
        places_in = place_room;
        depth_in = omega arith;
        classes_in = omega (arith, o.classes_in);
        lent = o.lent;
      }
