-- The new id goes on the pending list: one entry of its own on the stack.
-- Assumes nothing.
use Rattle.std.specs.Prelude.{Ok, Result, List, ◌≡◌, refl, ◌*◌, ◌+◌, ◌<◌, ℕ}
use Rattle.broken.specs.declared.Broken.{Broken}
use Rattle.std.proofs.Common.{arith}
use Rattle.steps.specs.Graph.{Graph}
use Rattle.steps.specs.Machine.{pushed}
use Rattle.holds.specs.Holds.{HoldsAt}
use Rattle.holds.specs.Inside.{Inside, inside_lent}
use Rattle.holds.specs.ParentsLaws.{parents_push}
use Rattle.layout.specs.Cut.{pending}
use Rattle.layout.specs.Lent.{Lent, lent_next}
use Rattle.layout.specs.View.{View, put, view}
use Rattle.layout.specs.declared.Head.{Head}
use Rattle.pending.specs.Promise.{Pushes}
use Rattle.holds.specs.HoldsLaws.{at_depth}

-- one entry more on the stack
abbrev pub deeper : Head → Head
deeper h = at_depth h (h.depth + 1)

-- over a view
pub push_holds : (h : Head) (u i : ℕ) (v : View) (g : Graph) → HoldsAt h u v g → h.depth + h.classes < 2 * h.ids
    → (st : List ℕ) → Pushes v.pending h.depth i 0 st → HoldsAt (deeper h) u (put pending v st) (pushed g i)
push_holds h u i v g H room st P =
    let R = H.range in
    record {
      range = record { n_low = R.n_low; n_high = R.n_high; m_high = R.m_high; ids_in = R.ids_in; places_in = R.places_in; depth_in = omega arith; classes_in = R.classes_in };
      ids_are = H.ids_are;
      places_are = H.places_are;
      clean_is = H.clean_is;
      few = omega arith;
      linked = H.linked;
      forest = H.forest;
      nodes = H.nodes;
      parents = parents_push h.n h.m h.ids u h.depth v.uses v.owners v.pending g.parents g.pending H.parents i st P;
      members = H.members;
      tidy_keys = H.tidy_keys;
      tidy_lists = H.tidy_lists;
      scratch = H.scratch;
    }

-- what `push` promises; a graph that is held lacks no room, since an id was just added to it
pub record PushesId (h : Head) (i : ℕ) (r : Result Unit Broken) (ws ws' : List ℕ) : Type 0 where
  pub inside : Inside h.n h.m ws ws'
  pub room : r ≡ Ok tt → h.depth < 2 * h.n
  pub sound : (g : Graph) (u : ℕ) → HoldsAt h u (view h.n h.m ws) g → h.depth + h.classes < 2 * h.ids
      → (r ≡ Ok tt) × HoldsAt (deeper h) u (view h.n h.m ws') (pushed g i)

pub push_done : (h : Head) (i : ℕ) (ws ws' : List ℕ) → h.depth < 2 * h.n → Lent pending h.n h.m (λ w w'. Pushes w h.depth i 0 w') ws ws' → PushesId h i (Ok tt) ws ws'
push_done h i ws ws' room L =
    let a = lent_next L refl in
    record {
      inside = inside_lent (λ v l. refl) L;
      room = λ _. room;
      sound = λ g u H few. (refl, rw a.is (push_holds h u i (view h.n h.m ws) g H few a.new a.did));
    }
