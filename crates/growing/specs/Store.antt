-- A new id: a root of its own, with its node and key stored, and a member of its own class; unclean. It is not yet in the table, in no parent list and not pending.
-- Assumes nothing.
use Rattle.std.specs.Prelude.{Ok, Result, false, List, [], ◌++◌, ◌∷◌, ◌≡◌, refl, ◌+◌, ◌<◌, ◌≤◌, ℕ, length}
use Rattle.broken.specs.declared.Broken.{Broken}
use Rattle.std.proofs.Common.{subst, sym, arith}
use Rattle.std.proofs.lemmas.Bool.{false≢true}
use Rattle.lists.specs.Reads.{length_more}
use Rattle.language.specs.Term.{Term}
use Rattle.steps.specs.Graph.{Graph}
use Rattle.steps.specs.Machine.{marked, stored}
use Rattle.cells.specs.Changes.{Pushed}
use Rattle.growing.specs.Enter.{Waits}
use Rattle.holds.specs.Holds.{HoldsAt}
use Rattle.holds.specs.Inside.{Inside, inside_lent, inside_then}
use Rattle.holds.specs.MembersLaws.{members_more}
use Rattle.holds.specs.NodesLaws.{nodes_more}
use Rattle.holds.specs.ParentsLaws.{parents_more}
use Rattle.layout.specs.Cut.{forest, members, rows}
use Rattle.layout.specs.Lent.{Lent, lent_next}
use Rattle.layout.specs.View.{View, put, view}
use Rattle.layout.specs.declared.Head.{Head}
use Rattle.rows.specs.Places.{taken_more}
use Rattle.rows.specs.Promise.{Stored}
use Rattle.unionfind.specs.Promise.{MakesSet}

-- the head with one id more, whose node has c children
abbrev pub stored_numbers : Head → ℕ → Head
stored_numbers h c = record { n = h.n; m = h.m; ids = h.ids + 1; places = h.places + c; depth = h.depth; classes = h.classes + 1; clean = false }

-- the graph with the node x, whose id has the root z
abbrev with_root : Graph → Term → ℕ → Graph
with_root g x z = record { nodes = g.nodes ++ (x ∷ []); roots = g.roots ++ (z ∷ []); parents = g.parents ++ ([] ∷ []); memo = g.memo; pending = g.pending; clean = false }

-- over a view
pub store_holds : (h : Head) (u c : ℕ) (x k : Term) (v : View) (g : Graph) → HoldsAt h u v g → h.ids < h.n → h.places + c ≤ h.m → c ≡ length x.kids
    → k.op ≡ x.op → k.payload ≡ x.payload
    → (f rs ms : List ℕ) (r : Result Unit Broken) → MakesSet v.forest h.ids f → Stored v.rows rs h.n h.m h.ids h.places x k
    → Pushed v.members ms h.n h.n h.ids h.ids r
    → (r ≡ Ok tt) × Waits (stored_numbers h c) u (put members (put rows (put forest v f) rs) ms) (stored (marked g false) x) h.ids k
store_holds h u c x k v g H hi hp ec eo el f rs ms r F S M =
    let R = H.range in
    let N = nodes_more h.n h.m v.rows v.table g.nodes g.roots g.memo H.nodes h.ids h.places x k rs (sym H.ids_are) H.forest.len S H.places_are eo el in
    let K = members_more h.n h.ids v.members ms g.nodes g.roots x r (sym H.ids_are) H.forest.len hi H.members M in
    let at_id : Waits (stored_numbers h c) u (put members (put rows (put forest v f) rs) ms) (with_root g x h.ids) h.ids k = record {
      holds = record {
        range = record { n_low = R.n_low; n_high = R.n_high; m_high = R.m_high; ids_in = omega arith; places_in = hp; depth_in = R.depth_in; classes_in = omega arith };
        ids_are = omega (arith, length_more g.nodes x, H.ids_are);
        places_are = omega (arith, taken_more g.nodes x, H.places_are);
        clean_is = refl;
        few = omega (arith, H.few);
        linked = omega (arith, H.linked);
        forest = F.law h.classes g.roots H.forest;
        nodes = N.nodes;
        parents = parents_more h.n h.m h.ids u h.depth v.uses v.owners v.pending g.parents g.pending H.parents;
        members = K.1;
        tidy_keys = λ e. absurd (false≢true e);
        tidy_lists = λ e. absurd (false≢true e);
        scratch = H.scratch;
      };
      low = omega arith;
      out = N.out;
      key = N.key;
    } in
    (K.0, subst (λ (z : ℕ). Waits (stored_numbers h c) u (put members (put rows (put forest v f) rs) ms) (with_root g x z) h.ids k) H.ids_are at_id)

-- what `store` promises
pub record Stores (h : Head) (c : ℕ) (x k : Term) (r : Result Unit Broken) (ws ws' : List ℕ) : Type 0 where
  pub inside : Inside h.n h.m ws ws'
  pub sound : (g : Graph) (u : ℕ) → HoldsAt h u (view h.n h.m ws) g → k.op ≡ x.op → k.payload ≡ x.payload
      → (r ≡ Ok tt) × Waits (stored_numbers h c) u (view h.n h.m ws') (stored (marked g false) x) h.ids k

pub stores : (ws ws1 ws2 ws3 : List ℕ) (h : Head) (c : ℕ) (x k : Term) (r : Result Unit Broken) → h.ids < h.n → h.places + c ≤ h.m → c ≡ length x.kids
    → Lent forest h.n h.m (λ f f'. MakesSet f h.ids f') ws ws1
    → Lent rows h.n h.m (λ w w'. Stored w w' h.n h.m h.ids h.places x k) ws1 ws2
    → Lent members h.n h.m (λ w w'. Pushed w w' h.n h.n h.ids h.ids r) ws2 ws3
    → Stores h c x k r ws ws3
stores ws ws1 ws2 ws3 h c x k r hi hp ec F S M =
    let a1 = lent_next F refl in
    let a2 = lent_next S a1.is in
    let a3 = lent_next M a2.is in
    record {
      inside = inside_then (inside_lent (λ v l. refl) F) (inside_then (inside_lent (λ v l. refl) S) (inside_lent (λ v l. refl) M));
      sound = λ g u H eo el.
          let q = store_holds h u c x k (view h.n h.m ws) g H hi hp ec eo el a1.new a2.new a3.new r a1.did a2.did a3.did in
          (q.0, rw a3.is q.1);
    }
