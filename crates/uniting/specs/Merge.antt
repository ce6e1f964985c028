-- One class taken up by another: what the four parts promise, taken together, is the machine's `merge`. And on words that hold a graph there is room for it.
-- Assumes nothing.
use Rattle.std.specs.Prelude.{Result, List, ◌≢◌, ◌≡◌, refl, ◌*◌, ◌+◌, ◌-◌, ◌<◌, ◌≤◌, ℕ}
use Rattle.broken.specs.declared.Broken.{Broken}
use Rattle.std.proofs.Common.{arith}
use Rattle.std.proofs.lemmas.Bool.{false≢true}
use Rattle.lists.specs.Reads.{at}
use Rattle.steps.specs.Graph.{Graph, root}
use Rattle.steps.specs.Machine.{merge}
use Rattle.cells.specs.Changes.{Joined}
use Rattle.holds.specs.NodesLaws.{nodes_merge}
use Rattle.holds.specs.Holds.{HoldsAt, Range}
use Rattle.holds.specs.MembersLaws.{members_merge}
use Rattle.holds.specs.ParentsLaws.{parents_merge}
use Rattle.layout.specs.Cut.{forest, members, pending, uses}
use Rattle.layout.specs.View.{View, put}
use Rattle.layout.specs.declared.Head.{Head}
use Rattle.pending.specs.Promise.{PushesStretch}
use Rattle.unionfind.specs.Forest.{classes_some}
use Rattle.unionfind.specs.Promise.{Unites}
use Rattle.uniting.specs.Says.{merged_numbers}

module _ {h : Head} {u : ℕ} {v : View} {g : Graph} (H : HoldsAt h u v g) (stay lose : ℕ) (hs : stay < h.ids) (hl : lose < h.ids) (ne : stay ≢ lose)
    (rs : root g.roots stay ≡ stay) (rl : root g.roots lose ≡ lose) where
  -- room for one entry more of pending, and a class to lose
  pub merge_room : (h.depth < 2 * h.n) × (1 ≤ h.classes)
  merge_room =
      let c = classes_some H.forest lose hl in
      let w = H.few in
      let o = H.range.ids_in in
      (omega arith, omega arith)

  module _ (us' st' ms' f' : List ℕ) (r q : Result Unit Broken) (d : ℕ) (J : Joined v.uses us' h.n h.m stay lose r)
      (K : PushesStretch v.pending h.depth (at v.uses lose) (at v.uses (lose + h.n + h.n)) d st')
      (M : Joined v.members ms' h.n h.n stay lose q) (F : Unites v.forest stay lose f') where
    merge_range : Range (merged_numbers h d)
    merge_range =
        let o = H.range in
        let room = merge_room in
        let high = K.high in
        omega arith

    pub holds_merge : HoldsAt (merged_numbers h d) u (put forest (put members (put pending (put uses v us') st') ms') f') (merge g stay lose)
    unfolding merge root
    holds_merge =
        let room = merge_room in
        let few = H.few in
        let high = K.high in
        let len = H.forest.len in
        record {
          range = merge_range;
          ids_are = H.ids_are;
          places_are = H.places_are;
          clean_is = refl;
          few = omega arith;
          linked = H.linked;
          forest = F.law h.ids h.classes (h.classes - 1) g.roots H.forest (omega arith) hs hl ne rs rl;
          nodes = (nodes_merge _ _ _ _ _ _ _ H.nodes stay lose (omega arith) rs).0;
          parents = (parents_merge _ _ _ _ _ _ _ _ _ _ H.parents stay lose hs hl ne H.range.ids_in d us' st' r J K).1;
          members = (members_merge _ _ _ ms' _ _ stay lose q len H.range.ids_in hs hl ne H.members M).1;
          tidy_keys = λ e. absurd (false≢true e);
          tidy_lists = λ e. absurd (false≢true e);
          scratch = H.scratch;
        }
