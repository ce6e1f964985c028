-- One class tidied, over a view: its ids in the work area, sorted by their keys, each key once, are the nodes of the class in node order; and the member lists
-- with them in the place of the old list stand for the same classes.
-- Assumes nothing.
use Rattle.std.specs.Prelude.{Ok, Result, List, [], ◌++◌, ◌∷◌, map, ◌≡◌, refl, ◌+◌, ◌<◌, ◌≤◌, ℕ, length, set, take}
use Rattle.broken.specs.declared.Broken.{Broken}
use Rattle.std.proofs.Common.{◌∙◌, ap, subst, sym, arith, drop_at, get_or-set_same, get_or-take, length-take-le, set-set, take_at}
use Rattle.std.proofs.lemmas.List.{length-map, set-get_or}
use Rattle.lists.specs.Sorted.{ascending_once}
use Rattle.lists.specs.Members.{Mem, all_members, map_same, mem_at, mem-map, mem-of-map}
use Rattle.lists.specs.Reads.{at, at_right, set_all}
use Rattle.language.specs.Ordered.{Before, before_self}
use Rattle.language.specs.Sorted.{insert, sorted, sorted_has}
use Rattle.language.specs.Term.{Term}
use Rattle.steps.specs.Classes.{class_nodes}
use Rattle.steps.specs.Graph.{Graph, ids, key_of}
use Rattle.closure.specs.Listed.{nodes_ascending}
use Rattle.cells.specs.Free.{free_emptied}
use Rattle.cells.specs.Pool.{Free, Pool, empty_l, row}
use Rattle.cells.specs.Rows.{fits}
use Rattle.holds.specs.Holds.{HoldsAt, UpToDate}
use Rattle.holds.specs.Members.{Members}
use Rattle.holds.specs.MembersLaws.{members_set, members_sorted}
use Rattle.layout.specs.Cut.{members, sorting}
use Rattle.layout.specs.View.{View, put}
use Rattle.layout.specs.declared.Head.{Head}
use Rattle.rows.specs.Determined.{read_key}
use Rattle.rows.specs.Rows.{size}
use Rattle.sorting.specs.Ids.{key_of as sort_key}
use Rattle.sorting.specs.Promise.{Sorts}
use Rattle.tidying.specs.Refill.{Fresh, fill}
use Rattle.tidying.specs.Says.{ClassTidied}

-- sorted, the keys of a list are the nodes of its class
pub class_sorted : (g : Graph) (n N : ℕ) (ms : List ℕ) (M : Members n N ms g.nodes g.roots) → N ≡ ids g → (a : ℕ)
    → sorted (map (key_of g) (row M.lists a)) ≡ class_nodes g a
class_sorted g n N ms M e a =
    subst (λ (K : ℕ). (M : Members n K ms g.nodes g.roots) → sorted (map (key_of g) (row M.lists a)) ≡ class_nodes g a) (sym e)
    (λ M. members_sorted g n ms M a) M

-- a list of one node, or of none, is sorted
sorted_short : (xs : List Term) → length xs < 2 → sorted xs ≡ xs
unfolding sorted insert
sorted_short [] h = refl
sorted_short (x ∷ []) h = refl
sorted_short (x ∷ y ∷ xs) h = absurd (omega arith)

-- a list given up and filled with d ids is replaced by them
fill_emptied : (L : List (List ℕ)) (a : ℕ) (s : List ℕ) (d : ℕ) → a < length L → fill (empty_l L a) a s d ≡ set L a (take d s)
unfolding fill empty_l
fill_emptied L a s d h = rw (get_or-set_same L a [] [] h) (set-set L a [] (take d s))

module _ {h : Head} {u : ℕ} {v : View} {g : Graph} (H : HoldsAt h u v g) (a : ℕ) (ha : a < h.n) where
  abbrev list : List ℕ
  list = row H.members.lists a

  -- the length word
  pub class_length : (k : ℕ) → k ≡ at v.members (a + h.n + h.n) → k ≡ length (row H.members.lists a)
  class_length k e = e ∙ (H.members.pool.rows a ha).size

  pub class_few : (k : ℕ) → k ≡ at v.members (a + h.n + h.n) → k ≤ h.n
  class_few k e = omega (arith, class_length k e, fits v.members h.n h.n H.members.lists H.members.pool a ha)

  -- a list of one id, or of none, is tidy as it is
  pub class_short : length (row H.members.lists a) < 2 → ClassTidied H a v
  class_short few = record {
    holds = H;
    keys = refl;
    left = list;
    lists = sym (set-get_or H.members.lists a []);
    tidy =
        sym (sorted_short (map (key_of g) list) (omega (arith, length-map list (key_of g))))
        ∙ class_sorted g h.n h.ids v.members H.members H.ids_are a;
  }

  module _ (k : ℕ) (s1 s2 : List ℕ) (r : Result ℕ Broken) (ek : k ≡ length list) (copied : take k s1 ≡ list)
      (S : Sorts (v.rows ++ s1) (v.rows ++ s2) h.n h.m k r) where
    -- a word behind the rows
    behind : (s : List ℕ) (p : ℕ) → at (v.rows ++ s) (size h.n h.m + p) ≡ at s p
    behind s p = at_right v.rows s (size h.n h.m + p) p (omega (arith, H.nodes.rows.words))

    -- they are ids, so they are sorted
    pub class_sorts : (d : ℕ) × (r ≡ Ok d)
    class_sorts = S.ids (λ p l. rw (behind s1 p, ← get_or-take k s1 p 0 l, copied) ((H.members.pool.rows a ha).low p (omega arith)))

    module _ (now : UpToDate H) (d : ℕ) (er : r ≡ Ok d) (high : d ≤ length s2) where
      -- the key by which an id of the class is sorted
      key_is : (x : ℕ) → Mem x list → sort_key (v.rows ++ s1) h.n h.m x ≡ key_of g x
      key_is x m =
          let low : x < ids g = omega (arith, (H.members.in_class a x m).0, H.ids_are) in
          rw (take_at v.rows s1 (size h.n h.m) H.nodes.rows.words)
          (read_key v.rows h.n h.m g.nodes H.nodes.keys H.nodes.rows x low ∙ now x low)

      -- what is left was in the list
      left_from : (z : ℕ) → Mem z (take d s2) → Mem z list
      left_from =
          rw (drop_at v.rows s2 (size h.n h.m) H.nodes.rows.words, drop_at v.rows s1 (size h.n h.m) H.nodes.rows.words, copied)
          at (S.done d er).from

      -- its keys are those of the list, sorted
      left_sorted : map (sort_key (v.rows ++ s1) h.n h.m) (take d s2) ≡ sorted (map (sort_key (v.rows ++ s1) h.n h.m) list)
      left_sorted =
          rw (drop_at v.rows s2 (size h.n h.m) H.nodes.rows.words, drop_at v.rows s1 (size h.n h.m) H.nodes.rows.words, copied)
          at (S.done d er).keys

      -- which are the nodes of the class
      left_keys : map (key_of g) (take d s2) ≡ class_nodes g a
      left_keys =
          sym (map_same (sort_key (v.rows ++ s1) h.n h.m) (key_of g) (take d s2) (λ x m. key_is x (left_from x m)))
          ∙ left_sorted
          ∙ ap sorted (map_same (sort_key (v.rows ++ s1) h.n h.m) (key_of g) list key_is)
          ∙ class_sorted g h.n h.ids v.members H.members H.ids_are a

      -- none stands twice, and none is in another list
      pub left_fresh : Fresh (empty_l H.members.lists a) h.n s2 d
      left_fresh = record {
        low = λ i l. rw (behind s2 i) at ((S.done d er).below i l);
        free = λ i l. all_members (λ x. Free (empty_l H.members.lists a) x) list
            (λ j lt. free_emptied H.members.lists a j (omega (arith, H.members.pool.count)) lt H.members.pool.apart)
            (at s2 i) (left_from (at s2 i) (rw (← get_or-take d s2 i 0 l) (mem_at (take d s2) i (omega (arith, length-take-le d s2 high)))));
        once = λ i j l m e.
            ascending_once Before before_self (key_of g) (take d s2) (rw left_keys (nodes_ascending g a)) i j (omega (arith, length-take-le d s2 high)) (omega (arith, length-take-le d s2 high))
            (get_or-take d s2 i 0 l ∙ e ∙ sym (get_or-take d s2 j 0 m));
      }

      -- each key of the list is a key of what is left
      key_left : (x : ℕ) → Mem x list → Mem (key_of g x) (map (key_of g) (take d s2))
      key_left x m =
          rw (left_keys, ← class_sorted g h.n h.ids v.members H.members H.ids_are a)
          (sorted_has (key_of g x) (map (key_of g) list) (mem-map (key_of g) m))

      left_covers : (x : ℕ) → Mem x list → (y : ℕ) × Mem y (take d s2) × (key_of g y ≡ key_of g x)
      left_covers x m = mem-of-map (key_of g) (take d s2) (key_left x m)

      module _ (ms : List ℕ) (P : Pool ms h.n h.n (fill (empty_l H.members.lists a) a s2 d)) where
        in_lists : a < length H.members.lists
        in_lists = omega (arith, H.members.pool.count)

        new_members : (M : Members h.n h.ids ms g.nodes g.roots) × (M.lists ≡ set H.members.lists a (take d s2))
        new_members = members_set h.n h.ids v.members ms g.nodes g.roots a (take d s2) (set H.members.lists a (take d s2)) ha H.members
            left_from left_covers refl (rw (fill_emptied H.members.lists a s2 d in_lists) at P)

        pub class_tidied : ClassTidied H a (put members (put sorting v s2) ms)
        class_tidied =
            let M = new_members in
            record {
              holds = record {
                range = H.range;
                ids_are = H.ids_are;
                places_are = H.places_are;
                clean_is = H.clean_is;
                few = H.few;
                linked = H.linked;
                forest = H.forest;
                nodes = H.nodes;
                parents = H.parents;
                members = M.0;
                tidy_keys = H.tidy_keys;
                tidy_lists = λ c q. rw M.1 (set_all (λ q zs. map (key_of g) zs ≡ class_nodes g q) H.members.lists a (take d s2) [] in_lists left_keys (λ j ne. H.tidy_lists c j) q);
                scratch = H.scratch;
              };
              keys = refl;
              left = take d s2;
              lists = M.1;
              tidy = left_keys;
            }
