-- What the words of a graph say of its classes: an id is a root exactly where its list has members; in a clean graph the nodes that its list reads as are the nodes of
-- its class; the lists have no more members in all than there are ids; and the counts and lists of the words are those of the graph.
-- Assumes nothing.
use Rattle.std.specs.Prelude.{true, ◌≡◌, ◌<◌, ◌≤◌, ℕ}
use mathlib.Core.List.{List, filter, map}
use Rattle.std.proofs.Common.{◌∙◌, arith}
use Rattle.std.proofs.Math.Path.{ap, sym}
use Rattle.std.proofs.Math.Decide.{dec_lt, ℕ_discrete}
use Rattle.std.proofs.Math.ListN.{length, length-map}
use Rattle.lists.specs.Keeps.{any, filter_from, length_upto, mem_filter, mem_upto, upto, upto_lt}
use Rattle.lists.specs.Members.{Mem, map_same, mem_at, mem_length}
use Rattle.lists.specs.Reads.{at}
use Rattle.lists.specs.Sorted.{filter_ascending, one_list, upto_ascending}
use Rattle.lists.specs.Sums.{parted, sum_filter, sum_le, sum_of, sum_same}
use Rattle.language.specs.Sorted.{sorted_le}
use Rattle.language.specs.Term.{Term}
use Rattle.steps.specs.Classes.{class_nodes, class_roots, classes_for_op, members, total_number_of_nodes}
use Rattle.steps.specs.Graph.{Graph, ids, key_of, root}
use Rattle.closure.specs.Listed.{for_op_from, for_op_has, roots_ascending, roots_from, roots_has}
use Rattle.cells.specs.Pool.{row}
use Rattle.holds.specs.Holds.{HoldsAt}
use Rattle.holds.specs.HoldsLaws.{root_again}
use Rattle.layout.specs.View.{View}
use Rattle.layout.specs.declared.Head.{Head}
use Rattle.rows.specs.Determined.{read_key, sane}
use Rattle.rows.specs.Read.{Sane, key_read}
use Rattle.eclass.specs.ClassCount.{total_of}
use Rattle.eclass.specs.ClassWalk.{Fine, class_ids, class_read, ids_are, len_of}

lt_chain : (x y z : ℕ) → x < y → y < z → x < z
lt_chain x y z a b = omega arith

lt_never : (x : ℕ) → x < x → ⊥
lt_never x a = omega arith

-- the ids whose list has members, below k
abbrev pub listed_roots : List ℕ → ℕ → ℕ → List ℕ
listed_roots ms n k = filter (λ (r : ℕ). dec_lt 0 (len_of ms n r)) (upto k)

-- the ids below k whose list has a node with operator o
abbrev pub listed_for_op : List ℕ → List ℕ → ℕ → ℕ → ℕ → ℕ → List ℕ
listed_for_op ms rs n m o k = filter (λ (r : ℕ). any (λ (x : Term). ℕ_discrete x.op o) (class_read ms rs n m r)) (upto k)

module _ {h : Head} {u : ℕ} {v : View} {g : Graph} (H : HoldsAt h u v g) where
  -- the list of r, as it is held
  pub ids_row : (r : ℕ) → r < h.n → class_ids v.members h.n r ≡ row H.members.lists r
  ids_row r l = ids_are v.members h.n h.n H.members.lists H.members.pool r l

  len_row : (r : ℕ) → r < h.n → len_of v.members h.n r ≡ length (row H.members.lists r)
  len_row r l = (H.members.pool.rows r l).size

  -- ---- a root is an id whose list has members

  pub root_listed : (r : ℕ) → r < h.ids → root g.roots r ≡ r → 0 < len_of v.members h.n r
  root_listed r l e =
      let a = H.members.all r l in
      let m : Mem a.0 (row H.members.lists r) = rw e at a.1 in
      omega (arith, mem_length m, len_row r (omega (arith, H.range.ids_in)))

  pub listed_root : (r : ℕ) → r < h.n → 0 < len_of v.members h.n r → root g.roots r ≡ r
  listed_root r l s =
      let m = mem_at (row H.members.lists r) 0 (omega (arith, len_row r l)) in
      let e = (H.members.in_class r (at (row H.members.lists r) 0) m).1 in
      rw (← e) (root_again H.forest (at (row H.members.lists r) 0))

  pub roots_listed : listed_roots v.members h.n h.ids ≡ class_roots g
  roots_listed =
      one_list ◌<◌ lt_chain lt_never (filter_ascending ◌<◌ (λ (r : ℕ). dec_lt 0 (len_of v.members h.n r)) (upto_ascending h.ids)) (roots_ascending g)
      (λ r m. let f = filter_from (λ (r : ℕ). dec_lt 0 (len_of v.members h.n r)) (upto h.ids) m in
      let l = upto_lt h.ids r f.0 in
      roots_has g r (omega (arith, H.ids_are)) (listed_root r (omega (arith, H.range.ids_in)) f.1))
      (λ r m. let f = roots_from g r m in
      let l : r < h.ids = omega (arith, H.ids_are, f.0) in
      mem_filter (λ (r : ℕ). dec_lt 0 (len_of v.members h.n r)) (upto h.ids) (mem_upto h.ids r l) (root_listed r l f.1))

  -- ---- no id that is met is broken

  pub members_fine : (r : ℕ) → r < h.n → Fine v.members v.rows h.n h.m h.ids r
  members_fine r l = record { all = each }
    where
      each : (x : ℕ) → Mem x (class_ids v.members h.n r) → (x < h.ids) × Sane v.rows h.n h.m x
      each x m =
          let k : Mem x (row H.members.lists r) = rw (ids_row r l) at m in
          let s : x < h.ids = (H.members.in_class r x k).0 in
          (s, sane v.rows h.n h.m g.nodes H.nodes.keys H.nodes.rows x (omega (arith, H.ids_are)))

  -- ---- in a clean graph

  module _ (clean : g.clean ≡ true) where
    pub nodes_read : (r : ℕ) → r < h.n → class_read v.members v.rows h.n h.m r ≡ class_nodes g r
    nodes_read r l = rw (ids_row r l) (map_same (key_read v.rows h.n h.m) (key_of g) (row H.members.lists r) each ∙ H.tidy_lists clean r)
      where
        each : (x : ℕ) → Mem x (row H.members.lists r) → key_read v.rows h.n h.m x ≡ key_of g x
        each x m =
            let s : x < ids g = omega (arith, (H.members.in_class r x m).0, H.ids_are) in
            read_key v.rows h.n h.m g.nodes H.nodes.keys H.nodes.rows x s ∙ H.tidy_keys clean x s

    pub nodes_counted : (r : ℕ) → r < h.n → len_of v.members h.n r ≡ length (class_nodes g r)
    nodes_counted r l = len_row r l ∙ sym (length-map (row H.members.lists r) (key_of g)) ∙ ap length (H.tidy_lists clean r)

    -- ---- all classes together

    below_n : (r : ℕ) → Mem r (upto h.ids) → r < h.n
    below_n r m = omega (arith, upto_lt h.ids r m, H.range.ids_in)

    pub total_is : total_of v.members h.n h.ids ≡ total_number_of_nodes g
    unfolding total_of
    total_is =
        sym (sum_filter (len_of v.members h.n) (λ (r : ℕ). dec_lt 0 (len_of v.members h.n r)) (upto h.ids) (λ r z. omega arith))
        ∙ ap (sum_of (len_of v.members h.n)) roots_listed
        ∙ sum_same (len_of v.members h.n) (λ (r : ℕ). length (class_nodes g r)) (class_roots g)
        (λ r m. nodes_counted r (omega (arith, (roots_from g r m).0, H.ids_are, H.range.ids_in)))

    pub total_few : total_of v.members h.n h.ids ≤ h.ids
    unfolding total_of
    total_few =
        let a = sum_le (len_of v.members h.n) (λ (r : ℕ). length (members g r)) (upto h.ids) (λ r m. few r (below_n r m)) in
        omega (arith, a, parted (root g.roots) (upto (ids g)) h.ids, length_upto (ids g), H.ids_are)
      where
        few : (r : ℕ) → r < h.n → len_of v.members h.n r ≤ length (members g r)
        few r l = omega (arith, nodes_counted r l, sorted_le (map (key_of g) (members g r)), length-map (members g r) (key_of g))

    -- ---- the classes that have an operator

    pub op_listed : (o : ℕ) → listed_for_op v.members v.rows h.n h.m o h.ids ≡ classes_for_op g o
    op_listed o =
        one_list ◌<◌ lt_chain lt_never
        (filter_ascending ◌<◌ read (upto_ascending h.ids))
        (filter_ascending ◌<◌ (λ (r : ℕ). any (λ (x : Term). ℕ_discrete x.op o) (class_nodes g r)) (roots_ascending g))
        (λ r m. let f = filter_from read (upto h.ids) m in has r (upto_lt h.ids r f.0) f.1.0 f.1.1 f.1.2)
        (λ r m. let f = for_op_from g o r m in from r (roots_from g r f.0).0 f.1.0 f.1.1 f.1.2)
      where
        read : (r : ℕ) → Dec ((x : Term) × Mem x (class_read v.members v.rows h.n h.m r) × (x.op ≡ o))
        read r = any (λ (x : Term). ℕ_discrete x.op o) (class_read v.members v.rows h.n h.m r)

        has : (r : ℕ) → r < h.ids → (x : Term) → Mem x (class_read v.members v.rows h.n h.m r) → x.op ≡ o → Mem r (classes_for_op g o)
        has r l x m e =
            let b : r < h.n = omega (arith, H.range.ids_in) in
            let k : Mem x (class_nodes g r) = rw (nodes_read r b) at m in
            for_op_has g o r (roots_has g r (omega (arith, H.ids_are)) (listed_root r b (omega (arith, nodes_counted r b, mem_length k)))) x k e

        from : (r : ℕ) → r < ids g → (x : Term) → Mem x (class_nodes g r) → x.op ≡ o → Mem r (filter read (upto h.ids))
        from r l x m e =
            let b : r < h.n = omega (arith, H.ids_are, H.range.ids_in) in
            mem_filter read (upto h.ids) (mem_upto h.ids r (omega (arith, H.ids_are))) (x, rw (nodes_read r b) m, e)
