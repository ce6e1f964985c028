-- The class lists, as document 01 asks for them: classes in ascending root id, each once; the nodes of a class strictly ascending in node order,
-- exactly the stored nodes of its ids with root children, and no other list is so.
-- Assumes nothing.
use Rattle.std.specs.Prelude.{map, ◌≡◌, ◌<◌, ℕ}
use Rattle.std.proofs.Common.{sym}
use Rattle.std.proofs.Math.Decide.{ℕ_discrete}
use Rattle.lists.specs.Keeps.{any, filter_from, mem_filter, mem_upto, upto, upto_lt}
use Rattle.lists.specs.Members.{Mem, mem-map, mem-of-map}
use Rattle.lists.specs.Sorted.{Ascending, filter_ascending, upto_ascending}
use Rattle.language.specs.Ordered.{Before}
use Rattle.language.specs.Sorted.{sorted_ascending, sorted_from, sorted_has}
use Rattle.language.specs.Term.{Term}
use Rattle.steps.specs.Classes.{class_nodes, class_roots, classes_for_op, members}
use Rattle.steps.specs.Graph.{Graph, ids, key_of, root}

-- class r of g has the node x: an id of the class has it, with root children
abbrev pub NodeOf : Graph → ℕ → Term → Type 0
NodeOf g r x = (i : ℕ) × (i < ids g) × (root g.roots i ≡ r) × (x ≡ key_of g i)

module _ (g : Graph) where
  -- ---- the nodes of a class

  pub nodes_ascending : (r : ℕ) → Ascending Before (class_nodes g r)
  nodes_ascending r = sorted_ascending (map (key_of g) (members g r))

  pub nodes_from : (r : ℕ) (x : Term) → Mem x (class_nodes g r) → NodeOf g r x
  nodes_from r x m =
      let k = mem-of-map (key_of g) (members g r) (sorted_from x (map (key_of g) (members g r)) m) in
      let h = filter_from (λ (i : ℕ). ℕ_discrete (root g.roots i) r) (upto (ids g)) k.1 in
      (k.0, upto_lt (ids g) k.0 h.0, h.1, sym k.2)

  pub nodes_has : (r : ℕ) (x : Term) → NodeOf g r x → Mem x (class_nodes g r)
  nodes_has r x h = rw h.3 (sorted_has (key_of g h.0) (map (key_of g) (members g r)) (mem-map (key_of g) (mem_filter (λ (i : ℕ). ℕ_discrete (root g.roots i) r) (upto (ids g)) (mem_upto (ids g) h.0 h.1) h.2)))

  -- ---- the classes

  pub roots_ascending : Ascending ◌<◌ (class_roots g)
  roots_ascending = filter_ascending ◌<◌ (λ (i : ℕ). ℕ_discrete (root g.roots i) i) (upto_ascending (ids g))

  pub roots_from : (r : ℕ) → Mem r (class_roots g) → (r < ids g) × (root g.roots r ≡ r)
  roots_from r m = let h = filter_from (λ (i : ℕ). ℕ_discrete (root g.roots i) i) (upto (ids g)) m in (upto_lt (ids g) r h.0, h.1)

  pub roots_has : (r : ℕ) → r < ids g → root g.roots r ≡ r → Mem r (class_roots g)
  roots_has r lt e = mem_filter (λ (i : ℕ). ℕ_discrete (root g.roots i) i) (upto (ids g)) (mem_upto (ids g) r lt) e

  -- ---- the classes of an operator: exactly those that have a node with it

  pub for_op_from : (o r : ℕ) → Mem r (classes_for_op g o) → Mem r (class_roots g) × ((x : Term) × Mem x (class_nodes g r) × (x.op ≡ o))
  for_op_from o r m = filter_from (λ (q : ℕ). any (λ (x : Term). ℕ_discrete x.op o) (class_nodes g q)) (class_roots g) m

  pub for_op_has : (o r : ℕ) → Mem r (class_roots g) → (x : Term) → Mem x (class_nodes g r) → x.op ≡ o → Mem r (classes_for_op g o)
  for_op_has o r m x k e = mem_filter (λ (q : ℕ). any (λ (x : Term). ℕ_discrete x.op o) (class_nodes g q)) (class_roots g) m (x, k, e)
