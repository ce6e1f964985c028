-- What the changes of the part `members` do to the ids that stand for each class: a fresh part has none, a new id is a class of its own, two classes are joined,
-- and a rebuild puts fewer ids with the same keys in the place of one list. And what the lists say: the keys of a class's members are the nodes of the class.
-- Assumes nothing.
use Rattle.std.specs.Prelude.{Ok, Result, List, [], ◌++◌, ◌∷◌, map, ◌↔◌, ◌≢◌, ◌⊎◌, ◌≡◌, refl, ◌+◌, ◌<◌, ◌≤◌, ℕ, length, replicate, set}
use Rattle.broken.specs.declared.Broken.{Broken}
use Rattle.std.proofs.lemmas.Simd.{map-map}
use Rattle.std.proofs.Common.{inl, inr, ◌∙◌, ap, sym, arith}
use Rattle.lists.specs.Members.{Mem, here, mem-append-cases, mem-left, mem_length, mem-map, mem-nil, mem-of-map, mem_one, mem-right, mem_at, no_member}
use Rattle.lists.specs.Reads.{at, set_all}
use Rattle.lists.specs.Relabel.{Hit, relabel, relabel_cases, relabel_hit, relabel_miss}
use Rattle.lists.specs.Tests.{eq_or}
use Rattle.language.specs.Sorted.{sorted, sorted_ascending, sorted_from, sorted_has}
use Rattle.language.specs.Term.{Term, over_kids}
use Rattle.steps.specs.Classes.{class_nodes}
use Rattle.steps.specs.Graph.{Graph, canon, ids, key_of, node, root}
use Rattle.closure.specs.Facts.{node_old, root_more, root_out, root_relabel}
use Rattle.closure.specs.Listed.{nodes_from, nodes_has}
use Rattle.closure.proofs.Listed.{nodes_one}
use Rattle.cells.specs.Changes.{Joined, Pushed}
use Rattle.cells.specs.Empty.{empty_all}
use Rattle.cells.specs.Join.{join_at, join_cases}
use Rattle.cells.specs.Pool.{Free, Pool, join_l, push_l, row}
use Rattle.cells.specs.Push.{push_at, push_cases}
use Rattle.cells.specs.Rows.{determined}
use Rattle.holds.specs.Members.{Members}

-- the list of id i's class has an id with the key of i
abbrev Covered : List (List ℕ) → List Term → List ℕ → ℕ → Type 0
Covered L ns roots i = (j : ℕ) × Mem j (row L (root roots i)) × (canon roots (node ns j) ≡ canon roots (node ns i))

-- ---- a fresh part

pub members_fresh : (n : ℕ) (ms : List ℕ) → Pool ms n n (replicate n []) → Members n 0 ms [] []
members_fresh n ms p = record {
  lists = replicate n [];
  pool = p;
  in_class = λ a x m. absurd (empty_all n a 0 (mem_length m));
  all = λ i h. absurd (omega arith);
}

-- ---- a new id, which is a class of its own

-- a new root changes no key
canon_more : (rs : List ℕ) (n : ℕ) (x : Term) → length rs ≡ n → canon (rs ++ (n ∷ [])) x ≡ canon rs x
canon_more rs n x e i = over_kids (λ c. root_more rs n c e i) x

module _ (n N : ℕ) (ms ms' : List ℕ) (ns : List Term) (roots : List ℕ) (x : Term) (r : Result Unit Broken) (len_ns : length ns ≡ N) (len : length roots ≡ N)
    (room : N < n) (M : Members n N ms ns roots) where
  own_root : root (roots ++ (N ∷ [])) N ≡ N
  own_root = root_more roots N N len ∙ root_out roots N (omega arith)

  -- no list has the new id yet
  new_free : Free M.lists N
  new_free = record { none = λ a i h e. omega (arith, (M.in_class a (at (row M.lists a) i) (mem_at (row M.lists a) i h)).0) }

  new_in : N < length M.lists
  new_in = omega (arith, M.pool.count)

  old_root : (y a : ℕ) → (y < N) × (root roots y ≡ a) → (y < N + 1) × (root (roots ++ (N ∷ [])) y ≡ a)
  old_root y a h = (omega arith, root_more roots N y len ∙ h.1)

  more_in_class : (a y : ℕ) → Mem y (row (push_l M.lists N N) a) → (y < N + 1) × (root (roots ++ (N ∷ [])) y ≡ a)
  more_in_class a y = push_cases (λ a zs. Mem y zs → (y < N + 1) × (root (roots ++ (N ∷ [])) y ≡ a)) M.lists N N new_in
      (λ m. go (mem-append-cases (row M.lists N) m)) (λ b ne m. old_root y b (M.in_class b y m)) a
    where
      go : Mem y (row M.lists N) ⊎ Mem y (N ∷ []) → (y < N + 1) × (root (roots ++ (N ∷ [])) y ≡ N)
      go (inl m) = old_root y N (M.in_class N y m)
      go (inr m) = let e = mem_one m in (omega arith, rw e own_root)

  -- what a list has it keeps
  more_keeps : (y a : ℕ) → Mem y (row M.lists a) → Mem y (row (push_l M.lists N N) a)
  more_keeps y = push_cases (λ a zs. Mem y (row M.lists a) → Mem y zs) M.lists N N new_in (λ m. mem-left (N ∷ []) m) (λ b ne m. m)

  more_all : (i : ℕ) → i < N + 1 → Covered (push_l M.lists N N) (ns ++ (x ∷ [])) (roots ++ (N ∷ [])) i
  more_all i h = go (eq_or i N)
    where
      go : (i ≡ N) ⊎ (i ≢ N) → Covered (push_l M.lists N N) (ns ++ (x ∷ [])) (roots ++ (N ∷ [])) i
      go (inl e) = (i, rw (e, own_root, push_at M.lists N N new_in) (mem-right (row M.lists N) (here refl)), refl)
      go (inr e) =
          let lt : i < N = omega arith in
          let k = M.all i lt in
          let low : k.0 < N = (M.in_class (root roots i) k.0 k.1).0 in (
            k.0,
            rw (root_more roots N i len) (more_keeps k.0 (root roots i) k.1),
            rw (node_old ns x i (omega arith), node_old ns x k.0 (omega arith))
                (canon_more roots N (node ns k.0) len ∙ k.2 ∙ sym (canon_more roots N (node ns i) len)),
          )

  pub members_more : Pushed ms ms' n n N N r → (r ≡ Ok tt) × Members n (N + 1) ms' (ns ++ (x ∷ [])) (roots ++ (N ∷ []))
  members_more P = let h = P.law M.lists M.pool new_free in (
    h.0,
    record {
      lists = push_l M.lists N N;
      pool = h.1;
      in_class = more_in_class;
      all = more_all;
    },
  )

-- ---- two classes joined

-- the keys are relabelled
canon_merge : (rs : List ℕ) (s l : ℕ) → l < length rs → (x : Term) → canon (map (relabel s l) rs) x ≡ over_kids (relabel s l) (canon rs x)
canon_merge rs s l h x =
    (λ i. over_kids (λ c. root_relabel rs s l h c i) x)
    ∙ (λ i. record { op = x.op; payload = x.payload; kids = sym (map-map (relabel s l) (root rs) x.kids) i })

module _ (n N : ℕ) (ms ms' : List ℕ) (ns : List Term) (roots : List ℕ) (stay lose : ℕ) (r : Result Unit Broken) (len : length roots ≡ N) (fits : N ≤ n)
    (hs : stay < N) (hl : lose < N) (ne : stay ≢ lose) (M : Members n N ms ns roots) where
  gone : lose < length roots
  gone = omega arith

  stay_in : stay < length M.lists
  stay_in = omega (arith, M.pool.count)

  lose_in : lose < length M.lists
  lose_in = omega (arith, M.pool.count)

  relabelled : (y a b : ℕ) → relabel stay lose a ≡ b → (y < N) × (root roots y ≡ a) → (y < N) × (root (map (relabel stay lose) roots) y ≡ b)
  relabelled y a b e h = (h.0, root_relabel roots stay lose gone y ∙ ap (relabel stay lose) h.1 ∙ e)

  merge_in_class : (a y : ℕ) → Mem y (row (join_l M.lists stay lose) a) → (y < N) × (root (map (relabel stay lose) roots) y ≡ a)
  merge_in_class a y = join_cases (λ a zs. Mem y zs → (y < N) × (root (map (relabel stay lose) roots) y ≡ a)) M.lists stay lose stay_in lose_in
      (λ m. absurd (mem-nil m))
      (λ m. go (mem-append-cases (row M.lists stay) m))
      (λ b _ nl m. relabelled y b b (relabel_miss stay lose b nl) (M.in_class b y m)) a
    where
      go : Mem y (row M.lists stay) ⊎ Mem y (row M.lists lose) → (y < N) × (root (map (relabel stay lose) roots) y ≡ stay)
      go (inl m) = relabelled y stay stay (relabel_miss stay lose stay ne) (M.in_class stay y m)
      go (inr m) = relabelled y lose stay (relabel_hit stay lose) (M.in_class lose y m)

  -- what a list has is in the list of its class's new root
  merge_keeps : (y a : ℕ) → Mem y (row M.lists a) → Mem y (row (join_l M.lists stay lose) (relabel stay lose a))
  merge_keeps y a m = go (relabel_cases stay lose a)
    where
      kept : (b : ℕ) → b ≢ lose → Mem y (row M.lists b) → Mem y (row (join_l M.lists stay lose) b)
      kept = join_cases (λ b zs. b ≢ lose → Mem y (row M.lists b) → Mem y zs) M.lists stay lose stay_in lose_in
          (λ nl k. absurd (nl refl)) (λ nl k. mem-left (row M.lists lose) k) (λ b _ _ nl k. k)

      go : Hit stay lose a → Mem y (row (join_l M.lists stay lose) (relabel stay lose a))
      go (inl e) = rw (e.1, join_at M.lists stay lose stay_in ne) (mem-right (row M.lists stay) (rw e.0 at m))
      go (inr e) = rw e.1 (kept a e.0 m)

  merge_all : (i : ℕ) → i < N → Covered (join_l M.lists stay lose) ns (map (relabel stay lose) roots) i
  merge_all i h =
      let k = M.all i h in (
        k.0,
        rw (root_relabel roots stay lose gone i) (merge_keeps k.0 (root roots i) k.1),
        canon_merge roots stay lose gone (node ns k.0) ∙ ap (over_kids (relabel stay lose)) k.2 ∙ sym (canon_merge roots stay lose gone (node ns i)),
      )

  pub members_merge : Joined ms ms' n n stay lose r → (r ≡ Ok tt) × Members n N ms' ns (map (relabel stay lose) roots)
  members_merge J = let h = J.law M.lists M.pool in (
    h.0,
    record {
      lists = join_l M.lists stay lose;
      pool = h.1;
      in_class = merge_in_class;
      all = merge_all;
    },
  )

-- ---- one list replaced by ids with the same keys, as a rebuild does

module _ (n N : ℕ) (ms ms' : List ℕ) (ns : List Term) (roots : List ℕ) (r : ℕ) (ys : List ℕ) (lists' : List (List ℕ)) (hr : r < n) (M : Members n N ms ns roots)
    (inside : (y : ℕ) → Mem y ys → Mem y (row M.lists r))
    (cover : (x : ℕ) → Mem x (row M.lists r) → (y : ℕ) × Mem y ys × (canon roots (node ns y) ≡ canon roots (node ns x)))
    (are : lists' ≡ set M.lists r ys) where
  replaced_cases : (P : ℕ → List ℕ → Type 0) → P r ys → ((a : ℕ) → a ≢ r → P a (row M.lists a)) → (a : ℕ) → P a (row lists' a)
  replaced_cases P p q a = rw are (set_all P M.lists r ys [] (omega (arith, M.pool.count)) p q a)

  replaced_in_class : (a x : ℕ) → Mem x (row lists' a) → (x < N) × (root roots x ≡ a)
  replaced_in_class a x = replaced_cases (λ a zs. Mem x zs → (x < N) × (root roots x ≡ a)) (λ m. M.in_class r x (inside x m)) (λ b _ m. M.in_class b x m) a

  replaced_covers : (a x : ℕ) → Mem x (row M.lists a) → (y : ℕ) × Mem y (row lists' a) × (canon roots (node ns y) ≡ canon roots (node ns x))
  replaced_covers a x = replaced_cases (λ a zs. Mem x (row M.lists a) → (y : ℕ) × Mem y zs × (canon roots (node ns y) ≡ canon roots (node ns x)))
      (λ m. cover x m) (λ b _ m. (x, m, refl)) a

  replaced_all : (i : ℕ) → i < N → Covered lists' ns roots i
  replaced_all i h =
      let k = M.all i h in
      let c = replaced_covers (root roots i) k.0 k.1 in
      (c.0, c.1, c.2 ∙ k.2)

  -- the part that is left has just these lists
  pub members_set : Pool ms' n n lists' → (K : Members n N ms' ns roots) × (K.lists ≡ lists')
  members_set p = (record { lists = lists'; pool = p; in_class = replaced_in_class; all = replaced_all }, refl)

-- ---- what the lists say

-- the words determine the lists
pub members_determined : (n N N' : ℕ) (ms : List ℕ) (ns ns' : List Term) (roots roots' : List ℕ) (M : Members n N ms ns roots) (K : Members n N' ms ns' roots')
    → M.lists ≡ K.lists
members_determined n N N' ms ns ns' roots roots' M K = determined ms n n M.lists K.lists M.pool K.pool

-- a number that is no root has no members
pub members_none : (n N : ℕ) (ms : List ℕ) (ns : List Term) (roots : List ℕ) (M : Members n N ms ns roots)
    → ((i : ℕ) → root roots (root roots i) ≡ root roots i) → ((i : ℕ) → i < N → root roots i < N)
    → (a : ℕ) → (a < N → root roots a ≡ a → ⊥) → row M.lists a ≡ []
members_none n N ms ns roots M rr inside a never = no_member (row M.lists a) (λ x m. go x (M.in_class a x m))
  where
    go : (x : ℕ) → (x < N) × (root roots x ≡ a) → ⊥
    go x h = never (rw h.1 at (inside x h.0)) (rw h.1 at (rr x))

module _ (g : Graph) (n : ℕ) (ms : List ℕ) (M : Members n (ids g) ms g.nodes g.roots) (r : ℕ) where
  -- the keys of the members are the nodes of the class
  pub members_keys : (x : Term) → Mem x (map (key_of g) (row M.lists r)) ↔ Mem x (class_nodes g r)
  members_keys x = (from, has)
    where
      from : Mem x (map (key_of g) (row M.lists r)) → Mem x (class_nodes g r)
      from m =
          let k = mem-of-map (key_of g) (row M.lists r) m in
          let h = M.in_class r k.0 k.1 in
          nodes_has g r x (k.0, h.0, h.1, sym k.2)

      has : Mem x (class_nodes g r) → Mem x (map (key_of g) (row M.lists r))
      has m =
          let k = nodes_from g r x m in
          let h = M.all k.0 k.1 in
          rw (k.3, ← h.2) (mem-map (key_of g) (rw k.2 at h.1))

  -- sorted, they are its list
  pub members_sorted : sorted (map (key_of g) (row M.lists r)) ≡ class_nodes g r
  members_sorted =
      let keys : List Term = map (key_of g) (row M.lists r) in
      nodes_one g r (sorted keys) (sorted_ascending keys)
      (λ x m. nodes_from g r x ((members_keys x).0 (sorted_from x keys m)))
      (λ x m. sorted_has x keys ((members_keys x).1 (nodes_has g r x m)))
