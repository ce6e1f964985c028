-- What the changes of the parts `rows` and `table` do to the stored nodes and the table of a graph: fresh parts hold none, a new id gets its rows, an id goes into
-- the table under its key, and two classes are joined. And what the parts answer: the node of an id, and the id that the table keeps for a live key.
-- Assumes nothing.
use Rattle.std.specs.Prelude.{None, Ok, Result, Some, List, [], ◌++◌, ◌∷◌, map, ◌≢◌, ◌≡◌, refl, ◌<◌, ℕ, length, replicate, Option}
use Rattle.broken.specs.declared.Broken.{Broken}
use Rattle.broken.specs.Words.{broken}
use Rattle.std.proofs.Common.{inl, ◌∙◌, ap, sym, arith}
use Rattle.lists.specs.Reads.{length_more}
use Rattle.lists.specs.Relabel.{relabel}
use Rattle.language.specs.Term.{Term, term_at, term_new, term_old}
use Rattle.language.specs.declared.Id.{Id}
use Rattle.steps.specs.Graph.{kept, node, root}
use Rattle.closure.specs.Facts.{root_before, root_more}
use Rattle.closure.specs.Tables.{Agree, Live}
use Rattle.cells.specs.Empty.{Cleared}
use Rattle.holds.specs.Nodes.{Nodes}
use Rattle.holds.specs.NodesPut.{nodes_put, vacant_alone}
use Rattle.rows.specs.Determined.{determined, rows_none}
use Rattle.rows.specs.Promise.{IsNodeOf, Given, Key, Stored}
use Rattle.rows.specs.Rows.{size, taken}
use Rattle.language.specs.declared.fit.Fit.{Fit}
use Rattle.table.specs.Asking.{Answers}
use Rattle.table.specs.Buckets.{bucket_of}
use Rattle.table.specs.Entering.{Entered}
use Rattle.table.specs.Keys.{not_held_none, table_determined, table_more, table_none}
use Rattle.table.specs.Table.{Held, not_held_new}
use Rattle.std.proofs.lemmas.Option.{none-some}

-- ---- fresh parts

pub nodes_fresh : (n m : ℕ) (rs ts ts' : List ℕ) → length rs ≡ size n m → Cleared ts ts' n n → Nodes n m rs ts' [] [] []
unfolding kept
nodes_fresh n m rs ts ts' e c = record {
  keys = [];
  rows = rows_none rs n m e;
  buckets = replicate n [];
  table = table_none ts ts' n c;
  found = λ k i live f. absurd (none-some _ f);
  only = λ k i live h f. absurd (not_held_none n i h);
}

-- what the table says of a live key: the answer r is the id that the graph's table keeps, one of N, or none
pub record Asks (k : Term) (memo : List (Term × ℕ)) (N : ℕ) (r : Result (Option Id) Broken) : Type 0 where
  pub sound : r ≢ broken
  pub found : (x : Id) → r ≡ Ok (Some x) → kept k memo ≡ Some x.0
  pub absent : r ≡ Ok None → kept k memo ≡ None
  pub inside : (x : Id) → r ≡ Ok (Some x) → x.0 < N

-- a new root changes no root, so the same keys are live
pub live_more : (roots : List ℕ) (N : ℕ) (k : Term) → length roots ≡ N → Live roots k → Live (roots ++ (N ∷ [])) k
live_more roots N k len live c h = root_more roots N c len ∙ live c h

live_less : (roots : List ℕ) (N : ℕ) (k : Term) → length roots ≡ N → Live (roots ++ (N ∷ [])) k → Live roots k
live_less roots N k len live c h = sym (root_more roots N c len) ∙ live c h

-- the nodes with one id more, N: it has the key k, is not yet in the table, and nothing else has changed
pub record NodesMore (n m : ℕ) (rs ts : List ℕ) (ns : List Term) (roots : List ℕ) (memo : List (Term × ℕ)) (ks : List Term) (L : List (List ℕ)) (N : ℕ) (k : Term) : Type 0 where
  pub nodes : Nodes n m rs ts ns roots memo
  pub keys_are : nodes.keys ≡ ks ++ (k ∷ [])
  pub lists_are : nodes.buckets ≡ L
  pub out : Held nodes.buckets N → ⊥
  pub key : term_at nodes.keys N ≡ k

module _ (n m : ℕ) (rs ts : List ℕ) (ns : List Term) (roots : List ℕ) (memo : List (Term × ℕ)) (D : Nodes n m rs ts ns roots memo) where
  -- what is held is an id
  held_low : (x : ℕ) → Held D.buckets x → x < length ns
  held_low x h = omega (arith, D.table.low x h, D.rows.keys)

  -- ---- reads

  pub nodes_given : (i : ℕ) (r : Result Fit Broken) → i < length ns → Given rs n m i r → IsNodeOf r (node ns i)
  unfolding node
  nodes_given i r h G = G.sound ns D.keys D.rows h

  pub nodes_key : (i : ℕ) (r : Result Fit Broken) → i < length ns → Key rs n m i r → IsNodeOf r (term_at D.keys i)
  nodes_key i r h K = K.sound ns D.keys D.rows h

  pub nodes_ask : (k : Term) (r : Result (Option Id) Broken) → Live roots k → Answers ts rs n m k r → Asks k memo (length ns) r
  nodes_ask k r live A = record {
    sound = A.sound D.keys ns D.buckets D.table D.rows;
    found = λ x e. let h = at_id x e in D.only k x.0 live h.0 h.1;
    absent = λ e. none_kept e (kept k memo) refl;
    inside = λ x e. held_low x.0 (at_id x e).0;
  }
    where
      at_id : (x : Id) → r ≡ Ok (Some x) → Held D.buckets x.0 × (term_at D.keys x.0 ≡ k)
      at_id = A.found D.keys ns D.buckets D.table D.rows

      none_kept : r ≡ Ok None → (o : Option ℕ) → kept k memo ≡ o → kept k memo ≡ None
      none_kept e None f = f
      none_kept e (Some i) f = let h = D.found k i live f in absurd (A.none D.keys ns D.buckets D.table D.rows e i h.0 h.1)

  -- ---- a new id, which is a class of its own

  module _ (N p : ℕ) (x k : Term) (rs' : List ℕ) (len_ns : length ns ≡ N) (len : length roots ≡ N) where
    -- what is held keeps its key
    key_before : (y : ℕ) → Held D.buckets y → term_at (D.keys ++ (k ∷ [])) y ≡ term_at D.keys y
    key_before y h = term_old D.keys k y (D.table.low y h)

    pub nodes_more : Stored rs rs' n m N p x k → p ≡ taken ns (length ns) → k.op ≡ x.op → k.payload ≡ x.payload
        → NodesMore n m rs' ts (ns ++ (x ∷ [])) (roots ++ (N ∷ [])) memo D.keys D.buckets N k
    nodes_more S ep eo el = record {
      nodes = record {
        keys = D.keys ++ (k ∷ []);
        rows = S.law ns D.keys D.rows (sym len_ns) ep eo el;
        buckets = D.buckets;
        table = table_more ts n D.keys D.buckets k D.table;
        found = λ k' i live e. let h = D.found k' i (live_less roots N k' len live) e in (h.0, key_before i h.0 ∙ h.1);
        only = λ k' i live h e. D.only k' i (live_less roots N k' len live) h (sym (key_before i h) ∙ e);
      };
      keys_are = refl;
      lists_are = refl;
      out = not_held_new ts n D.keys D.buckets D.table N (omega (arith, D.rows.keys));
      key = let e : N ≡ length D.keys = omega (arith, D.rows.keys) in rw e (term_new D.keys k);
    }

  -- ---- an id goes into the table, under a key that the table does not have

  pub nodes_enter : (i : ℕ) (k : Term) (ts' : List ℕ) (r : Result Unit Broken) → i < length ns → (Held D.buckets i → ⊥) → term_at D.keys i ≡ k → Live roots k
      → kept k memo ≡ None → Entered ts ts' n (bucket_of n k) i r
      → (r ≡ Ok tt) × (D' : Nodes n m rs ts' ns roots ((k, i) ∷ memo)) × (D'.keys ≡ D.keys)
  nodes_enter i k ts' r low out key live free E =
      let w = vacant_alone n m rs ts ns roots memo D i k live (inl free) in
      nodes_put n m rs ts ns roots memo D i k D.keys key (λ y ne. refl) (λ k' l e. absurd (out (D.found k' i l e).0)) rs ts ts' r low D.rows
      (record { vacant = w; out = λ h. out (w.from i h) }) E

  -- ---- two classes joined: what is live after was live before

  pub nodes_merge : (s l : ℕ) → l < length roots → root roots s ≡ s
      → (D' : Nodes n m rs ts ns (map (relabel s l) roots) memo) × (D'.keys ≡ D.keys) × (D'.buckets ≡ D.buckets)
  nodes_merge s l h own = (
    record {
      keys = D.keys;
      rows = D.rows;
      buckets = D.buckets;
      table = D.table;
      found = λ k i live e. D.found k i (before k live) e;
      only = λ k i live e. D.only k i (before k live) e;
    },
    refl,
    refl,
  )
    where
      before : (k : Term) → Live (map (relabel s l) roots) k → Live roots k
      before k live c q = root_before roots s l h own c (live c q)

-- ---- a new id is stored, and goes into the table

pub nodes_add : (n m : ℕ) (rs rs' ts ts' : List ℕ) (ns : List Term) (roots : List ℕ) (memo : List (Term × ℕ)) (N p : ℕ) (x k : Term) (r : Result Unit Broken)
    (D : Nodes n m rs ts ns roots memo) → length ns ≡ N → length roots ≡ N → Live roots k → kept k memo ≡ None
    → Stored rs rs' n m N p x k → p ≡ taken ns (length ns) → k.op ≡ x.op → k.payload ≡ x.payload → Entered ts ts' n (bucket_of n k) N r
    → (r ≡ Ok tt) × (D' : Nodes n m rs' ts' (ns ++ (x ∷ [])) (roots ++ (N ∷ [])) ((k, N) ∷ memo)) × (D'.keys ≡ D.keys ++ (k ∷ []))
nodes_add n m rs rs' ts ts' ns roots memo N p x k r D len_ns len live free S ep eo el E =
    let a = nodes_more n m rs ts ns roots memo D N p x k rs' len_ns len S ep eo el in
    let b = nodes_enter n m rs' ts (ns ++ (x ∷ [])) (roots ++ (N ∷ [])) memo a.nodes N k ts' r (omega (arith, length_more ns x)) a.out a.key
    (live_more roots N k len live) free E in
    (b.0, b.1, b.2 ∙ a.keys_are)

-- ---- the words determine the nodes, and what the table says of live keys

pub nodes_determined : (n m : ℕ) (rs ts : List ℕ) (ns ns' : List Term) (roots : List ℕ) (memo memo' : List (Term × ℕ))
    → Nodes n m rs ts ns roots memo → Nodes n m rs ts ns' roots memo' → length ns ≡ length ns' → (ns ≡ ns') × Agree roots memo memo'
nodes_determined n m rs ts ns ns' roots memo memo' D E e = (both.0, λ k live. go k live (kept k memo) (kept k memo') refl refl)
  where
    both : (ns ≡ ns') × (D.keys ≡ E.keys)
    both = determined rs n m ns D.keys ns' E.keys D.rows E.rows e

    lists : D.buckets ≡ E.buckets
    lists = table_determined ts n D.keys E.keys D.buckets E.buckets D.table E.table

    -- what one table keeps the other does
    there : (k : Term) (i : ℕ) → Live roots k → kept k memo ≡ Some i → kept k memo' ≡ Some i
    there k i live f = let h = D.found k i live f in
        E.only k i live (rw lists at h.0) (ap (λ (ks : List Term). term_at ks i) (sym both.1) ∙ h.1)

    back : (k : Term) (i : ℕ) → Live roots k → kept k memo' ≡ Some i → kept k memo ≡ Some i
    back k i live f = let h = E.found k i live f in
        D.only k i live (rw (← lists) at h.0) (ap (λ (ks : List Term). term_at ks i) both.1 ∙ h.1)

    go : (k : Term) → Live roots k → (o o' : Option ℕ) → kept k memo ≡ o → kept k memo' ≡ o' → kept k memo ≡ kept k memo'
    go k live (Some i) o' f g = f ∙ sym (there k i live f)
    go k live None (Some i) f g = back k i live g ∙ sym g
    go k live None None f g = f ∙ sym g
