-- The new id goes into the table under its key, which the table does not have.
-- Assumes nothing.
use Rattle.std.specs.Prelude.{Ok, Result, List, ◌≡◌, refl, ◌<◌, ℕ, None}
use Rattle.broken.specs.declared.Broken.{Broken}
use Rattle.std.proofs.Common.{◌∙◌, ap, subst, arith}
use Rattle.language.specs.Term.{Term, term_at}
use Rattle.steps.specs.Graph.{Graph, kept}
use Rattle.steps.specs.Machine.{keyed}
use Rattle.closure.specs.Tables.{Live}
use Rattle.holds.specs.Holds.{HoldsAt}
use Rattle.holds.specs.Inside.{Inside, inside_lent}
use Rattle.holds.specs.NodesLaws.{nodes_enter}
use Rattle.layout.specs.Cut.{table}
use Rattle.layout.specs.Lent.{Lent, lent_next}
use Rattle.layout.specs.View.{View, put, view}
use Rattle.layout.specs.declared.Head.{Head}
use Rattle.table.specs.Buckets.{Lands, bucket_of}
use Rattle.table.specs.Entering.{Entered}
use Rattle.table.specs.Table.{Held}

-- id i is stored with the key k, and not yet in the table
pub record Waits (h : Head) (u : ℕ) (v : View) (g : Graph) (i : ℕ) (k : Term) : Type 0 where
  pub holds : HoldsAt h u v g
  pub low : i < h.ids
  pub out : Held holds.nodes.buckets i → ⊥
  pub key : term_at holds.nodes.keys i ≡ k

-- over a view
pub enter_holds : (h : Head) (u i : ℕ) (k : Term) (v : View) (g : Graph) → Waits h u v g i k → Live g.roots k → kept k g.memo ≡ None
    → (ts : List ℕ) (r : Result Unit Broken) → Entered v.table ts h.n (bucket_of h.n k) i r
    → (r ≡ Ok tt) × HoldsAt h u (put table v ts) (keyed g k i)
enter_holds h u i k v g W live free ts r E =
    let H = W.holds in
    let q = nodes_enter h.n h.m v.rows v.table g.nodes g.roots g.memo H.nodes i k ts r (omega (arith, W.low, H.ids_are)) W.out W.key live free E in (
      q.0,
      record {
        range = H.range;
        ids_are = H.ids_are;
        places_are = H.places_are;
        clean_is = H.clean_is;
        few = H.few;
        linked = H.linked;
        forest = H.forest;
        nodes = q.1;
        parents = H.parents;
        members = H.members;
        tidy_keys = λ e j l. ap (λ (ks : List Term). term_at ks j) q.2 ∙ H.tidy_keys e j l;
        tidy_lists = H.tidy_lists;
        scratch = H.scratch;
      },
    )

-- what `enter` promises
pub record Enters (h : Head) (i : ℕ) (k : Term) (r : Result Unit Broken) (ws ws' : List ℕ) : Type 0 where
  pub inside : Inside h.n h.m ws ws'
  pub sound : (g : Graph) (u : ℕ) → Waits h u (view h.n h.m ws) g i k → Live g.roots k → kept k g.memo ≡ None
      → (r ≡ Ok tt) × HoldsAt h u (view h.n h.m ws') (keyed g k i)

pub enters : (ws ws' : List ℕ) (h : Head) (i b : ℕ) (k : Term) (r : Result Unit Broken) → Lands h.n k b → Lent table h.n h.m (λ w w'. Entered w w' h.n b i r) ws ws' → Enters h i k r ws ws'
enters ws ws' h i b k r B L =
    let a = lent_next (subst (λ (z : ℕ). Lent table h.n h.m (λ w w'. Entered w w' h.n z i r) ws ws') B.exact L) refl in
    record {
      inside = inside_lent (λ v l. refl) L;
      sound = λ g u W live free.
          let q = enter_holds h u i k (view h.n h.m ws) g W live free a.new r a.did in
          (q.0, rw a.is q.1);
    }
