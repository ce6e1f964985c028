-- An id leaves the table: the one that has a key (`oust`), and one under the key that was set last (`vacate`).
-- Assumes nothing.
use Rattle.std.specs.Prelude.{Bool, None, Ok, Result, Some, false, true, List, ◌≢◌, ◌≡◌, refl, ◌<◌, ◌≤◌, ℕ, length, Option}
use Rattle.broken.specs.declared.Broken.{Broken}
use Rattle.broken.specs.Words.{broken}
use Rattle.std.proofs.Common.{inl, ◌∙◌, ap, subst, sym, arith}
use Rattle.lists.specs.Tests.{zero_one}
use Rattle.language.specs.Fitting.{term}
use Rattle.language.specs.Term.{Term, term_at}
use Rattle.language.specs.declared.Id.{Id}
use Rattle.language.specs.declared.fit.Fit.{Fit}
use Rattle.steps.specs.Graph.{kept}
use Rattle.closure.specs.Tables.{Live}
use Rattle.holds.specs.Inside.{Inside, inside_lent, inside_same}
use Rattle.holds.specs.Nodes.{Nodes}
use Rattle.holds.specs.NodesLaws.{nodes_ask}
use Rattle.holds.specs.NodesPut.{Vacant, vacant_alone}
use Rattle.holds.specs.NodesRekey.{rekey_other}
use Rattle.layout.specs.Cut.{table}
use Rattle.layout.specs.Lent.{Lent, lent_next}
use Rattle.layout.specs.View.{View, put, view}
use Rattle.layout.specs.declared.Head.{Head}
use Rattle.rows.specs.Promise.{Key}
use Rattle.rows.specs.Rows.{Rows}
use Rattle.table.specs.Asking.{Answers}
use Rattle.table.specs.Buckets.{Lands, bucket_of}
use Rattle.table.specs.Leaving.{Departed}
use Rattle.language.specs.Told.{told_id}

-- ---- the id that has the key k leaves

-- another table, of which only ids with the key k have gone
pub record Ousted (h : Head) (i : ℕ) (k : Term) (ks : List Term) (L : List (List ℕ)) (v : View) (ws' : List ℕ) : Type 0 where
  pub ts : List ℕ
  pub is : view h.n h.m ws' ≡ put table v ts
  pub vacant : Vacant h.n ts ks L i k

pub record OustSays (h : Head) (k : Term) (ws : List ℕ) (r : Result (Option Id) Broken) (ws' : List ℕ) : Type 0 where
  pub inside : Inside h.n h.m ws ws'
  pub range : (x : Id) → r ≡ Ok (Some x) → x.0 < h.ids
  pub sound : (ns : List Term) (roots : List ℕ) (memo : List (Term × ℕ)) (D : Nodes h.n h.m (view h.n h.m ws).rows (view h.n h.m ws).table ns roots memo)
      (i : ℕ) → length ns ≡ h.ids → Live roots k
      → (r ≡ told_id (kept k memo)) × Ousted h i k D.keys D.buckets (view h.n h.m ws) ws'

module _ (h : Head) (k : Term) (ws : List ℕ) (a : Result (Option Id) Broken) (A : Answers (view h.n h.m ws).table (view h.n h.m ws).rows h.n h.m k a) where
  pub oust_broken : a ≡ broken → OustSays h k ws broken ws
  oust_broken e = record {
    inside = inside_same h.n h.m ws;
    range = λ x f. zero_one cc;
    sound = λ ns roots memo D i len live. absurd ((nodes_ask _ _ _ _ ns roots memo D k a live A).sound e);
  }

  pub oust_none : a ≡ Ok None → OustSays h k ws (Ok None) ws
  oust_none e = record {
    inside = inside_same h.n h.m ws;
    range = λ x f. zero_one cc;
    sound = λ ns roots memo D i len live.
        let none_kept = (nodes_ask _ _ _ _ ns roots memo D k a live A).absent e in
        (ap told_id (sym none_kept), record { ts = (view h.n h.m ws).table; is = refl; vacant = vacant_alone _ _ _ _ ns roots memo D i k live (inl none_kept) });
  }

  module _ (x : Id) (e : a ≡ Ok (Some x)) where
    pub oust_unknown : h.ids ≤ x.0 → OustSays h k ws broken ws
    oust_unknown le = record {
      inside = inside_same h.n h.m ws;
      range = λ y f. zero_one cc;
      sound = λ ns roots memo D i len live. absurd (omega (arith, (nodes_ask _ _ _ _ ns roots memo D k a live A).inside x e));
    }

    module _ (b : ℕ) (B : Lands h.n k b) (ws1 : List ℕ) (c : Result Bool Broken) (L : Lent table h.n h.m (λ w w'. Departed w w' h.n b x.0 c) ws ws1) where
      -- the id that the table kept is out
      out : (ns : List Term) (roots : List ℕ) (memo : List (Term × ℕ)) (D : Nodes h.n h.m (view h.n h.m ws).rows (view h.n h.m ws).table ns roots memo) (i : ℕ)
          → Live roots k → (c ≡ Ok true) × (◌≡◌ {A = Result (Option Id) Broken} (Ok (Some x)) (told_id (kept k memo))) × Ousted h i k D.keys D.buckets (view h.n h.m ws) ws1
      out ns roots memo D i live =
          let f = (nodes_ask _ _ _ _ ns roots memo D k a live A).found x e in
          let n = lent_next (subst (λ (y : ℕ). Lent table h.n h.m (λ w w'. Departed w w' h.n y x.0 c) ws ws1) B.exact L) refl in
          let o = rekey_other _ _ _ _ ns roots memo D i k x.0 n.new c live f n.did in
          (o.0, ap told_id (sym f), record { ts = n.new; is = n.is; vacant = o.1 })

      pub oust_done : x.0 < h.ids → OustSays h k ws (Ok (Some x)) ws1
      oust_done low = record {
        inside = inside_lent (λ v l. refl) L;
        range = λ z f. let q : x ≡ z = cc in subst (λ (y : Id). y.0 < h.ids) q low;
        sound = λ ns roots memo D i len live. let o = out ns roots memo D i live in (o.1, o.2);
      }

      oust_left : c ≢ Ok true → OustSays h k ws broken ws1
      oust_left ne = record {
        inside = inside_lent (λ v l. refl) L;
        range = λ y f. zero_one cc;
        sound = λ ns roots memo D i len live. absurd (ne (out ns roots memo D i live).0);
      }

      pub oust_absent : c ≡ Ok false → OustSays h k ws broken ws1
      oust_absent f = oust_left (λ q. zero_one cc)

      pub oust_torn : c ≡ broken → OustSays h k ws broken ws1
      oust_torn f = oust_left (λ q. zero_one cc)

-- ---- id i leaves under the key of its row; v is what the steps before have made of a view

pub record VacateSays (h : Head) (i : ℕ) (ws : List ℕ) (r : Result Unit Broken) (ws' : List ℕ) : Type 0 where
  pub inside : Inside h.n h.m ws ws'
  pub sound : (v : View) → view h.n h.m ws ≡ v → (ns ks : List Term) → Rows v.rows h.n h.m ns ks → i < length ns
      → (c : Result Bool Broken) × (c ≢ broken → r ≡ Ok tt) × (ts : List ℕ) × (view h.n h.m ws' ≡ put table v ts)
      × Departed v.table ts h.n (bucket_of h.n (term_at ks i)) i c

module _ (h : Head) (i : ℕ) (ws : List ℕ) (f : Result Fit Broken) (F : Key (view h.n h.m ws).rows h.n h.m i f) where
  fetched : (v : View) → view h.n h.m ws ≡ v → Key v.rows h.n h.m i f
  fetched v ev = subst (λ (x : View). Key x.rows h.n h.m i f) ev F

  pub vacate_broken : f ≡ broken → VacateSays h i ws broken ws
  vacate_broken e = record {
    inside = inside_same h.n h.m ws;
    sound = λ v ev ns ks R l. let q = ((fetched v ev).sound ns ks R l).1 in zero_one cc;
  }

  pub vacate_left : (x : Fit) → f ≡ Ok x → (b : ℕ) → Lands h.n (term x) b → (ws1 : List ℕ) (c : Result Bool Broken) (r : Result Unit Broken) → (c ≢ broken → r ≡ Ok tt)
      → Lent table h.n h.m (λ w w'. Departed w w' h.n b i c) ws ws1 → VacateSays h i ws r ws1
  vacate_left x is b B ws1 c r done L = record {
    inside = inside_lent (λ v l. refl) L;
    sound = λ v ev ns ks R l.
        let q = (fetched v ev).sound ns ks R l in
        let same : q.0 ≡ x = let s = q.1 in cc in
        let key : term x ≡ term_at ks i = rw (← same) q.2 in
        let e : b ≡ bucket_of h.n (term_at ks i) = B.exact ∙ ap (bucket_of h.n) key in
        let n = lent_next (subst (λ (y : ℕ). Lent table h.n h.m (λ w w'. Departed w w' h.n y i c) ws ws1) e L) ev in
        (c, done, n.new, n.is, n.did);
  }
