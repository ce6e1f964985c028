-- An id goes into the table under a live key that no other id there has, and the graph's table gets the entry. `Vacant` and `Ready` say what table is left when
-- the ids that are in the way have gone.
-- Assumes nothing.
use Rattle.std.specs.Prelude.{Ok, Result, List, ◌∷◌, ◌≢◌, ◌⊎◌, ◌≡◌, refl, ◌<◌, ℕ, length, None, Some}
use Rattle.broken.specs.declared.Broken.{Broken}
use Rattle.std.proofs.Common.{inl, inr, ◌∙◌, ap, sym, arith}
use Rattle.language.specs.Term.{Term, same_term, term_at}
use Rattle.steps.specs.Graph.{kept}
use Rattle.closure.specs.Facts.{kept_here, kept_past}
use Rattle.closure.specs.Tables.{Live}
use Rattle.cells.specs.Pool.{push_l}
use Rattle.holds.specs.Nodes.{Nodes}
use Rattle.rows.specs.Rows.{Rows}
use Rattle.table.specs.Buckets.{bucket_of}
use Rattle.table.specs.Entering.{Adds, Entered}
use Rattle.table.specs.Keys.{table_agree}
use Rattle.table.specs.Table.{Held, Table}
use Rattle.std.proofs.lemmas.Option.{none-some, same_Some}

-- The words hold a table in which no id other than i has the key k. Of what the buckets L hold, only i and ids with the key k may have gone.
pub record Vacant (n : ℕ) (ts : List ℕ) (ks : List Term) (L : List (List ℕ)) (i : ℕ) (k : Term) : Type 0 where
  pub lists : List (List ℕ)
  pub table : Table ts n ks lists
  pub free : (y : ℕ) → Held lists y → term_at ks y ≡ k → y ≡ i
  pub stays : (y : ℕ) → Held L y → y ≢ i → term_at ks y ≢ k → Held lists y
  pub from : (y : ℕ) → Held lists y → Held L y

-- and i is out
pub record Ready (n : ℕ) (ts : List ℕ) (ks : List Term) (L : List (List ℕ)) (i : ℕ) (k : Term) : Type 0 where
  pub vacant : Vacant n ts ks L i k
  pub out : Held vacant.lists i → ⊥

module _ (n m : ℕ) (rs ts : List ℕ) (ns : List Term) (roots : List ℕ) (memo : List (Term × ℕ)) (D : Nodes n m rs ts ns roots memo) (i : ℕ) (k : Term) where
  -- so it is where the graph's table has no id for a live key k, or i itself
  pub vacant_alone : Live roots k → (kept k memo ≡ None) ⊎ (kept k memo ≡ Some i) → Vacant n ts D.keys D.buckets i k
  vacant_alone live o = record {
    lists = D.buckets;
    table = D.table;
    free = λ y h e. go o y (D.only k y live h e);
    stays = λ y h ne e. h;
    from = λ y h. h;
  }
    where
      go : (kept k memo ≡ None) ⊎ (kept k memo ≡ Some i) → (y : ℕ) → kept k memo ≡ Some y → y ≡ i
      go (inl f) y e = absurd (none-some _ (sym f ∙ e))
      go (inr f) y e = same_Some _ _ (sym e ∙ f)

  -- ---- i goes in: it has the key k, and the others have kept their keys

  module _ (ks : List Term) (key : term_at ks i ≡ k) (same : (y : ℕ) → y ≢ i → term_at ks y ≡ term_at D.keys y)
      (own : (k' : Term) → Live roots k' → kept k' memo ≡ Some i → k' ≡ k) (rs' ts₁ ts₂ : List ℕ) (r : Result Unit Broken) (low : i < length ns) (R : Rows rs' n m ns ks)
      (W : Ready n ts₁ D.keys D.buckets i k) where
    -- what is held on the way is not i
    not_i : (y : ℕ) → Held W.vacant.lists y → y ≢ i
    not_i y h e = W.out (rw e at h)

    -- no id on the way has the key
    put_new : (y : ℕ) → Held W.vacant.lists y → term_at ks y ≢ term_at ks i
    put_new y h e = not_i y h (W.vacant.free y h (sym (same y (not_i y h)) ∙ e ∙ key))

    put_found : (K : List (List ℕ)) → Adds W.vacant.lists K i → (k' : Term) (y : ℕ) → Live roots k' → kept k' ((k, i) ∷ memo) ≡ Some y
        → Held K y × (term_at ks y ≡ k')
    put_found K a k' y l e = go (same_term k' k)
      where
        go : Dec (k' ≡ k) → Held K y × (term_at ks y ≡ k')
        go (yes q) = let is : i ≡ y = same_Some _ _ (sym (kept_here k' k i memo q) ∙ e) in rw (← is) (a.new, key ∙ sym q)
        go (no q) =
            let f : kept k' memo ≡ Some y = sym (kept_past k' k i memo q) ∙ e in
            let h = D.found k' y l f in
            let ne : y ≢ i = (λ z. q (own k' l (f ∙ ap Some z))) in
            (a.old y (W.vacant.stays y h.0 ne (λ z. q (sym h.1 ∙ z))), same y ne ∙ h.1)

    put_only : (K : List (List ℕ)) → Adds W.vacant.lists K i → (k' : Term) (y : ℕ) → Live roots k' → Held K y → term_at ks y ≡ k'
        → kept k' ((k, i) ∷ memo) ≡ Some y
    put_only K a k' y l h e = go (a.from y h)
      where
        go : Held W.vacant.lists y ⊎ (y ≡ i) → kept k' ((k, i) ∷ memo) ≡ Some y
        go (inl g) =
            let f : term_at D.keys y ≡ k' = sym (same y (not_i y g)) ∙ e in
            kept_past k' k i memo (λ q. not_i y g (W.vacant.free y g (f ∙ q))) ∙ D.only k' y l (W.vacant.from y g) f
        go (inr q) = kept_here k' k i memo (sym e ∙ ap (term_at ks) q ∙ key) ∙ ap Some (sym q)

    pub nodes_put : Entered ts₁ ts₂ n (bucket_of n k) i r → (r ≡ Ok tt) × (D' : Nodes n m rs' ts₂ ns roots ((k, i) ∷ memo)) × (D'.keys ≡ ks)
    nodes_put E =
        let L = W.vacant.lists in
        let K = push_l L (bucket_of n k) i in
        let t = table_agree ts₁ n D.keys ks L W.vacant.table (λ y h. same y (not_i y h)) (omega (arith, D.rows.keys, R.keys)) in
        let h = E.law ks L t (omega (arith, R.keys)) W.out put_new (ap (bucket_of n) (sym key)) in (
          h.0,
          record { keys = ks; rows = R; buckets = K; table = h.1; found = put_found K h.2; only = put_only K h.2 },
          refl,
        )
