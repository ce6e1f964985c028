-- An id goes into the bucket of its key: the words that a push leaves hold the table with that id, and with no other change. What `enter` promises.
-- Assumes nothing.
use Rattle.std.specs.Prelude.{Ok, Result, List, [], ◌∷◌, ◌≢◌, ◌⊎◌, ◌≡◌, refl, ◌<◌, ℕ, length}
use Rattle.broken.specs.declared.Broken.{Broken}
use Rattle.std.proofs.Common.{inl, inr, ◌∙◌, ap, sym, arith}
use Rattle.lists.specs.Reads.{at, at_left, at_right, length_more}
use Rattle.language.specs.Term.{Term, term_at}
use Rattle.cells.specs.Changes.{Pushed}
use Rattle.cells.specs.Pool.{push_l, row}
use Rattle.cells.specs.Push.{FromPush, push_at, push_cases, push_from}
use Rattle.table.specs.Buckets.{bucket_of}
use Rattle.table.specs.Table.{Held, Table, not_held_free}

-- K holds what L holds, and x
pub record Adds (L K : List (List ℕ)) (x : ℕ) : Type 0 where
  pub new : Held K x
  pub old : (y : ℕ) → Held L y → Held K y
  pub from : (y : ℕ) → Held K y → Held L y ⊎ (y ≡ x)

-- For any words a push of x on bucket a; on a table that has neither x nor its key, the table with x.
pub record Entered (ts ts' : List ℕ) (n a x : ℕ) (r : Result Unit Broken) : Type 0 where
  pub exact : Pushed ts ts' n n a x r
  pub law : (ks : List Term) (L : List (List ℕ)) → Table ts n ks L → x < length ks → (Held L x → ⊥)
      → ((y : ℕ) → Held L y → term_at ks y ≢ term_at ks x) → a ≡ bucket_of n (term_at ks x)
      → (r ≡ Ok tt) × Table ts' n ks (push_l L a x) × Adds L (push_l L a x) x

module _ (L : List (List ℕ)) (a x : ℕ) (ha : a < length L) where
  push_new : Held (push_l L a x) x
  push_new =
      let e = push_at L a x ha in
      record {
        list = a;
        place = length (row L a);
        inside = rw e (omega (arith, length_more (row L a) x));
        here = rw e (at_right (row L a) (x ∷ []) (length (row L a)) 0 (omega arith));
      }

  push_old : (y : ℕ) → Held L y → Held (push_l L a x) y
  push_old y h =
      let s = push_cases (λ c zs. (i : ℕ) → i < length (row L c) → (i < length zs) × (at zs i ≡ at (row L c) i)) L a x ha
      (λ i k. (omega (arith, length_more (row L a) x), at_left (row L a) (x ∷ []) i k)) (λ c ne i k. (k, refl)) h.list h.place h.inside in
      record { list = h.list; place = h.place; inside = s.0; here = s.1 ∙ h.here }

  from_push : (y : ℕ) {c i v : ℕ} → v ≡ y → FromPush L a x c i v → Held L y ⊎ (y ≡ x)
  from_push y e (inl s) = inr (sym e ∙ s.2)
  from_push y {c} {i} e (inr s) = inl (record { list = c; place = i; inside = s.0; here = sym s.1 ∙ e })

  pub push_adds : Adds L (push_l L a x) x
  push_adds = record {
    new = push_new;
    old = push_old;
    from = λ y h. from_push y h.here (push_from L a x ha h.list h.place h.inside);
  }

pub entered : (ts ts' : List ℕ) (n a x : ℕ) (r : Result Unit Broken) → a < n → Pushed ts ts' n n a x r → Entered ts ts' n a x r
entered ts ts' n a x r ha p = record {
  exact = p;
  law = λ ks L t hx out new e.
      let q = p.law L t.pool (not_held_free L x out) in
      let la : a < length L = omega (arith, t.pool.count) in
      let j = push_adds L a x la in (
        q.0,
        record {
          pool = q.1;
          home = λ c i h. home_of ks L t e c i (push_from L a x la c i h);
          once = λ y z h k f. once_of ks L t new y z (j.from y h) (j.from z k) f;
          low = λ y h. low_of ks L t hx y (j.from y h);
        },
        j,
      );
}
  where
    home_of : (ks : List Term) (L : List (List ℕ)) → Table ts n ks L → a ≡ bucket_of n (term_at ks x) → (c i : ℕ) {v : ℕ} → FromPush L a x c i v → bucket_of n (term_at ks v) ≡ c
    home_of ks L t e c i (inl s) = ap (λ (z : ℕ). bucket_of n (term_at ks z)) s.2 ∙ sym e ∙ sym s.0
    home_of ks L t e c i (inr s) = ap (λ (z : ℕ). bucket_of n (term_at ks z)) s.1 ∙ t.home c i s.0

    once_of : (ks : List Term) (L : List (List ℕ)) → Table ts n ks L → ((y : ℕ) → Held L y → term_at ks y ≢ term_at ks x)
        → (y z : ℕ) → Held L y ⊎ (y ≡ x) → Held L z ⊎ (z ≡ x) → term_at ks y ≡ term_at ks z → y ≡ z
    once_of ks L t new y z (inl h) (inl k) f = t.once y z h k f
    once_of ks L t new y z (inl h) (inr k) f = absurd (new y h (f ∙ ap (term_at ks) k))
    once_of ks L t new y z (inr h) (inl k) f = absurd (new z k (sym f ∙ ap (term_at ks) h))
    once_of ks L t new y z (inr h) (inr k) f = h ∙ sym k

    low_of : (ks : List Term) (L : List (List ℕ)) → Table ts n ks L → x < length ks → (y : ℕ) → Held L y ⊎ (y ≡ x) → y < length ks
    low_of ks L t hx y (inl h) = t.low y h
    low_of ks L t hx y (inr e) = omega arith
