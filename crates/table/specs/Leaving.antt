-- An id goes out of the bucket of its key, if it is there: the words hold the table without that id, and with no other change. What `leave` promises.
-- Assumes nothing.
use Rattle.std.specs.Prelude.{Bool, Ok, Result, false, true, List, ◌≢◌, ◌⊎◌, ◌≡◌, ◌-◌, ◌<◌, ◌≤◌, suc, ℕ, length}
use Rattle.broken.specs.declared.Broken.{Broken}
use Rattle.broken.specs.Words.{broken}
use Rattle.std.proofs.Common.{inl, inr, ⊎_elim, ◌∙◌, ap, subst, sym, arith}
use Rattle.lists.specs.Reads.{at}
use Rattle.lists.specs.Tests.{lt_or, zero_one}
use Rattle.language.specs.Term.{Term, term_at}
use Rattle.cells.specs.Cuts.{Removed}
use Rattle.cells.specs.Free.{free_removed}
use Rattle.cells.specs.Pool.{Apart, Free, cut, remove_l, row}
use Rattle.cells.specs.Remove.{cut_left, cut_length, cut_right, remove_cases, remove_from}
use Rattle.table.specs.Buckets.{bucket_of}
use Rattle.table.specs.Standing.{Stands}
use Rattle.table.specs.Table.{Held, Table, free_not_held, held_home, held_or}

-- K holds what L holds, but not x
pub record Drops (L K : List (List ℕ)) (x : ℕ) : Type 0 where
  pub gone : Held K x → ⊥
  pub stays : (y : ℕ) → Held L y → y ≢ x → Held K y
  pub from : (y : ℕ) → Held K y → Held L y

-- the table without x
pub record Without (ts' : List ℕ) (n : ℕ) (ks : List Term) (L : List (List ℕ)) (x : ℕ) : Type 0 where
  pub lists : List (List ℕ)
  pub table : Table ts' n ks lists
  pub drops : Drops L lists x

-- For any words a removal of x from bucket a. On a table `law` speaks of both cases at once, whether x was held or not; `done` and `absent` tell them apart.
pub record Departed (ts ts' : List ℕ) (n a x : ℕ) (r : Result Bool Broken) : Type 0 where
  pub exact : Removed ts ts' n n a x r
  pub law : (ks : List Term) (L : List (List ℕ)) → Table ts n ks L → a ≡ bucket_of n (term_at ks x) → Without ts' n ks L x
  pub done : (ks : List Term) (L : List (List ℕ)) → Table ts n ks L → a ≡ bucket_of n (term_at ks x) → Held L x → r ≡ Ok true
  pub absent : (ks : List Term) (L : List (List ℕ)) → Table ts n ks L → a ≡ bucket_of n (term_at ks x) → (Held L x → ⊥) → (r ≡ Ok false) × (ts' ≡ ts)
  pub sound : (ks : List Term) (L : List (List ℕ)) → Table ts n ks L → a ≡ bucket_of n (term_at ks x) → r ≢ broken

module _ (L : List (List ℕ)) (a q x : ℕ) (ha : a < length L) (hq : q < length (row L a)) (apart : Apart L) (e : at (row L a) q ≡ x) where
  remove_old : (y : ℕ) → Held L y → y ≢ x → Held (remove_l L a q) y
  remove_old y h ne = record { list = h.list; place = s.place; inside = s.inside; here = s.here }
    where
      cut_has : (i : ℕ) → i < length (row L a) → at (row L a) i ≡ y → Stands (cut q (row L a)) y
      cut_has i l f =
          ⊎_elim
          (λ (o : i < q). record { place = i; inside = omega (arith, cut_length (row L a) q hq); here = cut_left (row L a) q hq i o ∙ f })
          (λ (o : q ≤ i).
          let d : i ≢ q = (λ z. ne (sym f ∙ ap (at (row L a)) z ∙ e)) in
          let z : suc (i - 1) ≡ i = omega arith in
          record {
            place = i - 1;
            inside = omega (arith, cut_length (row L a) q hq);
            here = cut_right (row L a) q hq (i - 1) (omega arith) ∙ ap (at (row L a)) z ∙ f;
          })
          (lt_or i q)

      s : Stands (row (remove_l L a q) h.list) y
      s = remove_cases (λ c zs. (i : ℕ) → i < length (row L c) → at (row L c) i ≡ y → Stands zs y) L a q ha
          cut_has (λ c d i l f. record { place = i; inside = l; here = f }) h.list h.place h.inside h.here

  pub remove_drops : Drops L (remove_l L a q) x
  remove_drops = record {
    gone = free_not_held (remove_l L a q) x (subst (λ (z : ℕ). Free (remove_l L a q) z) e (free_removed L a q ha hq apart));
    stays = remove_old;
    from = λ y h. let s = remove_from L a q ha hq h.list h.place h.inside in
        record { list = h.list; place = s.j; inside = s.inside; here = sym s.same ∙ h.here };
  }

-- nothing changes where x is not held
none_drops : (L : List (List ℕ)) (x : ℕ) → (Held L x → ⊥) → Drops L L x
none_drops L x f = record { gone = f; stays = λ y h ne. h; from = λ y h. h }

module _ (ts ts' : List ℕ) (n a x : ℕ) (r : Result Bool Broken) (ha : a < n) (p : Removed ts ts' n n a x r) where
  module _ (ks : List Term) (L : List (List ℕ)) (t : Table ts n ks L) (home : a ≡ bucket_of n (term_at ks x)) where
    stands : Held L x → Stands (row L a) x
    stands h = rw home (held_home ts n ks L t x h)

    held_out : Held L x → (r ≡ Ok true) × Without ts' n ks L x
    held_out h =
        let s = stands h in
        let q = p.law L s.place t.pool s.inside s.here in
        let la : a < length L = omega (arith, t.pool.count) in
        let d = remove_drops L a s.place x la s.inside t.pool.apart s.here in (
          q.0,
          record {
            lists = remove_l L a s.place;
            table = record {
              pool = q.1;
              home = λ c i k. let w = remove_from L a s.place la s.inside c i k in
                  ap (λ (z : ℕ). bucket_of n (term_at ks z)) w.same ∙ t.home c w.j w.inside;
              once = λ y z k l f. t.once y z (d.from y k) (d.from z l) f;
              low = λ y k. t.low y (d.from y k);
            };
            drops = d;
          },
        )

    absent_out : (Held L x → ⊥) → (r ≡ Ok false) × (ts' ≡ ts)
    absent_out f = p.none L t.pool (λ i l e. f (record { list = a; place = i; inside = l; here = e }))

    law_out : Without ts' n ks L x
    law_out = go (held_or ts n ks L t x)
      where
        go : Held L x ⊎ (Held L x → ⊥) → Without ts' n ks L x
        go (inl h) = (held_out h).1
        go (inr f) = record { lists = L; table = rw (absent_out f).1 t; drops = none_drops L x f }

    sound_out : r ≢ broken
    sound_out e = go (held_or ts n ks L t x)
      where
        go : Held L x ⊎ (Held L x → ⊥) → ⊥
        go (inl h) = let f = (held_out h).0 in zero_one cc
        go (inr g) = let f = (absent_out g).0 in zero_one cc

  pub departed : Departed ts ts' n a x r
  departed = record {
    exact = p;
    law = law_out;
    done = λ ks L t e h. (held_out ks L t e h).0;
    absent = absent_out;
    sound = sound_out;
  }
