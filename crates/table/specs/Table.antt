-- Which table a slice of words holds: the keys are a list of nodes, one for each id, and the buckets are the lists of a pool, whose cells are ids.
-- `Held` says that an id is in the table.
-- Assumes nothing.
use Rattle.std.specs.Prelude.{List, ◌≢◌, ◌⊎◌, ◌≡◌, refl, ◌<◌, ◌≤◌, ℕ, length}
use Rattle.std.proofs.Common.{inl, inr, ◌∙◌, ap, sym, arith}
use Rattle.lists.specs.Reads.{at}
use Rattle.language.specs.Term.{Term, term_at}
use Rattle.cells.specs.Pool.{Free, Pool, row}
use Rattle.table.specs.Buckets.{bucket_of}
use Rattle.table.specs.Standing.{Stands, stands_or}

-- The id x is in the table: it stands at a place of one of the buckets.
pub record Held (L : List (List ℕ)) (x : ℕ) : Type 0 where
  pub list : ℕ
  pub place : ℕ
  pub inside : place < length (row L list)
  pub here : at (row L list) place ≡ x

-- The words ts hold the buckets L, where id x has the x-th of the keys ks: each id that is held has a key and stands in its key's bucket,
-- and no two of them have one key.
pub record Table (ts : List ℕ) (n : ℕ) (ks : List Term) (L : List (List ℕ)) : Type 0 where
  pub pool : Pool ts n n L
  pub home : (a i : ℕ) → i < length (row L a) → bucket_of n (term_at ks (at (row L a) i)) ≡ a
  pub once : (x y : ℕ) → Held L x → Held L y → term_at ks x ≡ term_at ks y → x ≡ y
  pub low : (x : ℕ) → Held L x → x < length ks

-- ---- what is held

pub held_at : (L : List (List ℕ)) (a i : ℕ) → i < length (row L a) → Held L (at (row L a) i)
held_at L a i h = record { list = a; place = i; inside = h; here = refl }

-- an id that is not held is a free cell, and the other way round
pub not_held_free : (L : List (List ℕ)) (x : ℕ) → (Held L x → ⊥) → Free L x
not_held_free L x f = record { none = λ a i h e. f (record { list = a; place = i; inside = h; here = e }) }

pub free_not_held : (L : List (List ℕ)) (x : ℕ) → Free L x → Held L x → ⊥
free_not_held L x f h = f.none h.list h.place h.inside h.here

module _ (ts : List ℕ) (n : ℕ) (ks : List Term) (L : List (List ℕ)) (t : Table ts n ks L) where
  -- what is held stands in the bucket of its key
  pub held_home : (x : ℕ) → Held L x → Stands (row L (bucket_of n (term_at ks x))) x
  held_home x h =
      let e : bucket_of n (term_at ks x) ≡ h.list = ap (λ (z : ℕ). bucket_of n (term_at ks z)) (sym h.here) ∙ t.home h.list h.place h.inside in
      rw e (record { place = h.place; inside = h.inside; here = h.here })

  pub held_or : (x : ℕ) → Held L x ⊎ (Held L x → ⊥)
  held_or x = go (stands_or (row L (bucket_of n (term_at ks x))) x)
    where
      go : Stands (row L (bucket_of n (term_at ks x))) x ⊎ ((i : ℕ) → i < length (row L (bucket_of n (term_at ks x))) → at (row L (bucket_of n (term_at ks x))) i ≢ x)
          → Held L x ⊎ (Held L x → ⊥)
      go (inl s) = inl (record { list = bucket_of n (term_at ks x); place = s.place; inside = s.inside; here = s.here })
      go (inr f) = inr (λ h. let s = held_home x h in f s.place s.inside s.here)

  -- an id that was not handed out is not held
  pub not_held_new : (x : ℕ) → length ks ≤ x → Held L x → ⊥
  not_held_new x h k = omega (arith, t.low x k)
