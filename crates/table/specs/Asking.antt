-- The id in the table that has a key. What `ask` promises: it is found exactly when an id in the table has the key.
-- Assumes nothing.
use Rattle.std.specs.Prelude.{Err, None, Ok, Option, Result, Some, List, ◌≢◌, ◌⊎◌, ◌≡◌, refl, ◌<◌, ℕ, length}
use Rattle.broken.specs.declared.Broken.{Broken}
use Rattle.broken.specs.Words.{broken}
use Rattle.std.proofs.Common.{inl, inr, ◌∙◌, ap, sym, arith}
use Rattle.lists.specs.Reads.{at}
use Rattle.language.specs.Term.{Term, term_at}
use Rattle.language.specs.declared.Id.{Id}
use Rattle.cells.specs.Pool.{row}
use Rattle.rows.specs.Determined.{read_key, sane}
use Rattle.rows.specs.Read.{key_read}
use Rattle.rows.specs.Rows.{Rows}
use Rattle.table.specs.Buckets.{bucket_of}
use Rattle.table.specs.Standing.{Stands}
use Rattle.table.specs.Seeking.{Sought}
use Rattle.table.specs.Table.{Held, Table, held_at, held_home}

-- `inside` and `key` hold for any words. Where the words hold a table and its rows, `sound`, `found` and `none` say what each answer means,
-- and `hit` and `miss` which answer is given: an id that is held and has the key t, or none if no such id is held.
pub record Answers (ts rows : List ℕ) (n m : ℕ) (t : Term) (r : Result (Option Id) Broken) : Type 0 where
  pub inside : (x : Id) → r ≡ Ok (Some x) → x.0 < n
  pub key : (x : Id) → r ≡ Ok (Some x) → key_read rows n m x.0 ≡ t
  pub sound : (ks us : List Term) (L : List (List ℕ)) → Table ts n ks L → Rows rows n m us ks → r ≢ broken
  pub found : (ks us : List Term) (L : List (List ℕ)) → Table ts n ks L → Rows rows n m us ks → (x : Id) → r ≡ Ok (Some x)
      → Held L x.0 × (term_at ks x.0 ≡ t)
  pub none : (ks us : List Term) (L : List (List ℕ)) → Table ts n ks L → Rows rows n m us ks → r ≡ Ok None
      → (y : ℕ) → Held L y → term_at ks y ≢ t
  pub hit : (ks us : List Term) (L : List (List ℕ)) → Table ts n ks L → Rows rows n m us ks → (x : Id) → Held L x.0 → term_at ks x.0 ≡ t → r ≡ Ok (Some x)
  pub miss : (ks us : List Term) (L : List (List ℕ)) → Table ts n ks L → Rows rows n m us ks → ((y : ℕ) → Held L y → term_at ks y ≢ t) → r ≡ Ok None

module _ (ts rows : List ℕ) (n m a : ℕ) (t : Term) (r : Result (Option Id) Broken) (e : a ≡ bucket_of n t) (s : Sought ts rows n m a t r) where
  module _ (ks us : List Term) (L : List (List ℕ)) (T : Table ts n ks L) (R : Rows rows n m us ks) where
    -- what is held has a row, whose key it is
    row_low : (y : ℕ) → Held L y → y < length us
    row_low y h = omega (arith, T.low y h, R.keys)

    row_key : (y : ℕ) → Held L y → key_read rows n m y ≡ term_at ks y
    row_key y h = read_key rows n m us ks R y (row_low y h)

    ask_sound : r ≢ broken
    ask_sound f = s.broken f L T.pool (λ i l. sane rows n m us ks R (at (row L a) i) (row_low (at (row L a) i) (held_at L a i l)))

    ask_found : (x : Id) → r ≡ Ok (Some x) → Held L x.0 × (term_at ks x.0 ≡ t)
    ask_found x f = let h = s.found x f L T.pool in (h, sym (row_key x.0 h) ∙ s.key x f)

    ask_none : r ≡ Ok None → (y : ℕ) → Held L y → term_at ks y ≢ t
    ask_none f y h k =
        let d : Stands (row L a) y = rw (e, ← k) (held_home ts n ks L T y h) in
        s.none f L T.pool d.place d.inside (ap (key_read rows n m) d.here ∙ row_key y h ∙ k)

    cases : (r ≡ Ok None) ⊎ ((x : Id) × (r ≡ Ok (Some x)))
    cases = go r refl
      where
        go : (q : Result (Option Id) Broken) → r ≡ q → (r ≡ Ok None) ⊎ ((x : Id) × (r ≡ Ok (Some x)))
        go (Ok (Some x)) f = inr (x, f)
        go (Ok None) f = inl f
        go (Err _) f = absurd (ask_sound f)

    ask_hit : (x : Id) → Held L x.0 → term_at ks x.0 ≡ t → r ≡ Ok (Some x)
    ask_hit x h k = go cases
      where
        go : (r ≡ Ok None) ⊎ ((y : Id) × (r ≡ Ok (Some y))) → r ≡ Ok (Some x)
        go (inl f) = absurd (ask_none f x.0 h k)
        go (inr q) =
            let w = ask_found q.0 q.1 in
            let z : q.0.0 ≡ x.0 = T.once q.0.0 x.0 w.0 h (w.1 ∙ sym k) in
            q.1 ∙ (λ i. Ok (Some (record { 0 = z i })))

    ask_miss : ((y : ℕ) → Held L y → term_at ks y ≢ t) → r ≡ Ok None
    ask_miss f = go cases
      where
        go : (r ≡ Ok None) ⊎ ((y : Id) × (r ≡ Ok (Some y))) → r ≡ Ok None
        go (inl g) = g
        go (inr q) = let w = ask_found q.0 q.1 in absurd (f q.0.0 w.0 w.1)

  pub answers : Answers ts rows n m t r
  answers = record { inside = s.inside; key = s.key; sound = ask_sound; found = ask_found; none = ask_none; hit = ask_hit; miss = ask_miss }
