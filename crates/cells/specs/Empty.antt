-- Lists given up: one, whose length is set to 0, and all of them. What `empty` and `clear` promise.
-- Assumes nothing.
use Rattle.std.specs.Prelude.{List, [], ◌≢◌, ◌≡◌, refl, ◌+◌, ◌<◌, ◌≤◌, suc, ℕ, length, replicate, set}
use Rattle.std.proofs.Common.{⊎_elim, ◌∙◌, sym, arith, length-set, get_or-set_other, get_or-set_same}
use Rattle.std.proofs.Math.ListN.{get_or-eq_default}
use Rattle.std.proofs.lemmas.List.{get_or-replicate, length-replicate}
use Rattle.lists.specs.Reads.{at, set_all}
use Rattle.lists.specs.Tests.{lt_or}
use Rattle.cells.specs.Pool.{Pool, Row, empty_l, row}
use Rattle.cells.specs.Rows.{row_frame, row_none}

-- ---- on lists

-- what holds of the empty list at a, and of the other lists, holds of all
pub empty_cases : (P : ℕ → List ℕ → Type 0) (L : List (List ℕ)) (a : ℕ) → a < length L → P a []
    → ((x : ℕ) → x ≢ a → P x (row L x)) → (x : ℕ) → P x (row (empty_l L a) x)
unfolding empty_l
empty_cases P L a h p f = set_all P L a [] [] h p f

pub empty_at : (L : List (List ℕ)) (a : ℕ) → a < length L → row (empty_l L a) a ≡ []
unfolding empty_l
empty_at L a h = get_or-set_same L a [] [] h

pub empty_else : (L : List (List ℕ)) (a x : ℕ) → x ≢ a → row (empty_l L a) x ≡ row L x
unfolding empty_l
empty_else L a x ne = get_or-set_other L a x [] [] ne

-- what is left stood where it stands, in another list
pub empty_from : (L : List (List ℕ)) (a : ℕ) → a < length L → (x i : ℕ) → i < length (row (empty_l L a) x)
    → (x ≢ a) × (i < length (row L x)) × (at (row (empty_l L a) x) i ≡ at (row L x) i)
empty_from L a h =
    empty_cases (λ x zs. (i : ℕ) → i < length zs → (x ≢ a) × (i < length (row L x)) × (at zs i ≡ at (row L x) i)) L a h
    (λ i k. absurd (omega arith)) (λ x ne i k. (ne, k, refl))

-- n empty lists have no cell
pub empty_all : (n a i : ℕ) → i < length (row (replicate n []) a) → ⊥
empty_all n a i k =
    ⊎_elim
    (λ (l : a < n). omega (arith, rw (get_or-replicate {A = List ℕ} n a [] [] l) at k))
    (λ (l : n ≤ a). omega (arith, rw (get_or-eq_default {A = List ℕ} (replicate n []) [] {n = a} (rw length-replicate l)) at k))
    (lt_or a n)

-- ---- one list

pub pool_empty : (ws : List ℕ) (n m a : ℕ) (L : List (List ℕ)) → n + n + n ≤ length ws → a < n → Pool ws n m L
    → Pool (set ws (a + n + n) 0) n m (empty_l L a)
unfolding empty_l
pool_empty ws n m a L room ha p =
    let ha' : a < length L = omega (arith, p.count) in
    record {
      count = length-set L a [] ∙ p.count;
      rows = empty_cases (λ x zs. x < n → Row (set ws (a + n + n) 0) n m x zs) L a ha'
          (λ _. row_none (set ws (a + n + n) 0) n m a (get_or-set_same ws (a + n + n) 0 0 (omega arith)))
          (λ x ne hx. row_frame ws (set ws (a + n + n) 0) n m x (row L x) (p.rows x hx)
          (get_or-set_other ws (a + n + n) x 0 0 (omega arith))
          (get_or-set_other ws (a + n + n) (x + n) 0 0 (omega arith))
          (get_or-set_other ws (a + n + n) (x + n + n) 0 0 (omega arith))
          (λ i h. get_or-set_other ws (a + n + n) (n + n + n + at (row L x) (suc i)) 0 0 (omega arith)));
      apart = record {
        once = λ x i y j h k e.
            let s = empty_from L a ha' x i h in
            let t = empty_from L a ha' y j k in
            p.apart.once x i y j s.1 t.1 (sym s.2 ∙ e ∙ t.2);
      };
    }

-- what `empty` promises
pub record Emptied (ws ws' : List ℕ) (n a : ℕ) : Type 0 where
  pub kept : length ws' ≡ length ws
  pub exact : ws' ≡ set ws (a + n + n) 0
  pub law : (m : ℕ) (L : List (List ℕ)) → Pool ws n m L → Pool ws' n m (empty_l L a)

pub emptied : (ws : List ℕ) (n a : ℕ) → n + n + n ≤ length ws → a < n → Emptied ws (set ws (a + n + n) 0) n a
emptied ws n a room ha = record {
  kept = length-set ws (a + n + n) 0;
  exact = refl;
  law = λ m L p. pool_empty ws n m a L room ha p;
}

-- ---- all lists

-- what `clear` promises at i = n: the first i lengths are 0, and no other word changed
pub record Cleared (ws ws' : List ℕ) (n i : ℕ) : Type 0 where
  pub kept : length ws' ≡ length ws
  pub zeros : (a : ℕ) → a < i → at ws' (a + n + n) ≡ 0
  pub before : (j : ℕ) → j < n + n → at ws' j ≡ at ws j
  pub after : (j : ℕ) → n + n + i ≤ j → at ws' j ≡ at ws j

-- then the words hold n empty lists, whatever they were
pub cleared_pool : (ws ws' : List ℕ) (n m : ℕ) → Cleared ws ws' n n → Pool ws' n m (replicate n [])
cleared_pool ws ws' n m c = record {
  count = length-replicate n [];
  rows = λ a l. rw (get_or-replicate {A = List ℕ} n a [] [] l) (row_none ws' n m a (c.zeros a l));
  apart = record { once = λ a i d j k l e. absurd (empty_all n a i k) };
}
