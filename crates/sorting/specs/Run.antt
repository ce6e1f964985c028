-- A run: k ids from lo on, with k words n further on to work in. What sorting one leaves, and that it does for at most one id, and for two.
-- Assumes nothing.
use Rattle.std.specs.Prelude.{List, [], ◌∷◌, ◌≢◌, ◌≡◌, refl, ◌+◌, ◌<◌, ◌≤◌, suc, zero, ℕ, length, set}
use Rattle.std.proofs.Common.{◌∙◌, arith, length-set, get_or-set_other, get_or-set_same}
use Rattle.rows.specs.Rows.{size}
use Rattle.lists.specs.Reads.{at}
use Rattle.std.specs.declared.cmp.Ordering.TheVariants.{Equal, Greater, Less}
use Rattle.sorting.specs.Arranged.{Arranged, arranged_none, arranged_one, arranged_two, left, level, none, over, right, under}
use Rattle.sorting.specs.Ids.{Below, by, by_lawful}
use Rattle.sorting.specs.Stretch.{stretch, stretch_none, stretch_one, stretch_two}

pub record Area (ws : List ℕ) (n m lo k : ℕ) : Type 0 where
  pub front : size n m ≤ lo
  pub half : k ≤ n
  pub room : lo + n + k ≤ length ws
  pub ids : Below ws n lo k

-- the words before the run, and those between it and the words to work in, stay
pub record Kept (ws ws' : List ℕ) (n lo k : ℕ) : Type 0 where
  pub kept_length : length ws' ≡ length ws
  pub before : (j : ℕ) → j < lo → at ws' j ≡ at ws j
  pub between : (j : ℕ) → lo + k ≤ j → j < lo + n → at ws' j ≡ at ws j

pub kept_same : (ws : List ℕ) (n lo k : ℕ) → Kept ws ws n lo k
kept_same ws n lo k = record { kept_length = refl; before = λ j h. refl; between = λ j h i. refl }

-- d ids are left of the k
pub record Ran (ws ws' : List ℕ) (n m lo k d : ℕ) : Type 0 where
  pub few : d ≤ k
  pub kept : Kept ws ws' n lo k
  pub arranged : Arranged (by ws n m) (stretch ws lo k) (stretch ws' lo d)

pub run_short : (ws : List ℕ) (n m lo k : ℕ) → k < 2 → Ran ws ws n m lo k k
run_short ws n m lo k h = record { few = omega arith; kept = kept_same ws n lo k; arranged = go k h }
  where
    go : (k : ℕ) → k < 2 → Arranged (by ws n m) (stretch ws lo k) (stretch ws lo k)
    go zero h = rw (stretch_none ws lo 0 refl) arranged_none
    go (suc zero) h = rw (stretch_one ws lo) (arranged_one (by_lawful ws n m) (at ws lo))
    go (suc (suc k)) h = absurd (omega arith)

-- ---- a pair

module _ (ws : List ℕ) (n m lo : ℕ) where
  pub pair_less : by ws n m (at ws lo) (at ws (lo + 1)) ≡ Less → Ran ws ws n m lo 2 2
  pair_less e = record { few = omega arith; kept = kept_same ws n lo 2; arranged = rw (stretch_two ws lo) (arranged_two (by_lawful ws n m) _ _ _ (under e (right none))) }

  pub pair_equal : by ws n m (at ws lo) (at ws (lo + 1)) ≡ Equal → Ran ws ws n m lo 2 1
  pair_equal e = record { few = omega arith; kept = kept_same ws n lo 2; arranged = rw (stretch_two ws lo, stretch_one ws lo) (arranged_two (by_lawful ws n m) _ _ _ (level e none)) }

  abbrev half_way : List ℕ
  half_way = set ws lo (at ws (lo + 1))

  abbrev swapped : List ℕ
  swapped = set half_way (lo + 1) (at ws lo)

  others : (j : ℕ) → j ≢ lo → j ≢ lo + 1 → at swapped j ≡ at ws j
  others j p q = get_or-set_other half_way (lo + 1) j (at ws lo) 0 q ∙ get_or-set_other ws lo j (at ws (lo + 1)) 0 p

  swapped_two : lo + 1 < length ws → stretch swapped lo 2 ≡ at ws (lo + 1) ∷ at ws lo ∷ []
  swapped_two h =
      let f : lo < length ws = omega arith in
      let g : lo + 1 < length half_way = simp length-set h in
      let a : at swapped lo ≡ at ws (lo + 1) = get_or-set_other half_way (lo + 1) lo (at ws lo) 0 (omega arith) ∙ get_or-set_same ws lo (at ws (lo + 1)) 0 f in
      let b : at swapped (lo + 1) ≡ at ws lo = get_or-set_same half_way (lo + 1) (at ws lo) 0 g in
      stretch_two swapped lo ∙ (λ i. a i ∷ b i ∷ [])

  pub pair_greater : 2 ≤ n → lo + 1 < length ws → by ws n m (at ws lo) (at ws (lo + 1)) ≡ Greater → Ran ws swapped n m lo 2 2
  pair_greater w h e = record {
    few = omega arith;
    kept = record {
      kept_length = simp length-set;
      before = λ j h. others j (omega arith) (omega arith);
      between = λ j h i. others j (omega arith) (omega arith);
    };
    arranged = rw (stretch_two ws lo, swapped_two h) (arranged_two (by_lawful ws n m) _ _ _ (over e (left none)));
  }
