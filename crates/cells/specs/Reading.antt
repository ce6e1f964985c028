-- What the functions that only read promise: `len`, `last` and `link` a word, `nth` the cell that k others follow.
-- Assumes nothing.
use Rattle.std.specs.Prelude.{Ok, Result, List, ◌≡◌, refl, ◌+◌, ◌<◌, ◌≤◌, suc, ℕ, length}
use Rattle.broken.specs.declared.Broken.{Broken}
use Rattle.broken.specs.Words.{broken, err≢ok}
use Rattle.std.proofs.Common.{◌∙◌, ap, sym, arith}
use Rattle.lists.specs.Reads.{at}
use Rattle.cells.specs.Pool.{Pool, row}
use Rattle.cells.specs.Rows.{fits}
use Rattle.cells.specs.Stretch.{part_list}
use Rattle.cells.specs.Trail.{trail, trail_inside, trail_part}

-- ---- the cell of list a that k others follow

pub record Reached (ws : List ℕ) (n m a k : ℕ) (r : Result ℕ Broken) : Type 0 where
  pub past : at ws (a + n + n) ≤ k → r ≡ broken
  pub far : m ≤ k → r ≡ broken
  pub stray : m ≤ at ws a → r ≡ broken
  pub exact : k < at ws (a + n + n) → k < m → at ws a < m → r ≡ trail ws n m k (at ws a)
  pub inside : (x : ℕ) → r ≡ Ok x → x < m
  pub law : (L : List (List ℕ)) (i : ℕ) → Pool ws n m L → suc (i + k) ≡ length (row L a) → r ≡ Ok (at (row L a) i)

module _ (ws : List ℕ) (n m a k : ℕ) (ha : a < n) where
  pub reach_far : m ≤ k → Reached ws n m a k broken
  reach_far h = record {
    past = λ _. refl;
    far = λ _. refl;
    stray = λ _. refl;
    exact = λ u v w. absurd (omega arith);
    inside = λ x e. err≢ok e;
    law = λ L i p e. absurd (omega (arith, fits ws n m L p a ha));
  }

  pub reach_stray : k < at ws (a + n + n) → m ≤ at ws a → Reached ws n m a k broken
  reach_stray u h = record {
    past = λ _. refl;
    far = λ _. refl;
    stray = λ _. refl;
    exact = λ v w x. absurd (omega arith);
    inside = λ x e. err≢ok e;
    law = λ L i p e. absurd (omega (arith, (p.rows a ha).final (i + k) e, (p.rows a ha).low (i + k) (omega arith)));
  }

  pub reach : (r : Result ℕ Broken) → k < at ws (a + n + n) → k < m → at ws a < m → r ≡ trail ws n m k (at ws a) → Reached ws n m a k r
  reach r u t h f = record {
    past = λ v. absurd (omega arith);
    far = λ v. absurd (omega arith);
    stray = λ v. absurd (omega arith);
    exact = λ _ _ _. f;
    inside = λ x e. trail_inside ws n m k (at ws a) x h (sym f ∙ e);
    law = λ L i p e. f ∙ ap (trail ws n m k) ((p.rows a ha).final (i + k) e) ∙ trail_part ws n m L (row L a) p (part_list L a) k i (omega arith);
  }
