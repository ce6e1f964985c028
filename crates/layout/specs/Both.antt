-- The rows and the sort's work area lent together as one slice, from the start of the rows to the end of the work area: the sort compares rows while it moves ids.
-- The rows come back as they were, so the work area is the one part that is new, and all laws of `Lent` serve.
-- Assumes nothing.
use Rattle.std.specs.Prelude.{List, ◌++◌, ◌≡◌, ◌*◌, ◌+◌, ℕ}
use Rattle.std.proofs.Common.{subst}
use Rattle.layout.specs.Cut.{sorting}
use Rattle.layout.specs.Lent.{Lent, Next, lent_next}
use Rattle.layout.specs.View.{View, view}

-- the rows and the work area as the one slice that is lent
abbrev pub both : View → List ℕ
both v = v.rows ++ v.sorting

-- how many words of it are rows
abbrev pub row_words : ℕ → ℕ → ℕ
row_words n m = 4 * n + 2 * m

-- P holds between the slice before and after, and nothing but the work area has changed
pub record LentBoth (n m : ℕ) (P : List ℕ → List ℕ → Type 0) (ws ws' : List ℕ) : Type 0 where
  pub lent : Lent sorting n m (λ s s'. P ((view n m ws).rows ++ s) ((view n m ws).rows ++ s')) ws ws'

-- in a chain: over the view v that the words are known to have
pub both_next : {n m : ℕ} {P : List ℕ → List ℕ → Type 0} {ws ws' : List ℕ} {v : View} → LentBoth n m P ws ws' → view n m ws ≡ v
    → Next sorting n m (λ s s'. P (v.rows ++ s) (v.rows ++ s')) v ws'
both_next {n} {m} {P} {ws} {ws'} t e =
    lent_next (subst (λ (x : View). Lent sorting n m (λ s s'. P (x.rows ++ s) (x.rows ++ s')) ws ws') e t.lent) e
