-- One number put in the place of another.
-- Assumes nothing.
use Rattle.std.specs.Prelude.{◌≡◌, refl, ◌≢◌, ◌⊎◌, ℕ}
use Rattle.std.proofs.Common.{inl, inr}
use Rattle.std.proofs.Math.Decide.{ℕ_discrete}
use Rattle.lists.specs.Tests.{when, when_yes, when_no}

-- r, but `stay` where r is `lose`
unfoldable pub relabel : ℕ → ℕ → ℕ → ℕ
relabel stay lose r = when (ℕ_discrete r lose) stay r

pub relabel_hit : (s l : ℕ) → relabel s l l ≡ s
unfolding relabel
relabel_hit s l = when_yes (ℕ_discrete l l) s l refl

pub relabel_miss : (s l r : ℕ) → r ≢ l → relabel s l r ≡ r
unfolding relabel
relabel_miss s l r h = when_no (ℕ_discrete r l) s r h

-- r was `lose`, or it stays
abbrev pub Hit : ℕ → ℕ → ℕ → Type 0
Hit s l r = ((r ≡ l) × (relabel s l r ≡ s)) ⊎ ((r ≢ l) × (relabel s l r ≡ r))

pub relabel_cases : (s l r : ℕ) → Hit s l r
relabel_cases s l r = go (ℕ_discrete r l)
  where
    go : Dec (r ≡ l) → Hit s l r
    go (yes e) = inl (e, rw e (relabel_hit s l))
    go (no n) = inr (n, relabel_miss s l r n)
