-- How many words the limits need (document 01, "What a graph may hold"); 0 for limits that setup refuses by 1.
-- Assumes nothing.
use Rattle.std.specs.Prelude.{◌≡◌, ℕ}
use Rattle.egraph.specs.Setup.{Limits}
use Rattle.layout.specs.Cut.{need}

pub record Needs (n m r : ℕ) : Type 0 where
  pub inside : Limits n m → r ≡ need n m
  pub outside : (Limits n m → ⊥) → r ≡ 0
