-- A node whose children went through a function, one after the other, until one was refused, the first that is: what `Fit::try_map` promises.
-- Q c r says that r is a possible answer of the function for the child c.
-- Assumes nothing.
use Rattle.std.specs.Prelude.{Err, Ok, Result, ◌≡◌, ◌<◌, ℕ}
use Rattle.std.proofs.Common.{subst}
use Rattle.lists.specs.Reads.{at}
use Rattle.lists.specs.Tests.{zero_one}
use Rattle.language.specs.Partway.{Partway}
use Rattle.language.specs.Term.{Term}
use Rattle.language.specs.declared.Id.{Id}
use Rattle.language.specs.Fitting.{term}
use Rattle.language.specs.declared.fit.Fit.{Fit}

-- child i as an id
abbrev pub child_at : Term → ℕ → Id
child_at t i = record { 0 = at t.kids i }

module _ {E : Type 0} (Q : Id → Result Id E → Type 0) where
  -- k was the answer for the child c
  abbrev pub Gave : ℕ → ℕ → Type 0
  Gave c k = Q (record { 0 = c }) (Ok (record { 0 = k }))

  pub record Mapped (x : Fit) (r : Result Fit E) : Type 0 where
    pub all : (y : Fit) → r ≡ Ok y → (y.node.count ≡ x.node.count) × Partway Gave x.node.count (term x) (term y)
    -- the children before the one that was refused had their answers
    pub refused : (e : E) → r ≡ Err e → (i : ℕ) × (s : Term) × (i < x.node.count) × Partway Gave i (term x) s × Q (child_at (term x) i) (Err e)

  pub mapped_all : (x y : Fit) (i : ℕ) → y.node.count ≡ x.node.count → i ≡ x.node.count → Partway Gave i (term x) (term y) → Mapped x (Ok y)
  mapped_all x y i c h P = record {
    all = λ z e. let same : y ≡ z = cc in rw (← same) (c, subst (λ (j : ℕ). Partway Gave j (term x) (term y)) h P);
    refused = λ e q. zero_one cc;
  }
