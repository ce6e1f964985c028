-- What a step leaves that writes the words (`Work` of src/lib.rt). A struct that holds a loan may be given another one, so each step says that it kept the loan:
-- only then does `sort` know that the words it was lent are the ones that were written.
-- Assumes nothing.
use Rattle.std.specs.Prelude.{List, ◌≡◌, refl, ℕ}
use Rattle.std.proofs.Common.{◌∙◌}
use Rattle.sorting.specs.declared.Work.{Work}

-- the loan, n and m are as they were, and P holds of the words before and after, n and m
pub record Did (P : List ℕ → List ℕ → ℕ → ℕ → Type 0) (w w' : Work) : Type 0 where
  pub loan : w'.ws.ghost_name ≡ w.ws.ghost_name
  pub n : w'.n ≡ w.n
  pub m : w'.m ≡ w.m
  pub did : P w.ws.now w'.ws.now w.n w.m

-- nothing was done
pub did_none : {P : List ℕ → List ℕ → ℕ → ℕ → Type 0} {w : Work} → P w.ws.now w.ws.now w.n w.m → Did P w w
did_none p = record { loan = refl; n = refl; m = refl; did = p }

-- what was done may be said otherwise
pub did_as : {P Q : List ℕ → List ℕ → ℕ → ℕ → Type 0} {w w' : Work} → Did P w w' → Q w.ws.now w'.ws.now w.n w.m → Did Q w w'
did_as a q = record { loan = a.loan; n = a.n; m = a.m; did = q }

-- one step after another: what both promise
pub did_both : {P Q : List ℕ → List ℕ → ℕ → ℕ → Type 0} {w w1 w2 : Work} → Did P w w1 → Did Q w1 w2
    → Did (λ ws ws' n m. P ws w1.ws.now n m × Q w1.ws.now ws' n m) w w2
did_both a b = record { loan = b.loan ∙ a.loan; n = b.n ∙ a.n; m = b.m ∙ a.m; did = (a.did, rw (a.n, a.m) at b.did) }
