-- The answer of a step on words that no calls could have produced.
-- Assumes nothing.
use Rattle.std.specs.Prelude.{◌≡◌, refl, false, true, ℕ, Result, Ok, Err, IsErr, IsErrAnd}
use Rattle.std.proofs.Common.{◌∙◌, ap, arith, sym}
use Rattle.broken.specs.declared.Broken.{Broken}

abbrev pub broken : {T : Type 0} → Result T Broken
broken = Err (record {})

-- there is one such answer
pub is_broken : {T : Type 0} (r : Result T Broken) → IsErr r → r ≡ broken
is_broken (Err e) h = refl
is_broken (Ok x) h = let no : false ≡ true = h in cc

-- the error that a `?` hands on
pub error_is : {T E : Type 0} (r : Result T E) (e : E) → IsErrAnd r (λ (x : E). x ≡ e) → r ≡ Err e
error_is (Err x) e h = ap Err h
error_is (Ok x) e h = absurd h

-- a refusal is no answer, `broken` among them
pub err≢ok : {T E A : Type 0} {e : E} {x : T} → ◌≡◌ {A = Result T E} (Err e) (Ok x) → A
err≢ok p = let z : ◌≡◌ {A = ℕ} 0 1 = cc in absurd (omega arith)

-- and nothing is both
pub apart : {T E A : Type 0} {r : Result T E} {e : E} {x : T} → r ≡ Err e → r ≡ Ok x → A
apart p q = err≢ok (sym p ∙ q)
