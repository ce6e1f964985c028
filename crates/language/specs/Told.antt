-- The answer of a step that tells an id, if there is one, and what is known of a definition's answer that it is equal to.
-- Assumes nothing.
use Rattle.std.specs.Prelude.{Err, None, Ok, Option, Result, Some, ◌≡◌, refl, ℕ}
use Rattle.std.specs.Option.{option_map}
use Rattle.std.proofs.Common.{ap, sym}
use Rattle.language.specs.declared.Id.{Id}

-- no id is an answer too
abbrev pub told_id : {E : Type 0} → Option ℕ → Result (Option Id) E
told_id o = Ok (option_map (λ i. record { 0 = i }) o)

module _ {E : Type 0} where
  pub told_none : (o : Option ℕ) → ◌≡◌ {A = Result (Option Id) E} (Ok None) (told_id o) → o ≡ None
  told_none None p = refl
  told_none (Some i) p = cc

  pub told_some : (o : Option ℕ) (x : Id) → ◌≡◌ {A = Result (Option Id) E} (Ok (Some x)) (told_id o) → o ≡ Some x.0
  told_some None x p = cc
  told_some (Some i) x p = let q : x ≡ record { 0 = i } = cc in ap (λ (y : Id). Some y.0) (sym q)

  pub told_not : {A : Type 0} {e : E} (o : Option ℕ) → ◌≡◌ {A = Result (Option Id) E} (Err e) (told_id o) → A
  told_not o p = absurd cc
