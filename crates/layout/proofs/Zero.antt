-- Words of which each is tested to be 0.
-- Assumes nothing.
use Rattle.std.specs.Prelude.{Bool, false, true, List, ◌≡◌, ◌≢◌, ◌<◌, ℕ, get_or, length, replicate}
use Rattle.std.specs.Bool.{MatchBool}
use Rattle.std.specs.List.{AllWithin, HoldsAt}
use Rattle.std.proofs.Common.{◌∙◌, ap, sym, arith, ext_get_or}
use Rattle.std.proofs.lemmas.List.{get_or-replicate, length-replicate}
use Rattle.lists.specs.Tests.{Says, says_no, says_yes}

-- the tests say whether the words are as many zeros
pub all_zero : (r : Bool) (l : List ℕ)
    → MatchBool r (AllWithin (λ x. x ≡ 0) l 0 (length l)) ((k : ℕ) × (k < length l) × HoldsAt (λ x. x ≢ 0) l k)
    → Says r (l ≡ replicate (length l) 0)
all_zero true l h = says_yes (ext_get_or 0 l _ (sym (length-replicate (length l) 0)) (λ k s. h k 0 (omega arith) s ∙ sym (get_or-replicate (length l) k 0 0 s)))
all_zero false l h = says_no (λ e. h.2 0 (ap (λ (t : List ℕ). get_or t h.0 0) e ∙ get_or-replicate (length l) h.0 0 0 h.1))
