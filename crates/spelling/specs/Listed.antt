-- Nodes spelled one after the other: one node more at the end.
-- Assumes nothing.
use Rattle.std.specs.Prelude.{List, [], ◌++◌, ◌∷◌, ◌≡◌, ◌+◌, ℕ, length}
use Rattle.std.proofs.Common.{append_assoc, append-nil, ◌∙◌, ap, sym, length-append}
use Rattle.language.specs.Term.{Term, spell, words}

pub spell_snoc : (ts : List Term) (t : Term) → spell (ts ++ (t ∷ [])) ≡ spell ts ++ words t
unfolding spell
spell_snoc [] t = append-nil (words t)
spell_snoc (s ∷ ts) t = ap (λ (l : List ℕ). words s ++ l) (spell_snoc ts t) ∙ sym (append_assoc (words s) (spell ts) (words t))

pub length_spell : (ts : List Term) (t : Term) → length (spell (ts ++ (t ∷ []))) ≡ length (spell ts) + length (words t)
length_spell ts t = ap length (spell_snoc ts t) ∙ length-append (spell ts) (words t)
