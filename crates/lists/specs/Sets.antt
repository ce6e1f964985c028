-- What a run of stores leaves (the library's `sets`): before it, where it stands, and behind it.
-- Assumes nothing.
use Rattle.std.specs.Prelude.{List, ◌++◌, ◌≡◌, refl, ◌+◌, ◌≤◌, ℕ, drop, length, take}
use Rattle.std.proofs.Common.{append_assoc, ◌∙◌, ap, sym, arith, length-append, drop_at, drop-drop, length-take-le, take_at, take-take}
use Rattle.std.proofs.Math.Seq.{length-sets}
use Rattle.std.proofs.lemmas.List.Edits.{sets, sets-eq}

-- a stretch that was stored: what lies before it, the stretch, and what lies behind it
module _ (l vs : List ℕ) (p : ℕ) (h : p + length vs ≤ length l) where
  front : length (take p l) ≡ p
  front = length-take-le p l (omega arith)

  whole : sets l p vs ≡ take p l ++ (vs ++ drop (p + length vs) l)
  whole = sets-eq vs l p h ∙ append_assoc (take p l) vs (drop (p + length vs) l)

  pub sets_before : take p (sets l p vs) ≡ take p l
  sets_before = rw whole (take_at (take p l) (vs ++ drop (p + length vs) l) p front)

  sets_behind : drop p (sets l p vs) ≡ vs ++ drop (p + length vs) l
  sets_behind = rw whole (drop_at (take p l) (vs ++ drop (p + length vs) l) p front)

  pub sets_stand : take (length vs) (drop p (sets l p vs)) ≡ vs
  sets_stand = rw sets_behind (take_at vs (drop (p + length vs) l) (length vs) refl)

  pub sets_after : drop (p + length vs) (sets l p vs) ≡ drop (p + length vs) l
  sets_after =
      sym (drop-drop (length vs) p (sets l p vs))
      ∙ ap (λ (k : List ℕ). drop (length vs) k) sets_behind
      ∙ drop_at vs (drop (p + length vs) l) (length vs) refl

-- a stretch stored in front of one that stands: both are one stretch
pub sets_front : (us vs l : List ℕ) (p q : ℕ) → q ≡ p + length us → q + length vs ≤ length l → sets (sets l q vs) p us ≡ sets l p (us ++ vs)
sets_front us vs l p q e h =
    let b : take p (sets l q vs) ≡ take p l =
    sym (take-take p q (sets l q vs) (omega arith)) ∙ ap (λ (k : List ℕ). take p k) (sets_before l vs q h) ∙ take-take p q l (omega arith) in
    let s : length (sets l q vs) ≡ length l = length-sets l q vs in
    let w : p + length (us ++ vs) ≡ q + length vs = omega (arith, length-append us vs) in
    whole (sets l q vs) us p (omega arith)
    ∙ rw (b, ← e, sets_behind l vs q h) (sym (whole l (us ++ vs) p (omega arith) ∙ rw (w, append_assoc us vs (drop (q + length vs) l)) refl))
