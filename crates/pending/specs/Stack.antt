-- The entries of a stack and the words that they stand in: entry d, counted from the bottom, in the words 2d and 2d + 1.
-- Assumes nothing.
use Rattle.std.specs.Prelude.{◌≡◌, refl, List, [], ◌∷◌, ℕ, zero, suc, ◌+◌, ◌<◌, length}
use Rattle.std.proofs.Common.{sym, ap, ◌∙◌, arith}
use Rattle.lists.specs.Reads.{at}
use Rattle.lists.specs.Stores.{puts, puts_miss, puts_hit}

-- the last pushed stands first
abbrev pub Entries : Type 0
Entries = List (ℕ × ℕ)

abbrev pub Stack : List ℕ → Entries → Type 0
Stack ps [] = Unit {0}
Stack ps (e ∷ es) = (at ps (length es + length es) ≡ e.0) × (at ps (length es + length es + 1) ≡ e.1) × Stack ps es

-- the words with the entry (x, y) on top of d entries
abbrev pub pushed : List ℕ → ℕ → ℕ → ℕ → List ℕ
pushed ps d x y = puts ps ((d + d, x) ∷ (d + d + 1, y) ∷ [])

-- a stretch is pushed as one entry, and not at all if it has no place
abbrev pub stretched : ℕ → ℕ → Entries → Entries
stretched c zero es = es
stretched c (suc k) es = (c, suc k) ∷ es

-- words past the entries do not matter
pub stack_frame : (ps qs : List ℕ) (es : Entries) → ((i : ℕ) → i < length es + length es → at qs i ≡ at ps i) → Stack ps es → Stack qs es
stack_frame ps qs [] h s = tt
stack_frame ps qs (e ∷ es) h s =
    (h (length es + length es) (omega arith) ∙ s.0, h (length es + length es + 1) (omega arith) ∙ s.1, stack_frame ps qs es (λ i l. h i (omega arith)) s.2)

pub stack_push : (ps : List ℕ) (d x y : ℕ) → d + d + 1 < length ps → (es : Entries) → length es ≡ d → Stack ps es → Stack (pushed ps d x y) ((x, y) ∷ es)
stack_push ps d x y room es e s =
    rw e (
      puts_hit ((d + d, x) ∷ (d + d + 1, y) ∷ []) ps 0 (omega arith) (omega arith) (omega arith),
      puts_hit ((d + d, x) ∷ (d + d + 1, y) ∷ []) ps 1 (omega arith) (omega arith) tt,
      stack_frame ps (pushed ps d x y) es (λ i l. puts_miss ((d + d, x) ∷ (d + d + 1, y) ∷ []) ps i (omega arith)) s,
    )

-- the words and the depth determine the entries
pub stack_determined : (ps : List ℕ) (es fs : Entries) → length es ≡ length fs → Stack ps es → Stack ps fs → es ≡ fs
stack_determined ps [] [] e s t = refl
stack_determined ps [] (f ∷ fs) e s t = absurd (omega arith)
stack_determined ps (x ∷ es) [] e s t = absurd (omega arith)
stack_determined ps (x ∷ es) (y ∷ fs) e s t =
    let l : length es ≡ length fs = omega arith in
    let a : x.0 ≡ y.0 = sym s.0 ∙ ap (λ (k : ℕ). at ps (k + k)) l ∙ t.0 in
    let b : x.1 ≡ y.1 = sym s.1 ∙ ap (λ (k : ℕ). at ps (k + k + 1)) l ∙ t.1 in
    let r = stack_determined ps es fs l s.2 t.2 in
    λ i. (a i, b i) ∷ r i
