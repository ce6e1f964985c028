-- Several stores into a list at once, one after another: what they miss is as it was, and what they hit last stands there.
-- `puts` stores single words, `runs` stores stretches; both compute to the `set`s that code leaves.
-- Assumes nothing.
use Rattle.std.specs.Prelude.{◌≡◌, refl, ◌≢◌, List, [], ◌∷◌, ◌++◌, ℕ, zero, suc, ◌+◌, ◌≤◌, ◌<◌, length, get_or, set, drop, take}
use Rattle.std.proofs.Common.{◌∙◌, not-suc-le-zero, add-zero, add-one, arith, length-set, length-take-le, get_or-set_same, get_or-set_other, take-suc}
use Rattle.std.proofs.lemmas.List.Edits.{sets}
use Rattle.std.proofs.Math.Seq.{length-sets}
use Rattle.lists.specs.Reads.{at}

-- ---- single words

abbrev pub puts : List ℕ → List (ℕ × ℕ) → List ℕ
puts ws [] = ws
puts ws (p ∷ ps) = puts (set ws p.0 p.1) ps

-- no store is at j: computes to a product of `≢`
abbrev pub Avoids : ℕ → List (ℕ × ℕ) → Type 0
Avoids j [] = Unit {0}
Avoids j (p ∷ ps) = (j ≢ p.0) × Avoids j ps

abbrev pub nth : List (ℕ × ℕ) → ℕ → ℕ × ℕ
nth ps k = get_or ps k (0, 0)

pub puts_length : (ps : List (ℕ × ℕ)) (ws : List ℕ) → length (puts ws ps) ≡ length ws
puts_length [] ws = refl
puts_length (p ∷ ps) ws = puts_length ps (set ws p.0 p.1) ∙ length-set ws p.0 p.1

pub puts_miss : (ps : List (ℕ × ℕ)) (ws : List ℕ) (j : ℕ) → Avoids j ps → at (puts ws ps) j ≡ at ws j
puts_miss [] ws j h = refl
puts_miss (p ∷ ps) ws j h = puts_miss ps (set ws p.0 p.1) j h.1 ∙ get_or-set_other ws p.0 j p.1 0 h.0

-- store k stands, where no later one is at its place
pub puts_hit : (ps : List (ℕ × ℕ)) (ws : List ℕ) (k : ℕ) → k < length ps → (nth ps k).0 < length ws → Avoids (nth ps k).0 (drop (suc k) ps)
    → at (puts ws ps) (nth ps k).0 ≡ (nth ps k).1
puts_hit [] ws k h l v = absurd (not-suc-le-zero h)
puts_hit (p ∷ ps) ws zero h l v = puts_miss ps (set ws p.0 p.1) p.0 v ∙ get_or-set_same ws p.0 p.1 0 l
puts_hit (p ∷ ps) ws (suc k) h l v = puts_hit ps (set ws p.0 p.1) k (omega arith) (rw length-set l) v

-- ---- one stretch, the library's `sets`

pub sets_miss : (vs l : List ℕ) (p j : ℕ) → (p ≤ j → j < p + length vs → ⊥) → at (sets l p vs) j ≡ at l j
sets_miss [] l p j h = refl
sets_miss (v ∷ vs) l p j h =
    let n : j ≢ p = λ e. h (omega arith) (omega arith) in
    sets_miss vs (set l p v) (suc p) j (λ a b. h (omega arith) (omega arith)) ∙ get_or-set_other l p j v 0 n

pub sets_hit : (vs l : List ℕ) (p j : ℕ) → j < length vs → p + length vs ≤ length l → at (sets l p vs) (p + j) ≡ at vs j
sets_hit [] l p j h k = absurd (not-suc-le-zero h)
sets_hit (v ∷ vs) l p zero h k =
    rw add-zero
    (sets_miss vs (set l p v) (suc p) p (λ a b. omega arith) ∙ get_or-set_same l p v 0 (omega arith))
sets_hit (v ∷ vs) l p (suc j) h k =
    let e : p + suc j ≡ suc p + j = omega arith in
    rw e (sets_hit vs (set l p v) (suc p) j (omega arith) (rw length-set (omega arith)))

-- one stretch behind another
pub sets_append : (us vs l : List ℕ) (p : ℕ) → sets l p (us ++ vs) ≡ sets (sets l p us) (p + length us) vs
sets_append [] vs l p = rw add-zero refl
sets_append (u ∷ us) vs l p =
    let e : p + suc (length us) ≡ suc p + length us = omega arith in
    rw e (sets_append us vs (set l p u) (suc p))

-- a loop that stores vs from p on: one word more
pub sets_more : (l vs : List ℕ) (p i : ℕ) → i < length vs → set (sets l p (take i vs)) (p + i) (at vs i) ≡ sets l p (take (i + 1) vs)
sets_more l vs p i h =
    let e : length (take i vs) ≡ i = length-take-le i vs (omega arith) in
    rw (add-one i, take-suc vs i 0 h, sets_append (take i vs) (at vs i ∷ []) l p, e) refl

-- ---- several stretches

abbrev pub runs : List ℕ → List (ℕ × List ℕ) → List ℕ
runs ws [] = ws
runs ws (r ∷ rs) = runs (sets ws r.0 r.1) rs

-- no stretch meets j: one `omega arith` proves it whole
abbrev pub Misses : ℕ → List (ℕ × List ℕ) → Type 0
Misses j [] = Unit {0}
Misses j (r ∷ rs) = (r.0 ≤ j → j < r.0 + length r.1 → ⊥) × Misses j rs

abbrev pub nth_run : List (ℕ × List ℕ) → ℕ → ℕ × List ℕ
nth_run rs k = get_or rs k (0, [])

pub runs_length : (rs : List (ℕ × List ℕ)) (ws : List ℕ) → length (runs ws rs) ≡ length ws
runs_length [] ws = refl
runs_length (r ∷ rs) ws = runs_length rs (sets ws r.0 r.1) ∙ length-sets ws r.0 r.1

pub runs_miss : (rs : List (ℕ × List ℕ)) (ws : List ℕ) (j : ℕ) → Misses j rs → at (runs ws rs) j ≡ at ws j
runs_miss [] ws j h = refl
runs_miss (r ∷ rs) ws j h = runs_miss rs (sets ws r.0 r.1) j h.1 ∙ sets_miss r.1 ws r.0 j h.0

-- stretch k stands, where no later one meets it
pub runs_hit : (rs : List (ℕ × List ℕ)) (ws : List ℕ) (k j : ℕ) → k < length rs → j < length (nth_run rs k).1 → (nth_run rs k).0 + length (nth_run rs k).1 ≤ length ws
    → Misses ((nth_run rs k).0 + j) (drop (suc k) rs) → at (runs ws rs) ((nth_run rs k).0 + j) ≡ at (nth_run rs k).1 j
runs_hit [] ws k j h i l v = absurd (not-suc-le-zero h)
runs_hit (r ∷ rs) ws zero j h i l v = runs_miss rs (sets ws r.0 r.1) (r.0 + j) v ∙ sets_hit r.1 ws r.0 j i l
runs_hit (r ∷ rs) ws (suc k) j h i l v = runs_hit rs (sets ws r.0 r.1) k j (omega arith) i (rw length-sets l) v
