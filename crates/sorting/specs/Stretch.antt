-- Stretches of words: the n words from a on, read by index, so that no lengths are asked; what stays where only one stretch is new.
-- Assumes nothing.
use Rattle.std.specs.Prelude.{List, [], ◌++◌, ◌∷◌, ◌⊎◌, ◌≡◌, refl, ◌+◌, ◌-◌, ◌<◌, ◌≤◌, suc, zero, ℕ, drop, length, set, take}
use Rattle.std.proofs.Common.{inl, inr, ◌∙◌, ap, not-suc-le-zero, suc-add, zero-add, add-one, arith, length-set, get_or-set_other, get_or-set_same}
use Rattle.std.proofs.Math.Numerals.{unary_clauses}
use Rattle.lists.specs.Members.{Mem, here, mem-cases, mem-nil, there}
use Rattle.lists.specs.Reads.{at}
use Rattle.lists.specs.Parts.{part_is}
use Rattle.sorting.specs.declared.Stretch.{Stretch}

unfoldable pub stretch : List ℕ → ℕ → ℕ → List ℕ
stretch ws a zero = []
stretch ws a (suc n) = at ws a ∷ stretch ws (suc a) n

-- the words of a stretch
abbrev pub words : List ℕ → Stretch → List ℕ
words ws s = stretch ws s.start s.len

-- a stretch without its first word
abbrev pub rest : Stretch → Stretch
rest s = record { start = s.start + 1; len = s.len - 1 }

-- the words of us from `from` on are those of ws from `to` on, n of them
pub stretch_moved : (us ws : List ℕ) (from to n : ℕ) → ((p : ℕ) → p < n → at us (from + p) ≡ at ws (to + p)) → stretch us from n ≡ stretch ws to n
unfolding stretch
stretch_moved us ws from to zero h = refl
stretch_moved us ws from to (suc n) h =
    let e : at us from ≡ at ws to = simp unary_clauses at (h 0 (omega arith)) in
    let t : stretch us (suc from) n ≡ stretch ws (suc to) n = stretch_moved us ws (suc from) (suc to) n (λ p k. simp suc-add (simp unary_clauses at (h (suc p) (omega arith)))) in
    λ i. e i ∷ t i

pub stretch_same : (us ws : List ℕ) (a n : ℕ) → ((j : ℕ) → a ≤ j → j < a + n → at us j ≡ at ws j) → stretch us a n ≡ stretch ws a n
stretch_same us ws a n h = stretch_moved us ws a a n (λ p k. h (a + p) (omega arith) (omega arith))

-- ---- taken apart

pub stretch_join : (ws : List ℕ) (a n m : ℕ) → stretch ws a (n + m) ≡ stretch ws a n ++ stretch ws (a + n) m
unfolding stretch
stretch_join ws a zero m = simp (unary_clauses, zero-add)
stretch_join ws a (suc n) m = simp (unary_clauses, suc-add) (ap (λ (l : List ℕ). at ws a ∷ l) (simp suc-add at (stretch_join ws (suc a) n m)))

pub stretch_none : (ws : List ℕ) (i n : ℕ) → n ≡ 0 → stretch ws i n ≡ []
unfolding stretch
stretch_none ws i n e = rw e refl

pub stretch_first : (ws : List ℕ) (i n : ℕ) → 0 < n → stretch ws i n ≡ at ws i ∷ stretch ws (i + 1) (n - 1)
unfolding stretch
stretch_first ws i zero h = absurd (not-suc-le-zero h)
stretch_first ws i (suc n) h = let e : suc n - 1 ≡ n = omega arith in rw (e, add-one) refl

pub stretch_one : (ws : List ℕ) (i : ℕ) → stretch ws i 1 ≡ at ws i ∷ []
unfolding stretch
stretch_one ws i = refl

pub stretch_two : (ws : List ℕ) (i : ℕ) → stretch ws i 2 ≡ at ws i ∷ at ws (i + 1) ∷ []
unfolding stretch
stretch_two ws i = rw add-one refl

-- ---- members

pub stretch_has : (ws : List ℕ) (a n p : ℕ) → p < n → Mem (at ws (a + p)) (stretch ws a n)
unfolding stretch
stretch_has ws a zero p h = absurd (not-suc-le-zero h)
stretch_has ws a (suc n) zero h = let e : at ws (a + 0) ≡ at ws a = simp unary_clauses in here e
stretch_has ws a (suc n) (suc p) h = let e : suc a + p ≡ a + suc p = omega arith in there (rw e at (stretch_has ws (suc a) n p (omega arith)))

pub stretch_from : (ws : List ℕ) (a n z : ℕ) → Mem z (stretch ws a n) → (p : ℕ) × (p < n) × (z ≡ at ws (a + p))
unfolding stretch
stretch_from ws a zero z m = absurd (mem-nil m)
stretch_from ws a (suc n) z m = go (mem-cases m) (stretch_from ws (suc a) n z)
  where
    go : (z ≡ at ws a) ⊎ Mem z (stretch ws (suc a) n) → (Mem z (stretch ws (suc a) n) → (p : ℕ) × (p < n) × (z ≡ at ws (suc a + p))) → (p : ℕ) × (p < suc n) × (z ≡ at ws (a + p))
    go (inl e) ih = (0, omega arith, simp unary_clauses e)
    go (inr k) ih = let o = ih k in let e : suc a + o.0 ≡ a + suc o.0 = omega arith in (suc o.0, omega arith, rw e at o.2)

-- ---- as a part of the list

length_stretch : (ws : List ℕ) (a n : ℕ) → length (stretch ws a n) ≡ n
unfolding stretch
length_stretch ws a zero = refl
length_stretch ws a (suc n) = ap suc (length_stretch ws (suc a) n)

at_stretch : (ws : List ℕ) (a n p : ℕ) → p < n → at ws (a + p) ≡ at (stretch ws a n) p
unfolding stretch
at_stretch ws a zero p h = absurd (not-suc-le-zero h)
at_stretch ws a (suc n) zero h = simp unary_clauses
at_stretch ws a (suc n) (suc p) h = let e : a + suc p ≡ suc a + p = omega arith in rw e (at_stretch ws (suc a) n p (omega arith))

pub stretch_part : (ws : List ℕ) (a n : ℕ) → a + n ≤ length ws → take n (drop a ws) ≡ stretch ws a n
stretch_part ws a n h =
    let l = length_stretch ws a n in
    rw l at (part_is ws (stretch ws a n) a (omega arith) (λ p b. at_stretch ws a n p (omega arith)))

-- ---- one more word written behind a stretch

pub stretch_more : (ws zs : List ℕ) (a n t v : ℕ) → t ≡ a + n → t < length ws → stretch (set ws t v) a (n + 1) ++ zs ≡ stretch ws a n ++ (v ∷ zs)
unfolding stretch
stretch_more ws zs a zero t v e h = let d : t ≡ a = omega arith in rw (← d) (rw get_or-set_same refl)
stretch_more ws zs a (suc n) t v e h =
    let d : at (set ws t v) a ≡ at ws a = get_or-set_other ws t a v 0 (omega arith) in
    let i : stretch (set ws t v) (suc a) (n + 1) ++ zs ≡ stretch ws (suc a) n ++ (v ∷ zs) = stretch_more ws zs (suc a) n t v (omega arith) h in
    simp unary_clauses (λ k. d k ∷ (simp unary_clauses at i) k)

-- only the n words from lo on are new
pub record Only (ws ws' : List ℕ) (lo n : ℕ) : Type 0 where
  pub kept_length : length ws' ≡ length ws
  pub before : (j : ℕ) → j < lo → at ws' j ≡ at ws j
  pub after : (j : ℕ) → lo + n ≤ j → at ws' j ≡ at ws j

pub only_none : (ws : List ℕ) (lo : ℕ) → Only ws ws lo 0
only_none ws lo = record { kept_length = refl; before = λ j h. refl; after = λ j h. refl }

pub only_more : (ws us : List ℕ) (lo n t v : ℕ) → t ≡ lo + n → Only ws us lo n → Only ws (set us t v) lo (n + 1)
only_more ws us lo n t v e o = record {
  kept_length = rw length-set o.kept_length;
  before = λ j h. get_or-set_other us t j v 0 (omega arith) ∙ o.before j h;
  after = λ j h. get_or-set_other us t j v 0 (omega arith) ∙ o.after j (omega arith);
}
