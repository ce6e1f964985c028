-- The head as it is read: which numbers stand there, when they are good, and what a function that read them may use.
-- `numbers` stays shut, so that `rw (← q.is)` with a `HeadIs` q puts the struct in the place of what stands in the words.
-- Assumes nothing.
use Rattle.std.specs.Prelude.{Bool, false, true, List, None, Option, Some, ◌≡◌, ◌*◌, ◌≤◌, ℕ, eqb, refl}
use Rattle.std.specs.Bool.{then_some}
use Rattle.std.proofs.Common.{subst, sym, arith}
use Rattle.lists.specs.Reads.{at}
use Rattle.lists.specs.Tests.{Says}
use Rattle.layout.specs.Cut.{need}
use Rattle.layout.specs.View.{hd, hd_at}
use Rattle.layout.specs.declared.Head.{Head}

-- ---- the numbers

-- the numbers that stand in a head
unfoldable pub numbers : List ℕ → Head
numbers h = record { n = at h 0; m = at h 1; ids = at h 2; places = at h 3; depth = at h 4; classes = at h 5; clean = eqb (at h 6) 1 }

-- ---- when they are good

-- limits and counts in range, and as many words lent as the limits need: what every part is lent under
pub record HeadOk (len : ℕ) (s : Head) : Type 0 where
  pub n_low : 1 ≤ s.n
  pub n_high : s.n ≤ 65536
  pub m_high : s.m ≤ 262144
  pub ids_in : s.ids ≤ s.n
  pub places_in : s.places ≤ s.m
  pub depth_in : s.depth ≤ 2 * s.n
  pub classes_in : s.classes ≤ s.ids
  pub lent : need s.n s.m ≤ len

-- a good head of len words: its numbers are, and its flag is 0 or 1 (32 words for the head are part of what any limits need)
pub record GoodHead (len : ℕ) (h : List ℕ) : Type 0 where
  pub flag : at h 6 ≤ 1
  pub ok : HeadOk len (numbers h)

-- a good head, and s has what stands there
pub record HeadIs (len : ℕ) (h : List ℕ) (s : Head) : Type 0 where
  pub is : s ≡ numbers h
  pub flag : at h 6 ≤ 1
  pub ok : HeadOk len s

abbrev pub HeadSays : ℕ → List ℕ → Option Head → Type 0
HeadSays len h (Some s) = HeadIs len h s
HeadSays len h None = GoodHead len h → ⊥

-- ---- the laws

pub head_good : {len : ℕ} {h : List ℕ} {s : Head} → HeadIs len h s → GoodHead len h
head_good {len} q = record { flag = q.flag; ok = subst (λ (t : Head). HeadOk len t) q.is q.ok }

-- how a test of the head comes out
pub head_is : (len : ℕ) (h : List ℕ) (r : Option Head) (s : Head) → HeadSays len h r → r ≡ Some s → HeadIs len h s
head_is len h r s p e = rw e at p

-- the numbers of the words are those of their head
pub numbers_hd : (ws : List ℕ) → numbers ws ≡ numbers (hd ws)
unfolding numbers
numbers_hd ws = simp (
  hd_at ws 0 (omega arith),
  hd_at ws 1 (omega arith),
  hd_at ws 2 (omega arith),
  hd_at ws 3 (omega arith),
  hd_at ws 4 (omega arith),
  hd_at ws 5 (omega arith),
  hd_at ws 6 (omega arith),
)

-- how a test of the numbers settles the head
pub head_told : (len : ℕ) (h : List ℕ) (s : Head) (b : Bool) → s ≡ numbers h → at h 6 ≤ 1 → Says b (HeadOk len s) → b ≡ true → HeadIs len h s
head_told len h s b e f q t = record { is = e; flag = f; ok = q.holds t }

pub head_untold : (len : ℕ) (h : List ℕ) (s : Head) (b : Bool) → s ≡ numbers h → Says b (HeadOk len s) → b ≡ false → GoodHead len h → ⊥
head_untold len h s b e q t g = q.fails t (subst (λ (x : Head). HeadOk len x) (sym e) g.ok)

pub head_tested : (len : ℕ) (h : List ℕ) (s : Head) (b : Bool) → s ≡ numbers h → at h 6 ≤ 1 → Says b (HeadOk len s) → HeadSays len h (then_some b s)
head_tested len h s true e f q = head_told len h s true e f q refl
head_tested len h s false e f q = head_untold len h s false e q refl
