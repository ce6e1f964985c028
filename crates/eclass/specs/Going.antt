-- The walk over the members of a class, on its way, said of the words with the head h: the members that are still to come, and what makes each step a safe one.
-- Assumes nothing.
use Rattle.std.specs.Prelude.{List, [], ◌++◌, ◌∷◌, ◌≡◌, refl, ◌+◌, ◌-◌, ◌<◌, get_or, suc, zero, ℕ, length}
use Rattle.std.specs.Iterator.{YieldsLastBy}
use Rattle.std.proofs.Common.{arith}
use Rattle.std.proofs.lemmas.Iterator.{YieldsList}
use Rattle.std.proofs.lemmas.Iterator.Consumers.{YieldsList-from_shown}
use Rattle.std.proofs.lemmas.List.{reverse-append}
use mathlib.Core.List.{reverse}
use Rattle.language.specs.declared.Id.{Id}
use Rattle.lists.specs.Members.{Mem, here, mem-left, mem-right, mem_unreverse, there}
use Rattle.lists.specs.Reads.{at}
use Rattle.layout.specs.Head.{HeadOk}
use Rattle.layout.specs.View.{view}
use Rattle.layout.specs.declared.Head.{Head}
use Rattle.eclass.specs.Checks.{FineIn}
use Rattle.eclass.specs.ClassWalk.{back, back_none, back_step, class_ids, length_back}

-- `left` ids that end with cur, first to last
abbrev pub going : Head → List ℕ → ℕ → ℕ → List ℕ
going h ws left cur = back (view h.n h.m ws).members h.n left cur

-- all of the class of r
abbrev pub members_in : Head → List ℕ → ℕ → List ℕ
members_in h ws r = class_ids (view h.n h.m ws).members h.n r

-- each of them has a word to read
pub record Going (h : Head) (ws : List ℕ) (left cur : ℕ) : Type 0 where
  pub ok : HeadOk (length ws) h
  pub low : (x : ℕ) → Mem x (going h ws left cur) → x < h.n

module _ (h : Head) (ws : List ℕ) where
  pub going_none : (left cur : ℕ) → left ≡ 0 → going h ws left cur ≡ []
  going_none left cur e = back_none _ _ left cur e

  module _ (left cur : ℕ) (G : Going h ws left cur) (some : 0 < left) where
    pub going_low : cur < h.n
    going_low = G.low cur (rw (back_step _ _ left (left - 1) cur (omega arith)) (mem-right (back _ _ (left - 1) _) (here refl)))

    pub going_step : (link : ℕ) → link ≡ at (view h.n h.m ws).members (h.n + h.n + h.n + cur) → going h ws left cur ≡ going h ws (left - 1) link ++ (cur ∷ [])
    going_step link e = rw e (back_step _ _ left (left - 1) cur (omega arith))

    pub going_fewer : (link : ℕ) → length (going h ws (left - 1) link) < length (going h ws left cur)
    going_fewer link = omega (arith, length_back (view h.n h.m ws).members h.n left cur, length_back (view h.n h.m ws).members h.n (left - 1) link)

    pub going_next : (link : ℕ) → link ≡ at (view h.n h.m ws).members (h.n + h.n + h.n + cur) → Going h ws (left - 1) link
    going_next link e = record { ok = G.ok; low = λ x m. G.low x (rw (going_step link e) (mem-left (cur ∷ []) m)) }

-- ---- the walk as an iterator

-- what it gives: the members, from the last back
pub members_back : (todo : List ℕ) → YieldsList (YieldsLastBy (λ (x : Id). x.0) (λ (rest : List ℕ). rest)) (λ (x : Id). x.0) todo (reverse todo)
members_back = YieldsList-from_shown (YieldsLastBy (λ (x : Id). x.0) (λ (rest : List ℕ). rest)) (λ (x : Id). x.0) reverse (λ s t e. rw e.0 refl) (λ s x t e. rw e (reverse-append t (x.0 ∷ [])))

-- each of them is one of the ids, where the walk is unbroken
mem_or : (l : List ℕ) (i d : ℕ) → i < length l → Mem (get_or l i d) l
mem_or [] i d h = absurd (omega arith)
mem_or (x ∷ l) zero d h = here refl
mem_or (x ∷ l) (suc i) d h = there (mem_or l i d (omega arith))

pub back_low : (h : Head) (ws : List ℕ) (r : ℕ) → FineIn h ws r → (todo : List ℕ) → todo ≡ members_in h ws r → (k x : ℕ) → k < length (reverse todo) → x ≡ get_or (reverse todo) k x → x < h.ids
back_low h ws r f todo e k x l q = (f.all x (rw (← e) (mem_unreverse todo (rw q (mem_or (reverse todo) k x l))))).0
