-- What `count_nodes` and `check` promise, on any words: how many members the lists have in all, as far as that is no more than there are ids; and whether any walk over the
-- lists meets only ids, whose rows are within bounds (`Unbroken`). On words that hold a clean graph neither refuses.
-- Assumes nothing.
use Rattle.std.specs.Prelude.{Err, Ok, Result, is_ok, refl, [], ◌++◌, ◌∷◌, Bool, false, true, List, ◌⊎◌, ◌≡◌, ◌+◌, ◌-◌, ◌<◌, ◌≤◌, ℕ}
use Rattle.broken.specs.declared.Broken.{Broken}
use Rattle.broken.specs.Words.{broken}
use Rattle.std.proofs.Common.{inl, inr, arith}
use Rattle.std.proofs.Math.Decide.{ℕ_discrete}
use Rattle.lists.specs.Members.{Mem, mem-cases}
use Rattle.lists.specs.Tests.{Says, says_no, says_yes, zero_one}
use Rattle.steps.specs.Graph.{Graph}
use Rattle.holds.specs.Holds.{HoldsAt}
use Rattle.layout.specs.View.{View, view}
use Rattle.layout.specs.declared.Head.{Head}
use Rattle.language.specs.declared.fit.Fit.{Fit}
use Rattle.rows.specs.Promise.{Key}
use Rattle.rows.specs.Read.{Sane}
use Rattle.eclass.specs.ClassCount.{total_le, total_more, total_of}
use Rattle.eclass.specs.ClassHeld.{members_fine, total_few}
use Rattle.eclass.specs.ClassWalk.{Fine, Walk, class_ids, len_of, walk_end, walk_more, walk_next}

-- ---- how many

pub record Totals (ms : List ℕ) (n N : ℕ) (r : Result ℕ Broken) : Type 0 where
  pub exact : (t : ℕ) → r ≡ Ok t → t ≡ total_of ms n N
  pub few : (t : ℕ) → r ≡ Ok t → t ≤ N
  pub broken : r ≡ broken → N < total_of ms n N

module _ (ms : List ℕ) (n N : ℕ) where
  pub total_stop : (i t k : ℕ) → i < N → t ≡ total_of ms n i → k ≡ len_of ms n i → t ≤ N → N - t < k → Totals ms n N broken
  total_stop i t k h e f l q = record {
    exact = λ s (p : broken ≡ Ok s). zero_one cc;
    few = λ s (p : broken ≡ Ok s). zero_one cc;
    broken = λ _. omega (arith, total_more ms n i, total_le ms n N (i + 1) (omega arith));
  }

-- ---- whether the walks are unbroken

-- an id that a walk may meet
pub record FineId (rs : List ℕ) (n m N x : ℕ) : Type 0 where
  pub low : x < N
  pub sane : Sane rs n m x

pub record Unbroken (ms rs : List ℕ) (n m N : ℕ) : Type 0 where
  pub few : total_of ms n N ≤ N
  pub fine : (r : ℕ) → r < N → Fine ms rs n m N r

-- an id that is met in a class that is fine
pub fine_at : {ms rs : List ℕ} {n m N r x : ℕ} → Fine ms rs n m N r → Mem x (class_ids ms n r) → FineId rs n m N x
fine_at {x = x} f k = let p = f.all x k in record { low = p.0; sane = p.1 }

-- the same of words with the head h
abbrev pub FineIn : Head → List ℕ → ℕ → Type 0
FineIn h ws r = Fine (view h.n h.m ws).members (view h.n h.m ws).rows h.n h.m h.ids r

abbrev pub UnbrokenIn : Head → List ℕ → Type 0
UnbrokenIn h ws = Unbroken (view h.n h.m ws).members (view h.n h.m ws).rows h.n h.m h.ids

pub unbroken : {h : Head} {u : ℕ} {v : View} {g : Graph} → HoldsAt h u v g → g.clean ≡ true → Unbroken v.members v.rows h.n h.m h.ids
unbroken {h} H c = record { few = total_few H c; fine = λ r l. members_fine H r (omega (arith, H.range.ids_in)) }

-- one id
module _ (rs : List ℕ) (n m N x : ℕ) where
  pub id_read : (f : Result Fit Broken) → x < N → Key rs n m x f → Says (is_ok f) (FineId rs n m N x)
  id_read (Ok y) l k = says_yes (record { low = l; sane = (k.found y refl).0 })
  id_read (Err _) l k = says_no (λ s. k.broken refl s.sane)

-- one class: those that were passed are fine
pub record AllFine (rs : List ℕ) (n m N : ℕ) (d : List ℕ) : Type 0 where
  pub each : (x : ℕ) → Mem x d → FineId rs n m N x

module _ (ms rs : List ℕ) (n m N r : ℕ) where
  module _ (todo rest : List ℕ) (cur : ℕ) (step : todo ≡ rest ++ (cur ∷ [])) (b : Bool) (s : Says b (FineId rs n m N cur)) (w : Walk ms n r todo (AllFine rs n m N)) where
    pub check_more : b ≡ true → Walk ms n r rest (AllFine rs n m N)
    check_more t = walk_more ms n r todo rest cur step (AllFine rs n m N) (AllFine rs n m N) (λ d f. record { each = λ x k. go d f x (mem-cases k) }) w
      where
        go : (d : List ℕ) → AllFine rs n m N d → (x : ℕ) → (x ≡ cur) ⊎ Mem x d → FineId rs n m N x
        go d f x (inl q) = rw q (s.holds t)
        go d f x (inr k) = f.each x k

    pub check_stop : b ≡ false → Says false (Fine ms rs n m N r)
    check_stop t = says_no (λ f. s.fails t (fine_at f (walk_next ms n r todo rest cur step (AllFine rs n m N) w)))

  pub check_end : (todo : List ℕ) → todo ≡ [] → Walk ms n r todo (AllFine rs n m N) → Says true (Fine ms rs n m N r)
  check_end todo e w = let f = walk_end ms n r (AllFine rs n m N) todo e w in says_yes (record { all = λ x k. ((f.each x k).low, (f.each x k).sane) })

-- all classes
module _ (ms rs : List ℕ) (n m N : ℕ) where
  pub all_more : (i : ℕ) (b : Bool) → ((r : ℕ) → r < i → Fine ms rs n m N r) → Says b (Fine ms rs n m N i) → b ≡ true → (r : ℕ) → r < i + 1 → Fine ms rs n m N r
  all_more i b f s t r h = go (ℕ_discrete r i)
    where
      go : Dec (r ≡ i) → Fine ms rs n m N r
      go (yes e) = rw e (s.holds t)
      go (no e) = f r (omega arith)
