-- What the two calls of this crate begin with: the head of a clean graph that knows the id, with a scratch part that is free for the work, or the refusal.
-- The ladder of refusals in front of the work is the same for both.
-- Assumes nothing.
use Rattle.std.specs.Prelude.{Err, Ok, Result, false, true, List, ◌≡◌, ◌*◌, ◌<◌, ◌≤◌, ℕ, length, replicate}
use Rattle.std.proofs.Common.{◌∙◌, sym, arith}
use Rattle.lists.specs.Tests.{zero_one}
use Rattle.steps.specs.Graph.{Graph}
use Rattle.egraph.specs.Answers.{Else, Good, Opens as OpensHead, Unless3, Unless7, cleaned, head_of, ids_is, number_of, pass, stop, unclean}
use Rattle.egraph.specs.ClassReads.{scratch_clear}
use Rattle.egraph.specs.declared.Refusal.{Refusal}
use Rattle.egraph.specs.declared.Refusal.TheVariants.{BadHead, BadLimits, BrokenWords, NoRoom, NotRebuilt, TooFewWords, TooLong, TooManyChildren, UnknownId}
use Rattle.holds.specs.Holds.{Holds}
use Rattle.layout.specs.Cut.{scratch}
use Rattle.layout.specs.Head.{HeadIs, head_good}
use Rattle.layout.proofs.Idle.{lent_back}
use Rattle.layout.specs.Lent.{Lent, lent_twice}
use Rattle.layout.specs.View.{hd, view}
use Rattle.layout.specs.declared.Head.{Head}

-- ---- the scratch part

-- it is 0
abbrev pub ScratchClear : ℕ → ℕ → List ℕ → Type 0
ScratchClear n m ws = (view n m ws).scratch ≡ replicate (6 * n) 0

-- nothing else has changed, and it is 0
abbrev pub ScratchCleared : ℕ → ℕ → List ℕ → List ℕ → Type 0
ScratchCleared n m ws ws' = Lent scratch n m (λ s s'. s' ≡ replicate (6 * n) 0) ws ws'

-- it was 0, was lent for the work and then cleared: no word has changed
pub scratch_back : {n m : ℕ} {P : List ℕ → List ℕ → Type 0} {ws ws1 ws2 : List ℕ} → ScratchClear n m ws → Lent scratch n m P ws ws1
    → ScratchCleared n m ws1 ws2 → ws2 ≡ ws
scratch_back z A B = lent_back (lent_twice (λ a b d p u. u) A B) (B.did ∙ sym z)

-- ---- the refusals before the work

-- 3, 4 and 7, in document 01's order; with none of them what comes next
abbrev pub Ladder : List ℕ → ℕ → (ℕ → Type 0) → Type 0 → Type 0
Ladder ws i No Next =
    Unless3 ws (No 3)
    (Else ((head_of ws).ids ≤ i) (No 4) (i < (head_of ws).ids)
    (Unless7 ws (No 7) Next))

-- what the work may rely on
pub record Free (ws : List ℕ) (i : ℕ) (h : Head) : Type 0 where
  pub head_is : HeadIs (length ws) (hd ws) h
  pub known : i < h.ids
  pub clean : h.clean ≡ true
  pub clear : ScratchClear h.n h.m ws

-- why there is a refusal
abbrev pub Refused : List ℕ → ℕ → Refusal → Type 0
Refused ws i BadHead = Good ws → ⊥
Refused ws i UnknownId = (h : Head) × HeadIs (length ws) (hd ws) h × (h.ids ≤ i)
Refused ws i NotRebuilt = (h : Head) × HeadIs (length ws) (hd ws) h × (i < h.ids) × (h.clean ≡ false)
Refused ws i BrokenWords = (h : Head) × HeadIs (length ws) (hd ws) h × (i < h.ids) × (h.clean ≡ true) × ((g : Graph) → Holds ws g → ⊥)
Refused ws i BadLimits = ⊥
Refused ws i TooFewWords = ⊥
Refused ws i TooManyChildren = ⊥
Refused ws i NoRoom = ⊥
Refused ws i TooLong = ⊥

pub record Opens (ws : List ℕ) (i : ℕ) (r : Result Head Refusal) : Type 0 where
  pub good : (h : Head) → r ≡ Ok h → Free ws i h
  pub bad : (q : Refusal) → r ≡ Err q → Refused ws i q

module _ (ws : List ℕ) (i : ℕ) (No : ℕ → Type 0) (Next : Refusal → Type 0) where
  -- a refusal by q, where words that hold no graph have no more to say
  pub refused : (q : Refusal) → Refused ws i q → No (number_of q) → (((g : Graph) → Holds ws g → ⊥) → Next BrokenWords) → Ladder ws i No (Next q)
  refused BadHead b n x = stop b (λ u v. u v) n
  refused UnknownId (h, p, l) n x = pass (head_good p) (λ u v. u v) (stop (omega (arith, ids_is p)) (λ u v. omega arith) n)
  refused NotRebuilt (h, p, l, c) n x =
      pass (head_good p) (λ u v. u v) (pass (omega (arith, ids_is p)) (λ u v. omega arith) (unclean ws h p c n))
  refused BrokenWords (h, p, l, c, b) n x =
      pass (head_good p) (λ u v. u v) (pass (omega (arith, ids_is p)) (λ u v. omega arith) (cleaned ws h p c (x b)))
  refused BadLimits b n x = absurd b
  refused TooFewWords b n x = absurd b
  refused TooManyChildren b n x = absurd b
  refused NoRoom b n x = absurd b
  refused TooLong b n x = absurd b

pub let_through : (No : ℕ → Type 0) {Next : Type 0} (ws : List ℕ) (i : ℕ) (h : Head) → Free ws i h → Next → Ladder ws i No Next
let_through No ws i h F x =
    let p = F.head_is in
    pass (head_good p) (λ u v. u v) (pass (omega (arith, ids_is p, F.known)) (λ u v. omega arith) (cleaned ws h p F.clean x))

-- ---- how the tests come out

module _ (ws : List ℕ) (i : ℕ) where
  opens_not : (q : Refusal) → Refused ws i q → Opens ws i (Err q)
  opens_not q R = record { good = λ h e. zero_one cc; bad = λ p e. let z : q ≡ p = cc in rw (← z) R }

  module _ (r : Result Head Refusal) (O : OpensHead ws r) where
    pub open_bad : (q : Refusal) → r ≡ Err q → Opens ws i (Err BadHead)
    open_bad q e = opens_not BadHead (O.bad q e).1

    module _ (h : Head) (e : r ≡ Ok h) where
      pub open_unknown : h.ids ≤ i → Opens ws i (Err UnknownId)
      open_unknown l = opens_not UnknownId (h, O.good h e, l)

      module _ (l : i < h.ids) where
        pub open_unclean : h.clean ≡ false → Opens ws i (Err NotRebuilt)
        open_unclean c = opens_not NotRebuilt (h, O.good h e, l, c)

        module _ (c : h.clean ≡ true) where
          pub open_taken : (ScratchClear h.n h.m ws → ⊥) → Opens ws i (Err BrokenWords)
          open_taken b = opens_not BrokenWords (h, O.good h e, l, c, λ g H. b (scratch_clear ws h g (O.good h e) H))

          pub open_free : ScratchClear h.n h.m ws → Opens ws i (Ok h)
          open_free z = record {
            good = λ k q. let s : h ≡ k = cc in rw (← s) (record { head_is = O.good h e; known = l; clean = c; clear = z });
            bad = λ q p. zero_one cc;
          }
