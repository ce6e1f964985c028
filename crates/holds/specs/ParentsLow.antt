-- Where every place in use has an owner below N, and so has every entry of one id on the stack, all parents and all of pending are below N.
-- Assumes nothing.
use Rattle.std.specs.Prelude.{List, map, reverse, ◌⊎◌, ◌≡◌, ◌+◌, ◌<◌, suc, ℕ, length}
use Rattle.std.proofs.Common.{inl, inr, arith}
use Rattle.lists.specs.Members.{Mem, mem-append-cases, mem-cases, mem-nil, mem-of-map, mem_unreverse, all_members}
use Rattle.lists.specs.Reads.{at}
use Rattle.steps.specs.Graph.{uses}
use Rattle.cells.specs.Pool.{row}
use Rattle.cells.specs.Stretch.{part_under}
use Rattle.holds.specs.Parents.{Parents}
use Rattle.pending.specs.Stack.{Entries, Stack}
use Rattle.pending.specs.Stands.{Stands, many, none, one}

owners_low : (N u : ℕ) (own places : List ℕ) → ((p : ℕ) → p < u → at own p < N) → ((i : ℕ) → i < length places → at places i < u)
    → (x : ℕ) → Mem x (map (at own) places) → x < N
owners_low N u own places low under x m =
    let y = mem-of-map (at own) places m in
    rw (← y.2) (low y.0 (all_members (λ p. p < u) places under y.0 y.1))

-- what holds of each id that is an entry of its own, and of each id of a stretch, holds of all
stands_all : {S : ℕ → ℕ → List ℕ → Type 0} (Q : ℕ → Type 0) (st : List ℕ) → ((c k : ℕ) (xs : List ℕ) → S c k xs → (x : ℕ) → Mem x xs → Q x)
    → {es : Entries} {is : List ℕ} → Stands S es is → Stack st es → ((j : ℕ) → j < length es → at st (j + j + 1) ≡ 0 → Q (at st (j + j))) → (x : ℕ) → Mem x is → Q x
stands_all Q st f none s h x m = absurd (mem-nil m)
stands_all Q st f (one {i = i} {es = es} {is = is} t) s h x m = go (mem-cases m) (λ l. stands_all Q st f t s.2 (λ j l. h j (omega arith)) x l)
  where
    go : (x ≡ i) ⊎ Mem x is → (Mem x is → Q x) → Q x
    go (inl e) ih = rw (e, ← s.0) (h (length es) (omega arith) s.1)
    go (inr k) ih = ih k
stands_all Q st f (many {c = c} {k = k} {xs = xs} {es = es} {is = is} o t) s h x m = go (mem-append-cases (reverse xs) m) (λ l. stands_all Q st f t s.2 (λ j l. h j (omega arith)) x l)
  where
    go : Mem x (reverse xs) ⊎ Mem x is → (Mem x is → Q x) → Q x
    go (inl l) ih = f c (suc k) xs o x (mem_unreverse xs l)
    go (inr l) ih = ih l

module _ (n m N u d : ℕ) (us own st : List ℕ) (ps : List (List ℕ)) (pend : List ℕ) (P : Parents n m N u d us own st ps pend) (low : (p : ℕ) → p < u → at own p < N) where
  pub parents_low : (a x : ℕ) → a < N → Mem x (uses ps a) → x < N
  parents_low a x h k = owners_low N u own (row P.lists a) low (P.under.all a) x (rw (P.are a h) at k)

  pub pending_low : ((j : ℕ) → j < d → at st (j + j + 1) ≡ 0 → at st (j + j) < N) → (x : ℕ) → Mem x pend → x < N
  pending_low ones x k =
      stands_all (λ z. z < N) st
      (λ _ _ xs o y h. owners_low N u own o.places low (part_under P.lists u o.places P.under o.stretch.part) y (rw o.are at h))
      P.pending.stands P.pending.stack (λ j l. ones j (omega (arith, P.pending.size))) x k
