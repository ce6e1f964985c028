-- The ids that are left of a list put back from the work area: one pushed, and the first d of them in order.
-- Assumes nothing.
use Rattle.std.specs.Prelude.{Ok, Result, List, [], ◌++◌, ◌≡◌, refl, ◌+◌, ◌<◌, ◌≤◌, ℕ, length, set, take}
use Rattle.broken.specs.declared.Broken.{Broken}
use Rattle.std.proofs.Common.{append_assoc, append-nil, ap, subst, add-one, arith, length-set, get_or-set_same, set-set, take-suc}
use Rattle.std.proofs.lemmas.List.{set-get_or}
use Rattle.layout.specs.Idle.{lent_same}
use Rattle.lists.specs.Reads.{at}
use Rattle.cells.specs.Free.{free_push}
use Rattle.cells.specs.Pool.{Free, Pool, push_l, row}
use Rattle.layout.specs.Cut.{members, need, sorting}
use Rattle.layout.specs.Lent.{Lent, lent_twice}
use Rattle.layout.specs.View.{View, view}
use Rattle.layout.proofs.Sizes.{get_length}

-- list a with the first i words of s at its end
unfoldable pub fill : List (List ℕ) → ℕ → List ℕ → ℕ → List (List ℕ)
fill L a s i = set L a (row L a ++ take i s)

-- what `put_back` promises of the member lists, where s is the work area
pub record PutsBack (s : List ℕ) (n a i : ℕ) (r : Result Unit Broken) (w w' : List ℕ) : Type 0 where
  pub law : (L : List (List ℕ)) → Pool w n n L → at s i < n → Free L (at s i) → (r ≡ Ok tt) × Pool w' n n (push_l L a (at s i))

-- the first d words of s are cells of no list, each once
pub record Fresh (L : List (List ℕ)) (n : ℕ) (s : List ℕ) (d : ℕ) : Type 0 where
  pub low : (i : ℕ) → i < d → at s i < n
  pub free : (i : ℕ) → i < d → Free L (at s i)
  pub once : (i j : ℕ) → i < d → j < d → at s i ≡ at s j → i ≡ j

-- what `refill` promises of the member lists
pub record Refills (s : List ℕ) (n a d : ℕ) (r : Result Unit Broken) (w w' : List ℕ) : Type 0 where
  pub law : (L : List (List ℕ)) → Pool w n n L → Fresh L n s d → (r ≡ Ok tt) × Pool w' n n (fill L a s d)

-- on its way: i of them are put back
pub record Refilling (s : List ℕ) (n a d i : ℕ) (w w' : List ℕ) : Type 0 where
  pub pool : (L : List (List ℕ)) → Pool w n n L → Fresh L n s d → Pool w' n n (fill L a s i)
  pub free : (L : List (List ℕ)) → Pool w n n L → Fresh L n s d → (j : ℕ) → i ≤ j → j < d → Free (fill L a s i) (at s j)

abbrev pub RefilledTo : ℕ → ℕ → ℕ → ℕ → ℕ → List ℕ → List ℕ → Type 0
RefilledTo n m a d i ws ws' = Lent members n m (Refilling (view n m ws).sorting n a d i) ws ws'

-- ---- over plain lists

fill_none : (L : List (List ℕ)) (a : ℕ) (s : List ℕ) → fill L a s 0 ≡ L
unfolding fill
fill_none L a s = rw (append-nil (row L a)) (set-get_or L a [])

fill_more : (L : List (List ℕ)) (a : ℕ) (s : List ℕ) (i : ℕ) → a < length L → i < length s → push_l (fill L a s i) a (at s i) ≡ fill L a s (i + 1)
unfolding fill push_l
fill_more L a s i ha hi =
    rw (get_or-set_same L a (row L a ++ take i s) [] ha, set-set L a (row L a ++ take i s), append_assoc, add-one i, take-suc s i 0 hi) refl

fill_length : (L : List (List ℕ)) (a : ℕ) (s : List ℕ) (i : ℕ) → length (fill L a s i) ≡ length L
unfolding fill
fill_length L a s i = length-set L a (row L a ++ take i s)

module _ (s : List ℕ) (n a d : ℕ) (ha : a < n) (fits : d ≤ length s) where
  refilling_start : (w : List ℕ) → Refilling s n a d 0 w w
  refilling_start w = record { pool = λ L p F. rw (fill_none L a s) p; free = λ L p F j h l. rw (fill_none L a s) (F.free j l) }

  module _ (i : ℕ) (hi : i < d) (w w1 : List ℕ) (R : Refilling s n a d i w w1) where
    refilling_step : (r : Result Unit Broken) (w2 : List ℕ) → PutsBack s n a i r w1 w2 → (L : List (List ℕ)) → Pool w n n L → Fresh L n s d
        → (r ≡ Ok tt) × Pool w2 n n (fill L a s (i + 1))
    refilling_step r w2 P L p F =
        let k = P.law (fill L a s i) (R.pool L p F) (F.low i hi) (R.free L p F i (omega arith) hi) in
        (k.0, rw (← fill_more L a s i (omega (arith, p.count)) (omega arith)) k.1)

    refilling_more : (r : Result Unit Broken) (w2 : List ℕ) → PutsBack s n a i r w1 w2 → Refilling s n a d (i + 1) w w2
    refilling_more r w2 P = record {
      pool = λ L p F. (refilling_step r w2 P L p F).1;
      free = λ L p F j h l.
          rw (← fill_more L a s i (omega (arith, p.count)) (omega arith))
          (free_push (fill L a s i) a (at s i) (at s j) (omega (arith, p.count, fill_length L a s i)) (R.free L p F j (omega arith) l)
          (λ e. omega (arith, F.once j i l hi e)));
    }

-- ---- over the words

module _ (n m : ℕ) (a d : ℕ) (ws : List ℕ) (ok : need n m ≤ length ws) (ha : a < n) (few : d ≤ n) where
  in_area : d ≤ length (view n m ws).sorting
  in_area = omega (arith, get_length sorting n m ws ok)

  pub refill_start : RefilledTo n m a d 0 ws ws
  refill_start = lent_same ws (refilling_start _ n a d ha in_area _)

  module _ (i : ℕ) (r : Result Unit Broken) (ws1 ws2 : List ℕ) (R : RefilledTo n m a d i ws ws1) (hi : i < d)
      (P : Lent members n m (PutsBack (view n m ws1).sorting n a i r) ws1 ws2) where
    -- the work area stays as it is
    put_there : Lent members n m (PutsBack (view n m ws).sorting n a i r) ws1 ws2
    put_there = subst (λ (s : List ℕ). Lent members n m (PutsBack s n a i r) ws1 ws2) (ap (λ (v : View). v.sorting) R.else) P

    pub refill_more : RefilledTo n m a d (i + 1) ws ws2
    refill_more = lent_twice (λ w w1 w2 x y. refilling_more _ n a d ha in_area i hi w w1 x r w2 y) R put_there
