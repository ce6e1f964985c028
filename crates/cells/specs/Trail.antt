-- Steps back from a cell, for any words: a step is taken where the link is a cell's.
-- Assumes nothing.
use Rattle.std.specs.Prelude.{Ok, Result, List, ◌≡◌, length}
use Rattle.broken.specs.declared.Broken.{Broken}
use Rattle.broken.specs.Words.{broken}
use Rattle.std.proofs.Math.Logic.{⊎_elim}
use Rattle.std.proofs.Common.{◌∙◌}
use Rattle.std.proofs.Math.Path.{ap, refl, sym}
use Prim.Native.Nat.{◌+◌, ◌-◌, ◌<◌, ◌≤◌, suc, zero, ℕ}
use Rattle.std.proofs.Math.Decide.{dec_lt}
use native.Mathlib.Omega.{arith}
use Rattle.lists.specs.Reads.{at}
use Rattle.lists.specs.Tests.{lt_or, when, when_no, when_yes, zero_one}
use Rattle.cells.specs.Pool.{Pool}
use Rattle.cells.specs.Stretch.{Part, part_link, part_low}

-- k steps back from c
unfoldable pub trail : List ℕ → ℕ → ℕ → ℕ → ℕ → Result ℕ Broken
trail ws n m zero c = Ok c
trail ws n m (suc k) c = when (dec_lt (at ws (n + n + n + c)) m) (trail ws n m k (at ws (n + n + n + c))) broken

module _ (ws : List ℕ) (n m : ℕ) where
  trail_on : (k c : ℕ) → at ws (n + n + n + c) < m → trail ws n m (suc k) c ≡ trail ws n m k (at ws (n + n + n + c))
  unfolding trail
  trail_on k c h = when_yes (dec_lt (at ws (n + n + n + c)) m) _ _ h

  trail_off : (k c : ℕ) → m ≤ at ws (n + n + n + c) → trail ws n m (suc k) c ≡ broken
  unfolding trail
  trail_off k c h = when_no (dec_lt (at ws (n + n + n + c)) m) _ _ (λ l. omega arith)

  -- in a run of neighbours k steps back are k places back
  pub trail_part : (L : List (List ℕ)) (xs : List ℕ) → Pool ws n m L → Part L xs
      → (k i : ℕ) → i + k < length xs → trail ws n m k (at xs (i + k)) ≡ Ok (at xs i)
  unfolding trail
  trail_part L xs p q zero i h = let e : i + 0 ≡ i = omega arith in rw e refl
  trail_part L xs p q (suc k) i h =
      let e : i + suc k ≡ suc (i + k) = omega arith in
      let l : at ws (n + n + n + at xs (suc (i + k))) ≡ at xs (i + k) = part_link ws n m L xs p q (i + k) (omega arith) in
      rw e (trail_on k (at xs (suc (i + k))) (rw l (part_low ws n m L xs p q (i + k) (omega arith)))
      ∙ ap (trail ws n m k) l
      ∙ trail_part L xs p q k i (omega arith))

  pub trail_inside : (k c x : ℕ) → c < m → trail ws n m k c ≡ Ok x → x < m
  unfolding trail
  trail_inside zero c x h e = let z : c ≡ x = cc in rw (← z) h
  trail_inside (suc k) c x h e =
      ⊎_elim
      (λ (l : at ws (n + n + n + c) < m). trail_inside k (at ws (n + n + n + c)) x l (sym (trail_on k c l) ∙ e))
      (λ (l : m ≤ at ws (n + n + n + c)). let f : broken ≡ Ok x = sym (trail_off k c l) ∙ e in
      zero_one cc)
      (lt_or (at ws (n + n + n + c)) m)

  -- a turn of the loop: j of k steps are taken, to c; t is the end of the whole trail
  module _ (t : Result ℕ Broken) (k j c : ℕ) where
    pub turn_on : t ≡ trail ws n m (k - j) c → j < k → at ws (n + n + n + c) < m → t ≡ trail ws n m (k - (j + 1)) (at ws (n + n + n + c))
    turn_on e h l = let z : k - j ≡ suc (k - (j + 1)) = omega arith in e ∙ ap (λ (i : ℕ). trail ws n m i c) z ∙ trail_on (k - (j + 1)) c l

    pub turn_off : t ≡ trail ws n m (k - j) c → j < k → m ≤ at ws (n + n + n + c) → broken ≡ t
    turn_off e h l = let z : k - j ≡ suc (k - (j + 1)) = omega arith in sym (e ∙ ap (λ (i : ℕ). trail ws n m i c) z ∙ trail_off (k - (j + 1)) c l)

    pub turn_end : t ≡ trail ws n m (k - j) c → k ≤ j → Ok c ≡ t
    unfolding trail
    turn_end e h = let z : k - j ≡ 0 = omega arith in sym (rw z at e)
