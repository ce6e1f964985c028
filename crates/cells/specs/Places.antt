-- Lists over places below u hold no more places in all than there are: each place stands in one list at most.
-- Assumes nothing.
use Rattle.std.specs.Prelude.{List, [], ◌++◌, ◌∷◌, ◌⊎◌, ◌≡◌, ◌+◌, ◌-◌, ◌<◌, ◌≤◌, suc, zero, ℕ, length}
use Rattle.std.proofs.Common.{inl, inr, ◌∙◌, ap, sym, arith, length-append}
use Rattle.lists.specs.Reads.{at, at_left, at_right}
use Rattle.lists.specs.Sums.{sum_of}
use Rattle.lists.specs.Tests.{lt_or}
use Rattle.cells.specs.Pigeon.{pigeon}
use Rattle.cells.specs.Pool.{Apart, Under, row}

-- all the lists, one after the other
flat : List (List ℕ) → List ℕ
flat [] = []
flat (x ∷ L) = x ++ flat L

-- where list a begins
first : List (List ℕ) → ℕ → ℕ
first L zero = 0
first [] (suc a) = 0
first (x ∷ L) (suc a) = length x + first L a

flat_length : (L : List (List ℕ)) → length (flat L) ≡ sum_of length L
unfolding sum_of flat
flat_length [] = omega arith
flat_length (x ∷ L) = omega (arith, length-append x (flat L), flat_length L)

-- what stands at place j of them all: place q of list a
record From (L : List (List ℕ)) (j : ℕ) : Type 0 where
  a : ℕ
  q : ℕ
  inside : q < length (row L a)
  same : at (row L a) q ≡ at (flat L) j
  is : j ≡ first L a + q

from : (L : List (List ℕ)) (j : ℕ) → j < length (flat L) → From L j
unfolding flat first
from [] j h = absurd (omega arith)
from (x ∷ L) j h = go (lt_or j (length x)) (from L (j - length x))
  where
    go : (j < length x) ⊎ (length x ≤ j) → (j - length x < length (flat L) → From L (j - length x)) → From (x ∷ L) j
    go (inl b) ih = record { a = 0; q = j; inside = b; same = sym (at_left x (flat L) j b); is = omega arith }
    go (inr b) ih =
        let r = ih (omega (arith, length-append x (flat L))) in
        record {
          a = suc r.a;
          q = r.q;
          inside = r.inside;
          same = r.same ∙ sym (at_right x (flat L) j (j - length x) (omega arith));
          is = omega (arith, r.is);
        }

-- each place stands in one list at most
pub all_places : (L : List (List ℕ)) (u : ℕ) → Apart L → Under L u → sum_of length L ≤ u
all_places L u A U = omega (arith, flat_length L, pigeon u (length (flat L)) (at (flat L)) low once)
  where
    low : (i : ℕ) → i < length (flat L) → at (flat L) i < u
    low i h = let r = from L i h in rw (← r.same) (U.all r.a r.q r.inside)

    once : (i j : ℕ) → i < length (flat L) → j < length (flat L) → at (flat L) i ≡ at (flat L) j → i ≡ j
    once i j h k e =
        let r = from L i h in
        let s = from L j k in
        let o = A.once r.a r.q s.a s.q r.inside s.inside (r.same ∙ e ∙ sym s.same) in
        let f : first L r.a ≡ first L s.a = ap (first L) o.0 in
        omega (arith, r.is, s.is, o.1)
