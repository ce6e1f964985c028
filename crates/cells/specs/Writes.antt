-- What the changes store, as pairs of an index and a word, in the order in which the code stores them. They say it for any words.
-- Assumes nothing.
use Rattle.std.specs.Prelude.{List, [], ◌∷◌, ◌≡◌, refl, ◌+◌, ◌-◌, ◌<◌, suc, zero, ℕ}
use Rattle.std.proofs.Common.{not-suc-le-zero}
use Rattle.lists.specs.Reads.{at}

-- the first of two words where a count is 0, else the second
abbrev pub pick : ℕ → ℕ → ℕ → ℕ
pick zero x y = x
pick (suc k) x y = y

pub pick_none : (k x y : ℕ) → k ≡ 0 → pick k x y ≡ x
pick_none k x y e = rw e refl

pub pick_some : (k x y : ℕ) → 0 < k → pick k x y ≡ y
pick_some zero x y h = absurd (not-suc-le-zero h)
pick_some (suc k) x y h = refl

-- a push of cell c on list a
abbrev pub push_p : List ℕ → ℕ → ℕ → ℕ → List (ℕ × ℕ)
push_p ws n a c =
    (n + n + n + c, at ws a)
    ∷ (a + n, pick (at ws (a + n + n)) c (at ws (a + n)))
    ∷ (a, c)
    ∷ (a + n + n, at ws (a + n + n) + 1)
    ∷ []

-- a join of list c, which has cells, on list a
abbrev pub join_p : List ℕ → ℕ → ℕ → ℕ → List (ℕ × ℕ)
join_p ws n a c =
    (n + n + n + at ws (c + n), at ws a)
    ∷ (a + n, pick (at ws (a + n + n)) (at ws (c + n)) (at ws (a + n)))
    ∷ (a, at ws c)
    ∷ (a + n + n, at ws (a + n + n) + at ws (c + n + n))
    ∷ (c + n + n, 0)
    ∷ []

-- a removal of cell c, at place q of list a: the word at spot names it, and after is the cell behind it
abbrev pub remove_p : List ℕ → ℕ → ℕ → ℕ → ℕ → ℕ → ℕ → List (ℕ × ℕ)
remove_p ws n a c q spot after =
    (spot, at ws (n + n + n + c))
    ∷ (a + n, pick q after (at ws (a + n)))
    ∷ (a + n + n, at ws (a + n + n) - 1)
    ∷ []
