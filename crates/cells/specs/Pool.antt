-- Which lists a slice of words holds. n lists over m cells take 3n + m words: at a the last cell of list a, at a + n its first,
-- at a + n + n its length, and at n + n + n + c the cell before c. The lists are the model, and each change of the words has its change of them.
-- Assumes nothing.
use Rattle.std.specs.Prelude.{List, [], ◌++◌, ◌∷◌, ◌≢◌, ◌≡◌, ◌+◌, ◌<◌, suc, ℕ, drop, get_or, length, set, take}
use Rattle.lists.specs.Reads.{at}

abbrev pub row : List (List ℕ) → ℕ → List ℕ
row L a = get_or L a []

-- List a holds exactly the cells xs, first to last. The link of its first cell is not spoken of.
pub record Row (ws : List ℕ) (n m a : ℕ) (xs : List ℕ) : Type 0 where
  pub size : at ws (a + n + n) ≡ length xs
  pub final : (i : ℕ) → suc i ≡ length xs → at ws a ≡ at xs i
  pub start : 0 < length xs → at ws (a + n) ≡ at xs 0
  pub link : (i : ℕ) → suc i < length xs → at ws (n + n + n + at xs (suc i)) ≡ at xs i
  pub low : (i : ℕ) → i < length xs → at xs i < m

-- A cell stands at one place of one list at most.
pub record Apart (L : List (List ℕ)) : Type 0 where
  pub once : (a i c j : ℕ) → i < length (row L a) → j < length (row L c) → at (row L a) i ≡ at (row L c) j → (a ≡ c) × (i ≡ j)

-- The words hold the lists L.
pub record Pool (ws : List ℕ) (n m : ℕ) (L : List (List ℕ)) : Type 0 where
  pub count : length L ≡ n
  pub rows : (a : ℕ) → a < n → Row ws n m a (row L a)
  pub apart : Apart L

-- The cell c is in no list.
pub record Free (L : List (List ℕ)) (c : ℕ) : Type 0 where
  pub none : (a i : ℕ) → i < length (row L a) → at (row L a) i ≢ c

-- Every cell in a list is below u: so it is where cells are handed out in order.
pub record Under (L : List (List ℕ)) (u : ℕ) : Type 0 where
  pub all : (a i : ℕ) → i < length (row L a) → at (row L a) i < u

-- ---- the changes, on lists

-- cell c is appended to list a
unfoldable pub push_l : List (List ℕ) → ℕ → ℕ → List (List ℕ)
push_l L a c = set L a (row L a ++ (c ∷ []))

-- list c is appended to list a, and is empty then
unfoldable pub join_l : List (List ℕ) → ℕ → ℕ → List (List ℕ)
join_l L a c = set (set L a (row L a ++ row L c)) c []

-- a list without what stands at place q
abbrev pub cut : ℕ → List ℕ → List ℕ
cut q xs = take q xs ++ drop (suc q) xs

-- the cell at place q of list a goes
unfoldable pub remove_l : List (List ℕ) → ℕ → ℕ → List (List ℕ)
remove_l L a q = set L a (cut q (row L a))

-- list a is given up whole
unfoldable pub empty_l : List (List ℕ) → ℕ → List (List ℕ)
empty_l L a = set L a []
