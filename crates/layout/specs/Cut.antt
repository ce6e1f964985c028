-- How the words are cut, for the limits n (ids) and m (child places): a head of 32 words, then nine parts, each beginning where the one before it ends.
-- `lower` and `upper` say where a part begins and ends, and `Spans` that a range of words is the one from there to there; `need` is the end of the last.
-- Assumes nothing.
use Rattle.std.specs.Prelude.{◌≡◌, ◌*◌, ◌+◌, ◌≤◌, ℕ}
use Rattle.std.proofs.Common.{arith}
use Rattle.std.specs.declared.ops.Range.{Range}

pub data Part : Type 0 where
  -- the links of union-find
  forest : Part
  -- the stored nodes
  rows : Part
  -- work area of the sort, with no meaning between calls
  sorting : Part
  -- parent lists, whose cells are child places
  uses : Part
  -- the id that owns each child place
  owners : Part
  -- class nodes, whose cells are ids
  members : Part
  -- buckets of the node table, whose cells are ids
  table : Part
  -- entries of two words
  pending : Part
  -- all 0 between calls
  scratch : Part

-- the words that the limits n and m need
abbrev pub need : ℕ → ℕ → ℕ
need n m = 32 + 28 * n + 4 * m

-- where a part begins
abbrev pub lower : Part → ℕ → ℕ → ℕ
lower forest n m = 32
lower rows n m = 32 + n
lower sorting n m = 32 + 5 * n + 2 * m
lower uses n m = 32 + 7 * n + 2 * m
lower owners n m = 32 + 10 * n + 3 * m
lower members n m = 32 + 10 * n + 4 * m
lower table n m = 32 + 14 * n + 4 * m
lower pending n m = 32 + 18 * n + 4 * m
lower scratch n m = 32 + 22 * n + 4 * m

-- where a part ends
abbrev pub upper : Part → ℕ → ℕ → ℕ
upper forest n m = 32 + n
upper rows n m = 32 + n + 4 * n + 2 * m
upper sorting n m = 32 + 5 * n + 2 * m + 2 * n
upper uses n m = 32 + 7 * n + 2 * m + 3 * n + m
upper owners n m = 32 + 10 * n + 3 * m + m
upper members n m = 32 + 10 * n + 4 * m + 4 * n
upper table n m = 32 + 14 * n + 4 * m + 4 * n
upper pending n m = 32 + 18 * n + 4 * m + 4 * n
upper scratch n m = 32 + 22 * n + 4 * m + 6 * n

-- r is the range of words where a part lies
pub record Spans (k : Part) (n m : ℕ) (r : Range ℕ) : Type 0 where
  pub from : r.start ≡ lower k n m
  pub to : r.end ≡ upper k n m

-- how many words a part has
abbrev pub size : Part → ℕ → ℕ → ℕ
size forest n m = n
size rows n m = 4 * n + 2 * m
size sorting n m = 2 * n
size uses n m = 3 * n + m
size owners n m = m
size members n m = 4 * n
size table n m = 4 * n
size pending n m = 4 * n
size scratch n m = 6 * n

pub need_few : (n m : ℕ) → need n m ≤ 30 * n + 6 * m + 64
need_few n m = omega arith

pub need_ceiling : (n m : ℕ) → need n m ≤ 40 * n + 12 * m + 64
need_ceiling n m = omega arith

-- the end of a part is its beginning and its size
pub upper_is : (k : Part) (n m : ℕ) → upper k n m ≡ lower k n m + size k n m
upper_is forest n m = omega arith
upper_is rows n m = omega arith
upper_is sorting n m = omega arith
upper_is uses n m = omega arith
upper_is owners n m = omega arith
upper_is members n m = omega arith
upper_is table n m = omega arith
upper_is pending n m = omega arith
upper_is scratch n m = omega arith

pub upper_need : (k : Part) (n m : ℕ) → upper k n m ≤ need n m
upper_need forest n m = omega arith
upper_need rows n m = omega arith
upper_need sorting n m = omega arith
upper_need uses n m = omega arith
upper_need owners n m = omega arith
upper_need members n m = omega arith
upper_need table n m = omega arith
upper_need pending n m = omega arith
upper_need scratch n m = omega arith
