-- What a read of any words gives: the node of an id as given, and its key. Both are total, since a child count that no call wrote counts as none.
-- Assumes nothing.
use Rattle.std.specs.Prelude.{List, [], ◌≡◌, ◌+◌, ◌≤◌, ℕ, drop, take}
use Rattle.std.proofs.Math.Decide.{dec_le}
use Rattle.lists.specs.Reads.{at}
use Rattle.lists.specs.Tests.{both, when, when_no, when_yes}
use Rattle.language.specs.Term.{Term, places}

-- the child count and the places of id i are within bounds
abbrev pub Sane : List ℕ → ℕ → ℕ → ℕ → Type 0
Sane ws n m i = (at ws (n + (n + i)) ≤ places) × (at ws (n + (n + (n + i))) + at ws (n + (n + i)) ≤ m)

pub sane_test : (ws : List ℕ) (n m i : ℕ) → Dec (Sane ws n m i)
sane_test ws n m i = both (dec_le (at ws (n + (n + i))) places) (dec_le (at ws (n + (n + (n + i))) + at ws (n + (n + i))) m)

-- the operator and the payload of id i, as a node without children
unfoldable pub leaf_at : List ℕ → ℕ → ℕ → Term
leaf_at ws n i = record { op = at ws i; payload = at ws (n + i); kids = [] }

-- how many children are read
unfoldable pub read_count : List ℕ → ℕ → ℕ → ℕ → ℕ
read_count ws n m i = when (sane_test ws n m i) (at ws (n + (n + i))) 0

-- the node of id i, with the children that stand behind base
unfoldable pub read : List ℕ → ℕ → ℕ → ℕ → ℕ → Term
read ws n m i base = record { op = at ws i; payload = at ws (n + i); kids = take (read_count ws n m i) (drop (base + at ws (n + (n + (n + i)))) ws) }

abbrev pub given_read : List ℕ → ℕ → ℕ → ℕ → Term
given_read ws n m i = read ws n m i (n + n + n + n)

abbrev pub key_read : List ℕ → ℕ → ℕ → ℕ → Term
key_read ws n m i = read ws n m i (n + n + n + n + m)

pub count_sane : (ws : List ℕ) (n m i : ℕ) → Sane ws n m i → read_count ws n m i ≡ at ws (n + (n + i))
unfolding read_count
count_sane ws n m i s = when_yes (sane_test ws n m i) (at ws (n + (n + i))) 0 s

pub count_broken : (ws : List ℕ) (n m i : ℕ) → (Sane ws n m i → ⊥) → read_count ws n m i ≡ 0
unfolding read_count
count_broken ws n m i s = when_no (sane_test ws n m i) (at ws (n + (n + i))) 0 s
