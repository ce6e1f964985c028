-- Stored nodes in a slice of 4n + 2m words: operator, payload, child count and first place of each id (n words each),
-- the children as given (m words), and the children as roots when the key row was last set (m words). Places are handed out in order.
-- `Rows` says which nodes and which keys the words hold.
-- Assumes nothing.
use Rattle.std.specs.Prelude.{List, [], ◌∷◌, ◌≡◌, ◌+◌, ◌<◌, ◌≤◌, suc, zero, ℕ, length}
use Rattle.lists.specs.Reads.{at}
use Rattle.language.specs.Term.{Match, Term, places, term_at}

-- how many words there are
abbrev pub size : ℕ → ℕ → ℕ
size n m = n + n + n + n + m + m

-- how many places the first i nodes take: where the places of node i begin
abbrev pub taken : List Term → ℕ → ℕ
taken ts zero = 0
taken [] (suc i) = 0
taken (t ∷ ts) (suc i) = length t.kids + taken ts i

-- xs stands from place p on
pub record Run (ws : List ℕ) (p : ℕ) (xs : List ℕ) : Type 0 where
  pub same : (j : ℕ) → j < length xs → at ws (p + j) ≡ at xs j

-- id i has the node t and the key k, with the children from place p on
pub record Row (ws : List ℕ) (n m i p : ℕ) (t k : Term) : Type 0 where
  pub op : at ws i ≡ t.op
  pub payload : at ws (n + i) ≡ t.payload
  pub count : at ws (n + (n + i)) ≡ length t.kids
  pub first : at ws (n + (n + (n + i))) ≡ p
  pub small : length t.kids ≤ places
  pub given : Run ws (n + n + n + n + p) t.kids
  pub key : Run ws (n + n + n + n + m + p) k.kids
  pub same_head : Match k t

-- the words hold the nodes ts and their keys ks
pub record Rows (ws : List ℕ) (n m : ℕ) (ts ks : List Term) : Type 0 where
  pub words : length ws ≡ size n m
  pub ids : length ts ≤ n
  pub keys : length ks ≡ length ts
  pub room : taken ts (length ts) ≤ m
  pub row : (i : ℕ) → i < length ts → Row ws n m i (taken ts i) (term_at ts i) (term_at ks i)
