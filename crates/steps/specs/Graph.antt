-- What a graph holds, as document 01 has it ("What a graph may hold" and "The steps"), and how it is read. Ids count up from 0: an id is a place in `nodes`.
-- The limits n and m are no part of it: no step reads them, they only say which adds are refused.
-- Assumes nothing.
use Rattle.std.specs.Prelude.{Bool, List, [], ◌∷◌, ℕ, length, get_or, Option, None, Some}
use Rattle.lists.specs.Tests.{when}
use Rattle.language.specs.Term.{Term, over_kids, same_term, term_at}

pub record Graph : Type 0 where
  pub nodes : List Term  -- each id's node, as it was given
  pub roots : List ℕ  -- each id's root
  pub parents : List (List ℕ)  -- each root's parent list; [] at an id that is no root
  pub memo : List (Term × ℕ)  -- the table, newest entry first: the first entry of a key counts
  pub pending : List ℕ  -- the last pushed stands first
  pub clean : Bool

-- the number of ids
abbrev pub ids : Graph → ℕ
ids g = length g.nodes

-- the root of id i, which is what `find` answers; a number that is no id is its own root
unfoldable pub root : List ℕ → ℕ → ℕ
root rs i = get_or rs i i

-- the node of id i, as it was given: `id_to_node`
unfoldable pub node : List Term → ℕ → Term
node ns i = term_at ns i

-- the parent list of root r
unfoldable pub uses : List (List ℕ) → ℕ → List ℕ
uses ps r = get_or ps r []

-- a node with each child replaced by its root
abbrev pub canon : List ℕ → Term → Term
canon rs x = over_kids (root rs) x

-- the key of id i: its stored node with root children
abbrev pub key_of : Graph → ℕ → Term
key_of g i = canon g.roots (node g.nodes i)

-- the id that the table keeps for key k
unfoldable pub kept : Term → List (Term × ℕ) → Option ℕ
kept k [] = None
kept k (e ∷ m) = when (same_term k e.0) (Some e.1) (kept k m)
