-- Document 01's starred cases A to K ("Worked sequences"), and sequences that tell wrong machines apart which A to K let through: one table, one statement,
-- closed by computation. A to K have document 01's numbers; the others were asked of egg 0.11.0 itself.
-- Assumes nothing.
use Rattle.std.specs.Prelude.{List, [], ◌++◌, ◌∷◌, map, ◌≡◌, refl, ℕ}
use Rattle.language.specs.Term.{Term}
use Rattle.steps.specs.Machine.{fresh}
use Rattle.starred.specs.Calls.{Call, add, add_uncanonical, classes, classes_for_op, clean, find, find_best, find_best_cost, lookup, nodes, number_of_classes, play, rebuild, total_number_of_nodes, union}

-- ---- nodes with payload 0

abbrev leaf : ℕ → Term
leaf o = record { op = o; payload = 0; kids = [] }

abbrev of_one : ℕ → ℕ → Term
of_one o i = record { op = o; payload = 0; kids = i ∷ [] }

abbrev of_two : ℕ → ℕ → ℕ → Term
of_two o i j = record { op = o; payload = 0; kids = i ∷ j ∷ [] }

abbrev a : Term
a = leaf 1

abbrev b : Term
b = leaf 2

abbrev f : ℕ → Term
f i = of_one 3 i

abbrev g : ℕ → ℕ → Term
g i j = of_two 4 i j

-- ---- the table

-- the calls, and what they answer
abbrev Case : Type 0
Case = List Call × List ℕ

-- case A's calls, with which B to E and J begin, and what they answer
abbrev A : List Call
A = add a ∷ add b ∷ add (f 0) ∷ add (f 1) ∷ union 0 1 ∷ []

abbrev after_A : List Call → List ℕ → Case
after_A cs ws = (A ++ cs, (0 ∷ 1 ∷ 2 ∷ 3 ∷ 1 ∷ []) ++ ws)

abbrev table : List Case
table =
    -- A: union(0,1) yes, root 0
    after_A (find 0 ∷ find 1 ∷ []) (0 ∷ 0 ∷ [])
    ∷  -- B: rebuild returns 1; roots 0,0,2,2; 2 classes, 3 class nodes; the 14 words of `classes`
    after_A
    (rebuild ∷ find 0 ∷ find 1 ∷ find 2 ∷ find 3 ∷ number_of_classes ∷ total_number_of_nodes ∷ classes ∷ [])
    (1 ∷ 0 ∷ 0 ∷ 2 ∷ 2 ∷ 2 ∷ 3 ∷ (0 ∷ 2 ∷ 1 ∷ 0 ∷ 0 ∷ 2 ∷ 0 ∷ 0 ∷ 2 ∷ 1 ∷ 3 ∷ 0 ∷ 1 ∷ 0 ∷ []))
    ∷  -- C: after B, `add_uncanonical` of f(1) answers 2; `clean` stays true; no new id: the nodes are a, b, f(0), f(1)
    after_A (rebuild ∷ add_uncanonical (f 1) ∷ clean ∷ nodes ∷ []) (1 ∷ 2 ∷ 1 ∷ (1 ∷ 0 ∷ 0 ∷ 2 ∷ 0 ∷ 0 ∷ 3 ∷ 0 ∷ 1 ∷ 0 ∷ 3 ∷ 0 ∷ 1 ∷ 1 ∷ []))
    ∷  -- D: after B, size of id 3 is 2; form: a, then f of place 0
    after_A (rebuild ∷ find_best_cost 3 ∷ find_best 3 ∷ []) (1 ∷ 2 ∷ (1 ∷ 0 ∷ 0 ∷ 3 ∷ 0 ∷ 1 ∷ 0 ∷ []))
    ∷  -- E: before rebuild, ids 2 and 3 have different roots
    after_A (find 2 ∷ find 3 ∷ []) (2 ∷ 3 ∷ [])
    ∷  -- F: union(0,1): root 1. So does union(1,0)
    (add a ∷ add b ∷ add (f 1) ∷ union 0 1 ∷ find 0 ∷ find 1 ∷ [], 0 ∷ 1 ∷ 2 ∷ 1 ∷ 1 ∷ 1 ∷ [])
    ∷ (add a ∷ add b ∷ add (f 1) ∷ union 1 0 ∷ find 0 ∷ find 1 ∷ [], 0 ∷ 1 ∷ 2 ∷ 1 ∷ 1 ∷ 1 ∷ [])
    ∷  -- G: union(2,0): root 0 (two entries against one)
    (add a ∷ add (g 0 0) ∷ add b ∷ add (f 2) ∷ union 2 0 ∷ find 0 ∷ find 2 ∷ [], 0 ∷ 1 ∷ 2 ∷ 3 ∷ 1 ∷ 0 ∷ 0 ∷ [])
    ∷  -- H: rebuild returns 3; every root is 3; 2 class nodes; size 1
    (
      add a ∷ add (f 0) ∷ add (f 1) ∷ add (f 2) ∷ add (f 3) ∷ add (f 4) ∷ union 3 0 ∷ union 5 0 ∷ rebuild ∷ find 0 ∷ find 1 ∷ find 2 ∷ find 3 ∷ find 4 ∷ find 5
          ∷ total_number_of_nodes ∷ find_best_cost 5 ∷ [],
      0 ∷ 1 ∷ 2 ∷ 3 ∷ 4 ∷ 5 ∷ 1 ∷ 1 ∷ 3 ∷ 3 ∷ 3 ∷ 3 ∷ 3 ∷ 3 ∷ 3 ∷ 2 ∷ 1 ∷ [],
    )
    ∷  -- I: rebuild returns 0; id 1 stays apart from root 0
    (add a ∷ add (f 0) ∷ add (f 1) ∷ union 2 0 ∷ rebuild ∷ find 0 ∷ find 1 ∷ find 2 ∷ [], 0 ∷ 1 ∷ 2 ∷ 1 ∷ 0 ∷ 0 ∷ 1 ∷ 0 ∷ [])
    ∷  -- J: after B, union(2,3) answers no, `clean` becomes false, next rebuild returns 0
    after_A (rebuild ∷ clean ∷ union 2 3 ∷ clean ∷ rebuild ∷ clean ∷ []) (1 ∷ 1 ∷ 0 ∷ 0 ∷ 0 ∷ 1 ∷ [])
    ∷  -- K: root 1, size 2, form uses op 2
    (
      add (leaf 10) ∷ add (of_one 2 0) ∷ add (leaf 11) ∷ add (of_one 1 2) ∷ union 1 3 ∷ rebuild ∷ find 3 ∷ find_best_cost 3 ∷ find_best 3 ∷ [],
      0 ∷ 1 ∷ 2 ∷ 3 ∷ 1 ∷ 0 ∷ 1 ∷ 2 ∷ (10 ∷ 0 ∷ 0 ∷ 2 ∷ 0 ∷ 1 ∷ 0 ∷ []),
    )
    ∷  -- the loser's parents are pushed in list order (in reverse: roots 1 1 2 2)
    (add a ∷ add b ∷ add (g 0 1) ∷ add (g 1 0) ∷ union 1 0 ∷ rebuild ∷ find 0 ∷ find 1 ∷ find 2 ∷ find 3 ∷ [], 0 ∷ 1 ∷ 2 ∷ 3 ∷ 1 ∷ 1 ∷ 1 ∷ 1 ∷ 3 ∷ 3 ∷ [])
    ∷  -- the joined parent list is the stayer's, then the loser's (the other way: roots 0 0 2 0 2)
    (
      add a ∷ add (f 0) ∷ add (g 0 1) ∷ add b ∷ add (g 0 3) ∷ union 1 3 ∷ union 1 0 ∷ rebuild ∷ find 0 ∷ find 1 ∷ find 2 ∷ find 3 ∷ find 4 ∷ [],
      0 ∷ 1 ∷ 2 ∷ 3 ∷ 4 ∷ 1 ∷ 1 ∷ 1 ∷ 0 ∷ 0 ∷ 4 ∷ 0 ∷ 4 ∷ [],
    )
    ∷  -- a rebuild sets the table's entry even if the key had one (left in place: 3)
    (add a ∷ add (f 0) ∷ add b ∷ add (f 2) ∷ union 2 0 ∷ rebuild ∷ add_uncanonical (f 0) ∷ [], 0 ∷ 1 ∷ 2 ∷ 3 ∷ 1 ∷ 1 ∷ 1 ∷ [])
    ∷  -- a stored node is found by the table alone: not before the rebuild, and then under its new key; the lists of one graph
    (
      add a ∷ add b ∷ add (f 0) ∷ add (g 1 1) ∷ union 0 1 ∷ lookup (f 0) ∷ rebuild ∷ lookup (f 0) ∷ classes_for_op 3 ∷ classes_for_op 9 ∷ total_number_of_nodes ∷ nodes ∷ [],
      0 ∷ 1 ∷ 2 ∷ 3 ∷ 1 ∷ 0 ∷ 2 ∷ 2 ∷ 4 ∷ (1 ∷ 0 ∷ 0 ∷ 2 ∷ 0 ∷ 0 ∷ 3 ∷ 0 ∷ 1 ∷ 0 ∷ 4 ∷ 0 ∷ 2 ∷ 1 ∷ 1 ∷ []),
    )
    ∷  -- payload 5 is not payload 7
    (
      add (record { op = 7; payload = 5; kids = [] }) ∷ add (record { op = 7; payload = 7; kids = [] }) ∷ add (record { op = 7; payload = 5; kids = [] }) ∷ [],
      0 ∷ 1 ∷ 0 ∷ [],
    )
    ∷  -- a later pass finds a cheaper node (one pass, or passes until all are priced, or the first priced node: 3)
    (
      add a ∷ add (f 0) ∷ add (f 1) ∷ add b ∷ add (of_one 5 3) ∷ union 2 4 ∷ rebuild ∷ find_best_cost 2 ∷ find_best 2 ∷ [],
      0 ∷ 1 ∷ 2 ∷ 3 ∷ 4 ∷ 1 ∷ 0 ∷ 2 ∷ (2 ∷ 0 ∷ 0 ∷ 5 ∷ 0 ∷ 1 ∷ 0 ∷ []),
    )
    ∷  -- the leftmost child is listed first
    (add a ∷ add b ∷ add (g 1 0) ∷ rebuild ∷ find_best_cost 2 ∷ find_best 2 ∷ [], 0 ∷ 1 ∷ 2 ∷ 0 ∷ 3 ∷ (2 ∷ 0 ∷ 0 ∷ 1 ∷ 0 ∷ 0 ∷ 4 ∷ 0 ∷ 2 ∷ 0 ∷ 1 ∷ []))
    ∷  -- each class is listed once
    (
      add a ∷ add b ∷ add (g 0 1) ∷ add (g 2 0) ∷ rebuild ∷ find_best_cost 3 ∷ find_best 3 ∷ [],
      0 ∷ 1 ∷ 2 ∷ 3 ∷ 0 ∷ 5 ∷ (1 ∷ 0 ∷ 0 ∷ 2 ∷ 0 ∷ 0 ∷ 4 ∷ 0 ∷ 2 ∷ 0 ∷ 1 ∷ 4 ∷ 0 ∷ 2 ∷ 2 ∷ 0 ∷ []),
    )
    ∷ []

pub cases : map (λ (c : Case). play fresh c.0) table ≡ map (λ (c : Case). c.1) table
unfolding play
cases = refl
