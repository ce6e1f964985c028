-- Runs of calls. `Reached n m cs ws`: after a setup with the limits n and m was accepted, some run of the open calls can have left the words ws, and cs are the calls of
-- that run which were accepted and may have changed the graph, the last one first. It speaks of the promises of the calls alone: each constructor is one call, on any
-- arguments and with any answer that its promise allows, refusals included. The other calls take the words by `&`, so they leave them as they are.
-- What the demands speak of is read off the accepted calls: the nodes that have an id, the unions asked for, whether a rebuild has ended and no node or union has come
-- since; and `Leads cs g`, that the definitions' own steps for cs lead from the fresh graph to g.
-- Assumes nothing.
use Rattle.language.specs.declared.Id.{Id}
use Rattle.extract.specs.declared.Form.{Form}
use Rattle.std.specs.Prelude.{Err, Ok, Result, Bool, false, true, List, [], ◌++◌, ◌∷◌, ◌≡◌, ◌+◌, ℕ, length}
use Rattle.std.proofs.Math.Decide.{ℕ_discrete}
use Rattle.lists.specs.Tests.{when}
use Rattle.language.specs.Struct.{node_of}
use Rattle.language.specs.Term.{Term}
use Rattle.language.specs.declared.Node.{Node}
use Rattle.steps.specs.Graph.{Graph}
use Rattle.steps.specs.Machine
use Rattle.steps.specs.Machine.{Rebuild, fresh}
use Rattle.egraph.specs.Adds.{AddSays, UncanonicalSays}
use Rattle.egraph.specs.Rebuilds.{RebuildSays}
use Rattle.egraph.specs.Setup.{SetupSays}
use Rattle.egraph.specs.Unions.{UnionSays}
use Rattle.egraph.specs.declared.Refusal.{Refusal}
use Rattle.extract.specs.Cost.{CostSays}
use Rattle.extract.specs.Form.{FormSays}

-- ---- the accepted calls of a run

-- `add` or `add_uncanonical` of a node, with the id that was answered; `union` of two ids; `rebuild`
pub data Call : Type 0 where
  did_add : Term → ℕ → Call
  did_union : ℕ → ℕ → Call
  did_rebuild : Call

-- one call later: a refused call is none of them
abbrev pub after_add : List Call → Term → Result Id Refusal → List Call
after_add cs x (Ok i) = did_add x i.0 ∷ cs
after_add cs x (Err q) = cs

abbrev pub after_union : List Call → ℕ → ℕ → Result Bool Refusal → List Call
after_union cs i j (Ok true) = did_union i j ∷ cs
after_union cs i j (Ok false) = did_union i j ∷ cs
after_union cs i j (Err q) = cs

abbrev pub after_rebuild : List Call → Result ℕ Refusal → List Call
after_rebuild cs (Ok k) = did_rebuild ∷ cs
after_rebuild cs (Err q) = cs

-- ---- the words that a run can have left

pub data Reached (n m : ℕ) : List Call → List ℕ → Type 0 where
  -- an accepted setup, on any words: words that hold a graph are set up anew
  setup_done : (ws ws' : List ℕ) → SetupSays ws n m (Ok tt) ws' → Reached n m [] ws'
  setup_not : {cs : List Call} {ws : List ℕ} → Reached n m cs ws → (n' m' : ℕ) (q : Refusal) (ws' : List ℕ) → SetupSays ws n' m' (Err q) ws' → Reached n m cs ws'
  add : {cs : List Call} {ws : List ℕ} → Reached n m cs ws → (x : Node) (r : Result Id Refusal) (ws' : List ℕ) → AddSays ws x r ws' → Reached n m (after_add cs (node_of x) r) ws'
  add_uncanonical : {cs : List Call} {ws : List ℕ} → Reached n m cs ws → (x : Node) (r : Result Id Refusal) (ws' : List ℕ) → UncanonicalSays ws x r ws'
      → Reached n m (after_add cs (node_of x) r) ws'
  union : {cs : List Call} {ws : List ℕ} → Reached n m cs ws → (i j : ℕ) (r : Result Bool Refusal) (ws' : List ℕ) → UnionSays ws i j r ws' → Reached n m (after_union cs i j r) ws'
  rebuild : {cs : List Call} {ws : List ℕ} → Reached n m cs ws → (r : Result ℕ Refusal) (ws' : List ℕ) → RebuildSays ws r ws' → Reached n m (after_rebuild cs r) ws'
  find_best_cost : {cs : List Call} {ws : List ℕ} → Reached n m cs ws → (i : ℕ) (r : Result ℕ Refusal) (ws' : List ℕ) → CostSays ws i r ws' → Reached n m cs ws'
  find_best : {cs : List Call} {ws : List ℕ} → Reached n m cs ws → (i : ℕ) (out : List ℕ) (r : Result Form Refusal) (ws' out' : List ℕ) → FormSays ws i out r ws' out' → Reached n m cs ws'

-- ---- what the accepted calls say

-- the nodes that have an id, as they were given: a node is new where the answer is the next id
abbrev pub nodes_of : List Call → List Term
nodes_of [] = []
nodes_of (did_add x i ∷ cs) = when (ℕ_discrete i (length (nodes_of cs))) (nodes_of cs ++ (x ∷ [])) (nodes_of cs)
nodes_of (did_union i j ∷ cs) = nodes_of cs
nodes_of (did_rebuild ∷ cs) = nodes_of cs

-- the child places that they take
abbrev pub child_places : List Term → ℕ
child_places [] = 0
child_places (x ∷ xs) = length x.kids + child_places xs

-- the unions asked for, the first one first
abbrev pub unions_of : List Call → List (ℕ × ℕ)
unions_of [] = []
unions_of (did_add x i ∷ cs) = unions_of cs
unions_of (did_union i j ∷ cs) = unions_of cs ++ ((i, j) ∷ [])
unions_of (did_rebuild ∷ cs) = unions_of cs

-- a rebuild has ended, and no node or union has come since
abbrev pub rebuilt : List Call → Bool
rebuilt [] = false
rebuilt (did_add x i ∷ cs) = when (ℕ_discrete i (length (nodes_of cs))) false (rebuilt cs)
rebuilt (did_union i j ∷ cs) = false
rebuilt (did_rebuild ∷ cs) = true

-- ---- where the definitions' steps lead

abbrev pub Leads : List Call → Graph → Type 0
Leads [] g = g ≡ fresh
Leads (did_add x i ∷ cs) g = (h : Graph) × Leads cs h × (g ≡ (Machine.add h x).graph)
Leads (did_union i j ∷ cs) g = (h : Graph) × Leads cs h × (g ≡ (Machine.union h i j).graph)
Leads (did_rebuild ∷ cs) g = (h : Graph) × Leads cs h × ((y : ℕ) × (t : ℕ) × Rebuild h y t g)
