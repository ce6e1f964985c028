-- The steps, as document 01 has them ("The steps, from `src/egraph.rs`"): fresh, `lookup`, `add_uncanonical`, `add`, `union`, `rebuild`.
-- First the micro-steps, each a change of one part of the graph; then the calls, which are put together from them.
-- Assumes nothing.
use Rattle.std.specs.Prelude.{◌≡◌, ◌≢◌, Bool, true, false, List, [], ◌∷◌, ◌++◌, map, reverse, ℕ, zero, suc, ◌+◌, ◌<◌, length, set, Option, None, Some}
use Rattle.std.proofs.Math.Decide.{ℕ_discrete, dec_lt}
use Rattle.lists.specs.Relabel.{relabel}
use Rattle.language.specs.Term.{Term}
use Rattle.steps.specs.Graph.{Graph, ids, root, uses, canon, key_of, kept}
use Rattle.std.specs.Int.{from_bool}

-- ---- fresh: no ids, `clean` false

abbrev pub fresh : Graph
fresh = record { nodes = []; roots = []; parents = []; memo = []; pending = []; clean = false }

-- ---- micro-steps

-- the node x stored under a new id, which is its own root and has no parents yet
abbrev pub stored : Graph → Term → Graph
stored g x = record { nodes = g.nodes ++ (x ∷ []); roots = g.roots ++ (ids g ∷ []); parents = g.parents ++ ([] ∷ []); memo = g.memo; pending = g.pending; clean = g.clean }

-- id i appended to the parent list of each of the roots rs, one after the other, so twice where a root stands twice
unfoldable pub link : ℕ → List ℕ → List (List ℕ) → List (List ℕ)
link i [] ps = ps
link i (r ∷ rs) ps = link i rs (set ps r (uses ps r ++ (i ∷ [])))

abbrev pub linked : Graph → ℕ → List ℕ → Graph
linked g i rs = record { nodes = g.nodes; roots = g.roots; parents = link i rs g.parents; memo = g.memo; pending = g.pending; clean = g.clean }

-- id i pushed on pending
abbrev pub pushed : Graph → ℕ → Graph
pushed g i = record { nodes = g.nodes; roots = g.roots; parents = g.parents; memo = g.memo; pending = i ∷ g.pending; clean = g.clean }

-- the last of pending taken: `rest` is left
abbrev pub popped : Graph → List ℕ → Graph
popped g rest = record { nodes = g.nodes; roots = g.roots; parents = g.parents; memo = g.memo; pending = rest; clean = g.clean }

-- the table's entry for key k set to id i
abbrev pub keyed : Graph → Term → ℕ → Graph
keyed g k i = record { nodes = g.nodes; roots = g.roots; parents = g.parents; memo = (k, i) ∷ g.memo; pending = g.pending; clean = g.clean }

-- `clean` set
abbrev pub marked : Graph → Bool → Graph
marked g c = record { nodes = g.nodes; roots = g.roots; parents = g.parents; memo = g.memo; pending = g.pending; clean = c }

-- two classes merged: every id of root `lose` has root `stay`; the joined parent list is the stayer's, then the loser's;
-- the loser's parents are pushed on pending in list order; `clean` is false
unfoldable pub merge : Graph → ℕ → ℕ → Graph
merge g stay lose = record {
  nodes = g.nodes;
  roots = map (relabel stay lose) g.roots;
  parents = set (set g.parents stay (uses g.parents stay ++ uses g.parents lose)) lose [];
  memo = g.memo;
  pending = reverse (uses g.parents lose) ++ g.pending;
  clean = false;
}

-- ---- lookup: the root of the id kept for the node with root children

abbrev pub root_of : List ℕ → Option ℕ → Option ℕ
root_of rs None = None
root_of rs (Some i) = Some (root rs i)

unfoldable pub lookup : Graph → Term → Option ℕ
lookup g x = root_of g.roots (kept (canon g.roots x) g.memo)

-- ---- add

-- an id, and the graph that the call leaves
pub record Given : Type 0 where
  pub graph : Graph
  pub id : ℕ

-- a node that was not found: new id, node stored as given, new id to the parent list of each child's class, once for each child place;
-- pushed on pending; the table maps the node with root children to it; `clean` false
unfoldable pub grow : Graph → Term → Graph
grow g x = let i = ids g in let k = canon g.roots x in marked (keyed (pushed (linked (stored g x) i k.kids) i) k i) false

unfoldable pub add_by : Graph → Term → Option ℕ → Given
add_by g x (Some i) = record { graph = g; id = i }
add_by g x None = record { graph = grow g x; id = ids g }

-- `add_uncanonical`: the kept id itself, which need not be a root
unfoldable pub add_uncanonical : Graph → Term → Given
add_uncanonical g x = add_by g x (kept (canon g.roots x) g.memo)

-- `add`: the root of that id
unfoldable pub add : Graph → Term → Given
add g x = let a = add_uncanonical g x in record { graph = a.graph; id = root a.graph.roots a.id }

-- ---- union

-- yes or no, and the graph that the call leaves
pub record Joined : Type 0 where
  pub graph : Graph
  pub answer : Bool

-- a and b are roots. If they agree: no, and only `clean` is set false. Otherwise a stays unless its parent list is strictly shorter: yes
unfoldable pub union_by : (g : Graph) (a b : ℕ) → Dec (a ≡ b) → Dec (length (uses g.parents a) < length (uses g.parents b)) → Joined
union_by g a b (yes e) s = record { graph = marked g false; answer = false }
union_by g a b (no n) (no m) = record { graph = merge g a b; answer = true }
union_by g a b (no n) (yes s) = record { graph = merge g b a; answer = true }

unfoldable pub union : Graph → ℕ → ℕ → Joined
union g i j = let a = root g.roots i in let b = root g.roots j in
    union_by g a b (ℕ_discrete a b) (dec_lt (length (uses g.parents a)) (length (uses g.parents b)))

-- ---- rebuild

-- id i taken from pending, and the table's entry for its key set to it
abbrev pub taken : Graph → ℕ → List ℕ → Graph
taken g i rest = keyed (popped g rest) (key_of g i) i

-- if the key had an id before, that id is joined with this one
unfoldable pub close : Graph → Option ℕ → ℕ → Joined
close g None i = record { graph = g; answer = false }
close g (Some old) i = union g old i

-- one entry of pending, which is handed over: call it with `g.pending`
unfoldable pub step : Graph → List ℕ → Joined
step g [] = record { graph = g; answer = false }
step g (i ∷ rest) = close (taken g i rest) (kept (key_of g i) g.memo) i

-- the rebuild of g takes t entries, y of its unions answer yes, and it leaves h. At the end every class has its nodes re-childed, sorted and
-- duplicates dropped: `class_nodes` of Classes, which needs no state; `clean` becomes true
pub data Rebuild : Graph → ℕ → ℕ → Graph → Type 0 where
  done : {g : Graph} → g.pending ≡ [] → Rebuild g 0 0 (marked g true)
  more : {g h : Graph} {y t : ℕ} → g.pending ≢ [] → Rebuild (step g g.pending).graph y t h
      → Rebuild g (from_bool (step g g.pending).answer + y) (suc t) h

-- the same as a function, to compute with: at most `fuel` entries (`run_rebuild` and `run_enough` say that it is the same)
pub record Rebuilt : Type 0 where
  pub graph : Graph
  pub yeses : ℕ
  pub entries : ℕ

unfoldable pub run_on : List ℕ → Graph → (Graph → Rebuilt) → Rebuilt
run_on [] g next = record { graph = marked g true; yeses = 0; entries = 0 }
run_on (i ∷ rest) g next = let s = step g g.pending in let r = next s.graph in record { graph = r.graph; yeses = from_bool s.answer + r.yeses; entries = suc r.entries }

unfoldable pub run : ℕ → Graph → Rebuilt
run zero g = record { graph = g; yeses = 0; entries = 0 }
run (suc fuel) g = run_on g.pending g (run fuel)
