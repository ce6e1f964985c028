-- What the struct `Node` means (document 01: "It keeps its children in a fixed row of eight places, and places past the count mean nothing"):
-- a definition takes it to the plain node, and these are its laws.
-- Assumes nothing.
use Rattle.std.specs.Prelude.{◌≡◌, List, map, ℕ, ◌+◌, ◌≤◌, ◌<◌, length, get_or, set, take}
use Rattle.std.proofs.Common.{sym, ◌∙◌, arith, add-one, length-take, get_or-take, take-suc-set}
use Rattle.std.proofs.lemmas.List.{length-map, map-set}
use Rattle.std.proofs.Math.ListN.{get_or-map}
use Rattle.std.proofs.Math.Seq.{take-set-lt}
use Rattle.lists.specs.Reads.{at}
use Rattle.language.specs.declared.Id.{Id}
use Rattle.language.specs.declared.Node.{Node}
use Rattle.language.specs.Term.{Term, places, grown, rekid}

-- the numbers in the row
abbrev pub row : Node → List ℕ
row x = map (λ (k : Id). k.0) x.kids

-- the node that a struct means
unfoldable pub node_of : Node → Term
node_of x = record { op = x.op.0; payload = x.payload; kids = take x.count (row x) }

-- what owning a node tells of its row (proofs/Sized.antt)
abbrev pub Full : Node → Type 0
Full x = length x.kids ≡ places

-- place i of the row
abbrev pub place : Node → ℕ → ℕ
place x i = (get_or x.kids i (record { 0 = 0 })).0

-- ---- reads

pub count_kids : (x : Node) → Full x → x.count ≤ places → length (node_of x).kids ≡ x.count
unfolding node_of
count_kids x f h = simp (length-take, length-map) (omega arith)

pub kid_at : (x : Node) (i : ℕ) → i < x.count → place x i ≡ at (node_of x).kids i
unfolding node_of
kid_at x i h = sym (get_or-take x.count (row x) i 0 h ∙ get_or-map (λ (k : Id). k.0) x.kids i (record { 0 = 0 }))

-- ---- writes

pub node_of_set : (x : Node) (i : ℕ) (k : Id) → i < x.count
    → node_of (record { op = x.op; payload = x.payload; count = x.count; kids = set x.kids i k }) ≡ rekid (node_of x) i k.0
unfolding node_of rekid
node_of_set x i k h = rw (map-set (λ (k : Id). k.0) x.kids i k, take-set-lt x.count (row x) i k.0 h)

pub node_of_more : (x : Node) (k : Id) → Full x → x.count < places
    → node_of (record { op = x.op; payload = x.payload; count = x.count + 1; kids = set x.kids x.count k }) ≡ grown (node_of x) k.0
unfolding node_of grown
node_of_more x k f h =
    let l : x.count < length (row x) = simp length-map (omega arith) in
    rw (map-set (λ (k : Id). k.0) x.kids x.count k, add-one, take-suc-set (row x) x.count k.0 l)
