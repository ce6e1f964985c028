-- The words as a record of lists: the head, the nine parts, and what lies past the need. `view` stays shut, so that no goal shows an offset.
-- `get` and `put` read and replace one part; for parts that are written out both compute, so that a chain of them is `refl`.
-- Assumes nothing.
use Rattle.std.specs.Prelude.{List, ◌≡◌, refl, ◌<◌, ◌≤◌, ℕ, drop, length, take}
use Rattle.std.proofs.Common.{get_or-take, length-take-le}
use Rattle.lists.specs.Parts.{part}
use Rattle.lists.specs.Reads.{at}
use Rattle.layout.specs.Cut.{Part, forest, rows, sorting, uses, owners, members, table, pending, scratch, lower, upper, need}

-- the head of the words
unfoldable pub hd : List ℕ → List ℕ
hd ws = take 32 ws

pub record View : Type 0 where
  pub head : List ℕ
  pub forest : List ℕ
  pub rows : List ℕ
  pub sorting : List ℕ
  pub uses : List ℕ
  pub owners : List ℕ
  pub members : List ℕ
  pub table : List ℕ
  pub pending : List ℕ
  pub scratch : List ℕ
  pub rest : List ℕ

unfoldable pub view : ℕ → ℕ → List ℕ → View
view n m ws = record {
  head = hd ws;
  forest = part ws (lower forest n m) (upper forest n m);
  rows = part ws (lower rows n m) (upper rows n m);
  sorting = part ws (lower sorting n m) (upper sorting n m);
  uses = part ws (lower uses n m) (upper uses n m);
  owners = part ws (lower owners n m) (upper owners n m);
  members = part ws (lower members n m) (upper members n m);
  table = part ws (lower table n m) (upper table n m);
  pending = part ws (lower pending n m) (upper pending n m);
  scratch = part ws (lower scratch n m) (upper scratch n m);
  rest = drop (need n m) ws;
}

abbrev pub get : Part → View → List ℕ
get forest v = v.forest
get rows v = v.rows
get sorting v = v.sorting
get uses v = v.uses
get owners v = v.owners
get members v = v.members
get table v = v.table
get pending v = v.pending
get scratch v = v.scratch

abbrev pub put : Part → View → List ℕ → View
put forest v l = record { head = v.head; forest = l; rows = v.rows; sorting = v.sorting; uses = v.uses; owners = v.owners; members = v.members; table = v.table; pending = v.pending; scratch = v.scratch; rest = v.rest }
put rows v l = record { head = v.head; forest = v.forest; rows = l; sorting = v.sorting; uses = v.uses; owners = v.owners; members = v.members; table = v.table; pending = v.pending; scratch = v.scratch; rest = v.rest }
put sorting v l = record { head = v.head; forest = v.forest; rows = v.rows; sorting = l; uses = v.uses; owners = v.owners; members = v.members; table = v.table; pending = v.pending; scratch = v.scratch; rest = v.rest }
put uses v l = record { head = v.head; forest = v.forest; rows = v.rows; sorting = v.sorting; uses = l; owners = v.owners; members = v.members; table = v.table; pending = v.pending; scratch = v.scratch; rest = v.rest }
put owners v l = record { head = v.head; forest = v.forest; rows = v.rows; sorting = v.sorting; uses = v.uses; owners = l; members = v.members; table = v.table; pending = v.pending; scratch = v.scratch; rest = v.rest }
put members v l = record { head = v.head; forest = v.forest; rows = v.rows; sorting = v.sorting; uses = v.uses; owners = v.owners; members = l; table = v.table; pending = v.pending; scratch = v.scratch; rest = v.rest }
put table v l = record { head = v.head; forest = v.forest; rows = v.rows; sorting = v.sorting; uses = v.uses; owners = v.owners; members = v.members; table = l; pending = v.pending; scratch = v.scratch; rest = v.rest }
put pending v l = record { head = v.head; forest = v.forest; rows = v.rows; sorting = v.sorting; uses = v.uses; owners = v.owners; members = v.members; table = v.table; pending = l; scratch = v.scratch; rest = v.rest }
put scratch v l = record { head = v.head; forest = v.forest; rows = v.rows; sorting = v.sorting; uses = v.uses; owners = v.owners; members = v.members; table = v.table; pending = v.pending; scratch = l; rest = v.rest }

abbrev pub put_head : View → List ℕ → View
put_head v l = record { head = l; forest = v.forest; rows = v.rows; sorting = v.sorting; uses = v.uses; owners = v.owners; members = v.members; table = v.table; pending = v.pending; scratch = v.scratch; rest = v.rest }

-- ---- what is read after a replacement

pub get_put : (k : Part) (v : View) (l : List ℕ) → get k (put k v l) ≡ l
get_put forest v l = refl
get_put rows v l = refl
get_put sorting v l = refl
get_put uses v l = refl
get_put owners v l = refl
get_put members v l = refl
get_put table v l = refl
get_put pending v l = refl
get_put scratch v l = refl

pub put_put : (k : Part) (v : View) (a b : List ℕ) → put k (put k v a) b ≡ put k v b
put_put forest v a b = refl
put_put rows v a b = refl
put_put sorting v a b = refl
put_put uses v a b = refl
put_put owners v a b = refl
put_put members v a b = refl
put_put table v a b = refl
put_put pending v a b = refl
put_put scratch v a b = refl

pub put_head_of : (k : Part) (v : View) (l : List ℕ) → (put k v l).head ≡ v.head
put_head_of forest v l = refl
put_head_of rows v l = refl
put_head_of sorting v l = refl
put_head_of uses v l = refl
put_head_of owners v l = refl
put_head_of members v l = refl
put_head_of table v l = refl
put_head_of pending v l = refl
put_head_of scratch v l = refl

pub put_rest_of : (k : Part) (v : View) (l : List ℕ) → (put k v l).rest ≡ v.rest
put_rest_of forest v l = refl
put_rest_of rows v l = refl
put_rest_of sorting v l = refl
put_rest_of uses v l = refl
put_rest_of owners v l = refl
put_rest_of members v l = refl
put_rest_of table v l = refl
put_rest_of pending v l = refl
put_rest_of scratch v l = refl

-- ---- the fields of the view

pub view_head : (n m : ℕ) (ws : List ℕ) → (view n m ws).head ≡ hd ws
unfolding view
view_head n m ws = refl

pub view_rest : (n m : ℕ) (ws : List ℕ) → (view n m ws).rest ≡ drop (need n m) ws
unfolding view
view_rest n m ws = refl

pub get_part : (k : Part) (n m : ℕ) (ws : List ℕ) → get k (view n m ws) ≡ part ws (lower k n m) (upper k n m)
unfolding view
get_part forest n m ws = refl
get_part rows n m ws = refl
get_part sorting n m ws = refl
get_part uses n m ws = refl
get_part owners n m ws = refl
get_part members n m ws = refl
get_part table n m ws = refl
get_part pending n m ws = refl
get_part scratch n m ws = refl

pub hd_length : (ws : List ℕ) → 32 ≤ length ws → length (hd ws) ≡ 32
unfolding hd
hd_length ws h = length-take-le 32 ws h

pub hd_at : (ws : List ℕ) (k : ℕ) → k < 32 → at (hd ws) k ≡ at ws k
unfolding hd
hd_at ws k h = get_or-take 32 ws k 0 h
