-- Only the live keys of the table count: two graphs that differ in their tables, and there only at dead keys, answer alike and stay so.
-- A port may drop dead keys, and use their space again, whenever it likes.
-- Assumes nothing.
use Rattle.std.specs.Prelude.{List, [], ◌++◌, ◌∷◌, ◌≢◌, ◌≡◌, refl, ◌+◌, ◌<◌, suc, ℕ, length, Option, None, Some}
use Rattle.std.proofs.Common.{◌∙◌, ap, sym, arith}
use Rattle.std.proofs.Math.Decide.{dec_lt, ℕ_discrete}
use Rattle.lists.specs.Members.{Mem, mem-of-map}
use Rattle.language.specs.Term.{Term, same_term}
use Rattle.steps.specs.Graph.{Graph, canon, ids, kept, key_of, node, root, uses}
use Rattle.steps.specs.Machine.{Given, Joined, Rebuild, add, add_by, add_uncanonical, close, done, grow, lookup, merge, more, step, taken, union, union_by}
use Rattle.closure.specs.Facts.{kept_here, kept_past, root_before, root_more}
use Rattle.closure.specs.Invariant.{Good, Same, Shape}
use Rattle.closure.specs.Taking.{step_good, taken_shape, top_lt}
use Rattle.std.specs.Int.{from_bool}

-- a key is live if its children are roots
abbrev pub Live : List ℕ → Term → Type 0
Live rs k = (c : ℕ) → Mem c k.kids → root rs c ≡ c

-- two tables that answer alike at live keys
abbrev pub Agree : List ℕ → List (Term × ℕ) → List (Term × ℕ) → Type 0
Agree rs m m' = (k : Term) → Live rs k → kept k m ≡ kept k m'

-- the graph g with the table m
abbrev pub re : Graph → List (Term × ℕ) → Graph
re g m = record { nodes = g.nodes; roots = g.roots; parents = g.parents; memo = m; pending = g.pending; clean = g.clean }

pub canon_live : (rs : List ℕ) (x : Term) → ((i : ℕ) → root rs (root rs i) ≡ root rs i) → Live rs (canon rs x)
canon_live rs x rr c h = let k = mem-of-map (root rs) x.kids h in rw (← k.2) (rr k.0)

agree_set : (rs : List ℕ) (m m' : List (Term × ℕ)) (key : Term) (i : ℕ) → Agree rs m m' → Agree rs ((key, i) ∷ m) ((key, i) ∷ m')
agree_set rs m m' key i A k live = go (same_term k key)
  where
    go : Dec (k ≡ key) → kept k ((key, i) ∷ m) ≡ kept k ((key, i) ∷ m')
    go (yes e) = kept_here k key i m e ∙ sym (kept_here k key i m' e)
    go (no n) = kept_past k key i m n ∙ (A k live ∙ sym (kept_past k key i m' n))

-- a union neither reads nor writes the table, and what is live after it was live before
union_by_re : (g : Graph) (m : List (Term × ℕ)) (a b : ℕ) (d : Dec (a ≡ b)) (e : Dec (length (uses g.parents a) < length (uses g.parents b)))
    → union_by (re g m) a b d e ≡ record { graph = re (union_by g a b d e).graph m; answer = (union_by g a b d e).answer }
unfolding union_by merge
union_by_re g m a b (yes q) e = refl
union_by_re g m a b (no n) (no s) = refl
union_by_re g m a b (no n) (yes s) = refl

pub union_re : (g : Graph) (m : List (Term × ℕ)) (i j : ℕ) → union (re g m) i j ≡ record { graph = re (union g i j).graph m; answer = (union g i j).answer }
unfolding union
union_re g m i j = union_by_re g m (root g.roots i) (root g.roots j) (ℕ_discrete (root g.roots i) (root g.roots j))
    (dec_lt (length (uses g.parents (root g.roots i))) (length (uses g.parents (root g.roots j))))

union_by_memo : (g : Graph) (a b : ℕ) (d : Dec (a ≡ b)) (e : Dec (length (uses g.parents a) < length (uses g.parents b))) → (union_by g a b d e).graph.memo ≡ g.memo
unfolding union_by merge
union_by_memo g a b (yes q) e = refl
union_by_memo g a b (no n) (no s) = refl
union_by_memo g a b (no n) (yes s) = refl

union_by_live : (g : Graph) (a b : ℕ) → a < length g.roots → b < length g.roots → root g.roots a ≡ a → root g.roots b ≡ b
    → (d : Dec (a ≡ b)) (e : Dec (length (uses g.parents a) < length (uses g.parents b))) (k : Term) → Live (union_by g a b d e).graph.roots k → Live g.roots k
unfolding union_by merge
union_by_live g a b a_lt b_lt a_root b_root (yes q) e k live c h = live c h
union_by_live g a b a_lt b_lt a_root b_root (no n) (no s) k live c h = root_before g.roots a b b_lt a_root c (live c h)
union_by_live g a b a_lt b_lt a_root b_root (no n) (yes s) k live c h = root_before g.roots b a a_lt b_root c (live c h)

pub union_agree : (g : Graph) (m : List (Term × ℕ)) (i j : ℕ) → Shape g.nodes g.roots g.parents g.pending → i < ids g → j < ids g
    → Agree g.roots g.memo m → Agree (union g i j).graph.roots (union g i j).graph.memo m
unfolding union
union_agree g m i j S i_lt j_lt A k live = rw (union_by_memo g a b d e) (A k (union_by_live g a b (omega (arith, S.root_lt i i_lt, S.rl)) (omega (arith, S.root_lt j j_lt, S.rl)) (S.root_root i) (S.root_root j) d e k live))
  where
    a : ℕ
    a = root g.roots i

    b : ℕ
    b = root g.roots j

    d : Dec (a ≡ b)
    d = ℕ_discrete a b

    e : Dec (length (uses g.parents a) < length (uses g.parents b))
    e = dec_lt (length (uses g.parents a)) (length (uses g.parents b))

-- ---- lookup and add

pub lookup_agree : (us : List (ℕ × ℕ)) (g : Graph) (m : List (Term × ℕ)) (x : Term) → Good Same us g → Agree g.roots g.memo m → lookup (re g m) x ≡ lookup g x
unfolding lookup
lookup_agree us g m x G A = rw (A (canon g.roots x) (canon_live g.roots x G.shape.root_root)) refl

add_by_agree : (us : List (ℕ × ℕ)) (g : Graph) (m : List (Term × ℕ)) (x : Term) → Good Same us g → Agree g.roots g.memo m → (o : Option ℕ)
    → (m' : List (Term × ℕ)) × (add_by (re g m) x o ≡ record { graph = re (add_by g x o).graph m'; id = (add_by g x o).id }) × Agree (add_by g x o).graph.roots (add_by g x o).graph.memo m'
unfolding add_by grow
add_by_agree us g m x G A None = ((canon g.roots x, ids g) ∷ m, refl, wide)
  where
    wide : Agree (g.roots ++ (ids g ∷ [])) ((canon g.roots x, ids g) ∷ g.memo) ((canon g.roots x, ids g) ∷ m)
    wide k live = agree_set g.roots g.memo m (canon g.roots x) (ids g) A k (λ c h. rw (root_more g.roots (ids g) c G.shape.rl) at (live c h))
add_by_agree us g m x G A (Some i) = (m, refl, A)

pub add_agree : (us : List (ℕ × ℕ)) (g : Graph) (m : List (Term × ℕ)) (x : Term) → Good Same us g → Agree g.roots g.memo m
    → (m' : List (Term × ℕ)) × (add_uncanonical (re g m) x ≡ record { graph = re (add_uncanonical g x).graph m'; id = (add_uncanonical g x).id })
    × Agree (add_uncanonical g x).graph.roots (add_uncanonical g x).graph.memo m'
unfolding add_uncanonical
add_agree us g m x G A = rw (← (A (canon g.roots x) (canon_live g.roots x G.shape.root_root))) (add_by_agree us g m x G A (kept (canon g.roots x) g.memo))

-- `add` as well: the same root
pub add_root_agree : (us : List (ℕ × ℕ)) (g : Graph) (m : List (Term × ℕ)) (x : Term) → Good Same us g → Agree g.roots g.memo m → (add (re g m) x).id ≡ (add g x).id
unfolding add
add_root_agree us g m x G A = let a = add_agree us g m x G A in ap (λ (y : Given). root y.graph.roots y.id) a.1

-- ---- rebuild

close_agree : (us : List (ℕ × ℕ)) (g : Graph) (m : List (Term × ℕ)) (i : ℕ) (rest : List ℕ) → Good Same us g → g.pending ≡ i ∷ rest → Agree (taken g i rest).roots (taken g i rest).memo m
    → (o : Option ℕ) → kept (key_of g i) g.memo ≡ o
    → (close (re (taken g i rest) m) o i ≡ record { graph = re (close (taken g i rest) o i).graph m; answer = (close (taken g i rest) o i).answer })
    × Agree (close (taken g i rest) o i).graph.roots (close (taken g i rest) o i).graph.memo m
unfolding close
close_agree us g m i rest G top A None e = (refl, A)
close_agree us g m i rest G top A (Some o) e = (
  union_re (taken g i rest) m o i,
  union_agree (taken g i rest) m o i (taken_shape us g i rest G top) (G.sound.memo_lt (key_of g i) o e) (top_lt us g i rest G top) A,
)

pub step_agree : (us : List (ℕ × ℕ)) (g : Graph) (m : List (Term × ℕ)) (p : List ℕ) → g.pending ≡ p → Good Same us g → Agree g.roots g.memo m
    → (m' : List (Term × ℕ)) × (step (re g m) p ≡ record { graph = re (step g p).graph m'; answer = (step g p).answer }) × Agree (step g p).graph.roots (step g p).graph.memo m'
unfolding step
step_agree us g m [] e G A = (m, refl, A)
step_agree us g m (i ∷ rest) e G A =
    let key : Term = key_of g i in
    let c = close_agree us g ((key, i) ∷ m) i rest G e (agree_set g.roots g.memo m key i A) (kept key g.memo) refl in
    ((key, i) ∷ m, rw (← (A key (canon_live g.roots (node g.nodes i) G.shape.root_root))) c.0, c.1)

more_as : {h : Graph} {y t : ℕ} (g : Graph) (j : Joined) → step g g.pending ≡ j → g.pending ≢ [] → Rebuild j.graph y t h → Rebuild g (from_bool j.answer + y) (suc t) h
more_as g j e n r = rw (← e) (more n (rw (← e) at r))

pub rebuild_agree : (us : List (ℕ × ℕ)) {g h : Graph} {y t : ℕ} (m : List (Term × ℕ)) → Rebuild g y t h → Good Same us g → Agree g.roots g.memo m
    → (m' : List (Term × ℕ)) × Rebuild (re g m) y t (re h m') × Agree h.roots h.memo m'
rebuild_agree us m (done e) G A = (m, done e, A)
rebuild_agree us m (more {g = g} n r) G A =
    let s = step_agree us g m g.pending refl G A in
    let k = rebuild_agree us s.0 r (step_good us g g.pending refl G) s.2 in
    (k.0, more_as (re g m) (record { graph = re (step g g.pending).graph s.0; answer = (step g g.pending).answer }) s.1 n k.1, k.2)
