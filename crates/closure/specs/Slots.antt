-- The table leads from a live key to an id whose own key it is. So an id has at most one live key, and n places hold the table of n ids.
-- Assumes nothing.
use Rattle.std.specs.Prelude.{List, [], ◌++◌, ◌∷◌, map, ◌≢◌, ◌≡◌, refl, ◌<◌, ℕ, length, Option, None, Some}
use Rattle.std.proofs.Common.{◌∙◌, ap, sym, arith}
use Rattle.lists.specs.Members.{Mem, map_same, mem-map}
use Rattle.lists.specs.Relabel.{relabel}
use Rattle.language.specs.Term.{Term, same_term}
use Rattle.steps.specs.Forced.{Made}
use Rattle.steps.specs.Graph.{Graph, canon, ids, kept, key_of, node, root}
use Rattle.steps.specs.Machine.{grow, lookup, merge, root_of, step}
use Rattle.closure.specs.Facts.{kept_here, kept_past, node_new, node_old, root_before, root_more, root_relabel}
use Rattle.closure.specs.Induct.{made_keeps, step_keeps}
use Rattle.closure.specs.Invariant.{Good, Same}
use Rattle.closure.specs.Kept.{made_good}
use Rattle.closure.specs.Tables.{Live, canon_live}
use Rattle.std.proofs.lemmas.Option.{none-some}

abbrev pub Keyed : List Term → List ℕ → List (Term × ℕ) → Type 0
Keyed ns rs memo = (k : Term) (i : ℕ) → Live rs k → kept k memo ≡ Some i → k ≡ canon rs (node ns i)

canon_same : (rs rs' : List ℕ) (x : Term) → ((c : ℕ) → Mem c x.kids → root rs c ≡ root rs' c) → canon rs x ≡ canon rs' x
canon_same rs rs' x h = let e = map_same (root rs) (root rs') x.kids h in λ i. record { op = x.op; payload = x.payload; kids = e i }

keyed_set : (ns : List Term) (rs : List ℕ) (memo : List (Term × ℕ)) (key : Term) (i : ℕ) → key ≡ canon rs (node ns i) → Keyed ns rs memo → Keyed ns rs ((key, i) ∷ memo)
keyed_set ns rs memo key i own K k m live e = go (same_term k key)
  where
    go : Dec (k ≡ key) → k ≡ canon rs (node ns m)
    go (yes q) = let is : i ≡ m = cc (kept_here k key i memo q, e) in q ∙ (own ∙ ap (λ j. canon rs (node ns j)) is)
    go (no n) = K k m live (sym (kept_past k key i memo n) ∙ e)

keyed_merge : (ns : List Term) (rs : List ℕ) (memo : List (Term × ℕ)) (s l : ℕ) → l < length rs → root rs s ≡ s → ((i : ℕ) → root rs (root rs i) ≡ root rs i)
    → Keyed ns rs memo → Keyed ns (map (relabel s l) rs) memo
keyed_merge ns rs memo s l l_lt s_root rr K k i live e = own ∙ canon_same rs (map (relabel s l) rs) (node ns i) stays
  where
    own : k ≡ canon rs (node ns i)
    own = K k i (λ c m. root_before rs s l l_lt s_root c (live c m)) e

    stays : (c : ℕ) → Mem c (node ns i).kids → root rs c ≡ root (map (relabel s l) rs) c
    stays c m = sym (live (root rs c) (rw own (mem-map (root rs) m))) ∙ (root_relabel rs s l l_lt (root rs c) ∙ (ap (relabel s l) (rr c) ∙ sym (root_relabel rs s l l_lt c)))

grow_keyed : (us : List (ℕ × ℕ)) (g : Graph) (x : Term) → Good Same us g → Keyed g.nodes g.roots g.memo → Keyed (grow g x).nodes (grow g x).roots (grow g x).memo
unfolding grow
grow_keyed us g x G K = keyed_set ns rs g.memo (canon g.roots x) (ids g) (rw (node_new g.nodes x) (same x)) (λ k i live e. old k i e (λ c m. sym (more_root c) ∙ live c m))
  where
    ns : List Term
    ns = g.nodes ++ (x ∷ [])

    rs : List ℕ
    rs = g.roots ++ (ids g ∷ [])

    more_root : (c : ℕ) → root rs c ≡ root g.roots c
    more_root c = root_more g.roots (ids g) c G.shape.rl

    same : (y : Term) → canon g.roots y ≡ canon rs y
    same y = canon_same g.roots rs y (λ c m. sym (more_root c))

    old : (k : Term) (i : ℕ) → kept k g.memo ≡ Some i → Live g.roots k → k ≡ canon rs (node ns i)
    old k i e live = rw (node_old g.nodes x i (G.sound.memo_lt k i e)) (K k i live e ∙ same (node g.nodes i))

pub made_keyed : {us : List (ℕ × ℕ)} {g : Graph} → Made us g → Keyed g.nodes g.roots g.memo
unfolding kept merge
made_keyed M = made_keeps (λ c g. Keyed g.nodes g.roots g.memo) (record {
  at_fresh = λ k i live e. absurd (none-some _ e);
  at_grow = λ us c g x G kids_in e K. grow_keyed us g x G K;
  steps = record {
    at_mark = λ c g K. K;
    at_end = λ c g e K. K;
    at_merge = λ c g s l J K. keyed_merge g.nodes g.roots g.memo s l (omega (arith, J.l_lt, J.shape.rl)) J.s_root J.shape.root_root K;
    at_take = λ us c g i rest G top K. keyed_set g.nodes g.roots g.memo (key_of g i) i refl K;
  };
}) M

-- two live keys that lead to one id are one key
pub one_slot : {us : List (ℕ × ℕ)} {g : Graph} → Made us g → (k k' : Term) (i : ℕ) → Live g.roots k → Live g.roots k' → kept k g.memo ≡ Some i → kept k' g.memo ≡ Some i → k ≡ k'
one_slot M k k' i l l' e e' = made_keyed M k i l e ∙ sym (made_keyed M k' i l' e')

-- what `lookup` finds is an id with that key
pub lookup_from : {us : List (ℕ × ℕ)} {g : Graph} → Made us g → (x : Term) (r : ℕ) → lookup g x ≡ Some r → (i : ℕ) × (i < ids g) × (canon g.roots x ≡ key_of g i) × (root g.roots i ≡ r)
unfolding lookup
lookup_from {us} {g} M x r e = go (kept (canon g.roots x) g.memo) refl e
  where
    G : Good Same us g
    G = made_good M

    go : (o : Option ℕ) → kept (canon g.roots x) g.memo ≡ o → root_of g.roots o ≡ Some r → (i : ℕ) × (i < ids g) × (canon g.roots x ≡ key_of g i) × (root g.roots i ≡ r)
    go None f q = absurd (none-some _ q)
    go (Some i) f q = (i, G.sound.memo_lt (canon g.roots x) i f, made_keyed M (canon g.roots x) i (canon_live g.roots x G.shape.root_root) f, cc q)

-- ---- an entry of a rebuild keeps it

pub step_keyed : (us : List (ℕ × ℕ)) (g : Graph) (p : List ℕ) → g.pending ≡ p → p ≢ [] → Good Same us g → Keyed g.nodes g.roots g.memo
    → Keyed (step g p).graph.nodes (step g p).graph.roots (step g p).graph.memo
unfolding merge
step_keyed us g p e ne G = step_keeps (λ c g. Keyed g.nodes g.roots g.memo) (record {
  at_mark = λ c g K. K;
  at_end = λ c g e K. K;
  at_merge = λ c g s l J K. keyed_merge g.nodes g.roots g.memo s l (omega (arith, J.l_lt, J.shape.rl)) J.s_root J.shape.root_root K;
  at_take = λ us c g i rest G top K. keyed_set g.nodes g.roots g.memo (key_of g i) i refl K;
}) us 0 g p e ne G
