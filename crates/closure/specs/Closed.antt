-- Demand 3: after a rebuild two ids have one root exactly when the requested unions force them equal, and before it one root still means forced equal.
-- A rebuild has one outcome (Ends: and there is one), and a second one does nothing.
-- Assumes nothing.
use Rattle.std.specs.Prelude.{false, true, ◌↔◌, ◌≢◌, ◌⊎◌, ◌≡◌, refl, ◌+◌, ◌<◌, suc, zero, ℕ, length, Option, None, Some}
use mathlib.Core.List.{List, [], ◌∷◌, cons≢nil, map}
use Rattle.std.proofs.Common.{inl, inr, ◌∙◌, ap, sym, arith, ext_get_or}
use Rattle.std.proofs.Math.Decide.{dec_lt, ℕ_discrete}
use Rattle.std.proofs.lemmas.Bool.{false≢true}
use Rattle.std.proofs.lemmas.List.{length-map}
use Rattle.lists.specs.Members.{Mem, mem-nil}
use Rattle.lists.specs.Reads.{at, get_or_map_lt}
use Rattle.language.specs.Term.{Match, Term}
use Rattle.steps.specs.Forced.{Forced, Made, alike, asked, back, rebuilt, self, then}
use Rattle.steps.specs.Graph.{Graph, canon, ids, kept, key_of, node, root, uses}
use Rattle.steps.specs.Machine.{Rebuild, Rebuilt, close, done, grow, lookup, merge, more, run, run_on, step, taken, union, union_by}
use Rattle.closure.specs.Induct.{made_keeps}
use Rattle.closure.specs.Invariant.{Good, Same, Settled}
use Rattle.closure.specs.Kept.{made_good}
use Rattle.std.specs.Int.{from_bool}

-- ---- 1. one root: forced, also before a rebuild

pub sound : {us : List (ℕ × ℕ)} {g : Graph} → Made us g → (i j : ℕ) → root g.roots i ≡ root g.roots j → Forced g.nodes us i j
sound {us} {g} M i j e = then (to i) (back (rw (← e) at (to j)))
  where
    to : (k : ℕ) → Forced g.nodes us k (root g.roots k)
    to = (made_good M).sound.to_root

-- ---- 2. forced: one root, once nothing is pending

-- matching nodes whose children have one root, place by place, have one key
same_key : (rs : List ℕ) (x y : Term) → Match x y → ((p : ℕ) → p < length x.kids → root rs (at x.kids p) ≡ root rs (at y.kids p)) → canon rs x ≡ canon rs y
same_key rs x y m e = λ i. record { op = m.op i; payload = m.payload i; kids = kids i }
  where
    each : (p : ℕ) → p < length (map (root rs) x.kids) → at (map (root rs) x.kids) p ≡ at (map (root rs) y.kids) p
    each p h = let h' : p < length x.kids = rw (length-map x.kids (root rs)) at h in
        get_or_map_lt (root rs) x.kids p h' ∙ (e p h' ∙ sym (get_or_map_lt (root rs) y.kids p (rw m.count at h')))

    kids : map (root rs) x.kids ≡ map (root rs) y.kids
    kids = ext_get_or 0 (map (root rs) x.kids) (map (root rs) y.kids) (length-map x.kids (root rs) ∙ (m.count ∙ sym (length-map y.kids (root rs)))) each

-- with nothing pending, every id is settled
settled : (us : List (ℕ × ℕ)) (g : Graph) → Good Same us g → g.pending ≡ [] → (i : ℕ) → i < ids g → Settled Same g.nodes g.roots g.memo i
settled us g G e i i_lt = out (G.whole.covered i i_lt)
  where
    out : Mem i g.pending ⊎ Settled Same g.nodes g.roots g.memo i → Settled Same g.nodes g.roots g.memo i
    out (inl m) = absurd (mem-nil (rw e at m))
    out (inr t) = t

-- two settled ids with one key have one root
meet : (us : List (ℕ × ℕ)) (g : Graph) → Good Same us g → g.pending ≡ [] → (i j : ℕ) → i < ids g → j < ids g
    → key_of g i ≡ key_of g j → root g.roots i ≡ root g.roots j
meet us g G e i j i_lt j_lt q =
    let s = settled us g G e i i_lt in
    let t = settled us g G e j j_lt in
    let f : kept (key_of g j) g.memo ≡ Some s.0 = rw q at s.1 in
    let m : s.0 ≡ t.0 = cc (f, t.1) in
    s.2 ∙ (ap (root g.roots) m ∙ sym t.2)

one_root : (us : List (ℕ × ℕ)) (g : Graph) → Good Same us g → g.pending ≡ [] → {i j : ℕ} → Forced g.nodes us i j → root g.roots i ≡ root g.roots j
one_root us g G e (asked {i = i} {j = j} m) = G.whole.asks i j m
one_root us g G e self = refl
one_root us g G e (back f) = sym (one_root us g G e f)
one_root us g G e (then f h) = one_root us g G e f ∙ one_root us g G e h
one_root us g G e (alike {i = i} {j = j} i_lt j_lt m k) = meet us g G e i j i_lt j_lt (same_key g.roots (node g.nodes i) (node g.nodes j) m (λ p h. one_root us g G e (k p h)))

pub complete : {us : List (ℕ × ℕ)} {g : Graph} → Made us g → g.pending ≡ [] → {i j : ℕ} → Forced g.nodes us i j → root g.roots i ≡ root g.roots j
complete {us} {g} M e f = one_root us g (made_good M) e f

pub rebuilt_empty : {g h : Graph} {y t : ℕ} → Rebuild g y t h → h.pending ≡ []
rebuilt_empty (done e) = e
rebuilt_empty (more n r) = rebuilt_empty r

-- both, after a rebuild: demand 3
pub closed : {us : List (ℕ × ℕ)} {g h : Graph} {y t : ℕ} → Made us g → Rebuild g y t h → (i j : ℕ) → (root h.roots i ≡ root h.roots j) ↔ Forced h.nodes us i j
closed M r i j = (sound (rebuilt r M) i j, λ f. complete (rebuilt r M) (rebuilt_empty r) f)

-- with nothing pending, `lookup` finds a node whose key an id has, and answers that id's root (`lookup_from` of Slots: and no other)
pub lookup_finds : {us : List (ℕ × ℕ)} {g : Graph} → Made us g → g.pending ≡ [] → (x : Term) (i : ℕ) → i < ids g
    → canon g.roots x ≡ key_of g i → lookup g x ≡ Some (root g.roots i)
unfolding lookup
lookup_finds {us} {g} M e x i i_lt q = let s = settled us g (made_good M) e i i_lt in rw (q, s.1, s.2)

-- the same of `union_by`, case by case
union_by_unclean : (g : Graph) (a b : ℕ) (d : Dec (a ≡ b)) (e : Dec (length (uses g.parents a) < length (uses g.parents b))) → (union_by g a b d e).graph.clean ≡ false
unfolding union_by merge
union_by_unclean g a b (yes q) e = refl
union_by_unclean g a b (no n) (no s) = refl
union_by_unclean g a b (no n) (yes s) = refl

-- ---- 3. `clean` is true exactly when a rebuild has ended and no node or union has come since

pub rebuilt_clean : {g h : Graph} {y t : ℕ} → Rebuild g y t h → h.clean ≡ true
rebuilt_clean (done e) = refl
rebuilt_clean (more n r) = rebuilt_clean r

pub grow_unclean : (g : Graph) (x : Term) → (grow g x).clean ≡ false
unfolding grow
grow_unclean g x = refl

pub union_unclean : (g : Graph) (i j : ℕ) → (union g i j).graph.clean ≡ false
unfolding union
union_unclean g i j =
    let a = root g.roots i in let b = root g.roots j in
    union_by_unclean g a b (ℕ_discrete a b) (dec_lt (length (uses g.parents a)) (length (uses g.parents b)))

-- and then nothing is pending
pub clean_empty : {us : List (ℕ × ℕ)} {g : Graph} → Made us g → g.clean ≡ true → g.pending ≡ []
unfolding grow merge
clean_empty M = made_keeps (λ c g. g.clean ≡ true → g.pending ≡ []) (record {
  at_fresh = λ e. refl;
  at_grow = λ us c g x G kids_in a p e. absurd (false≢true e);
  steps = record {
    at_mark = λ c g p e. absurd (false≢true e);
    at_merge = λ c g s l J p e. absurd (false≢true e);
    at_take = λ us c g i rest G top p e. absurd (cons≢nil (sym top ∙ p e));
    at_end = λ c g z p e. z;
  };
}) M

-- demand 3: then two ids have one root exactly when the requested unions force them equal
pub demand_3 : {us : List (ℕ × ℕ)} {g : Graph} → Made us g → g.clean ≡ true → (i j : ℕ) → (root g.roots i ≡ root g.roots j) ↔ Forced g.nodes us i j
demand_3 M e i j = (sound M i j, λ f. complete M (clean_empty M e) f)

-- another rebuild then returns 0, takes nothing and leaves the same graph, so it alters no answer
pub again : {us : List (ℕ × ℕ)} {g h : Graph} {y t : ℕ} → Made us g → g.clean ≡ true → Rebuild g y t h → (y ≡ 0) × (t ≡ 0) × (h ≡ g)
again M e (done {g = g} p) = (refl, refl, λ i. record { nodes = g.nodes; roots = g.roots; parents = g.parents; memo = g.memo; pending = g.pending; clean = sym e i })
again M e (more n r) = absurd (n (clean_empty M e))

-- ---- 4. a rebuild has one outcome

pub one_outcome : {g h h' : Graph} {y y' t t' : ℕ} → Rebuild g y t h → Rebuild g y' t' h' → (y ≡ y') × (t ≡ t') × (h ≡ h')
one_outcome (done e) (done e') = (refl, refl, refl)
one_outcome (done e) (more n r) = absurd (n e)
one_outcome (more n r) (done e) = absurd (n e)
one_outcome (more {g = g} n r) (more n' r') = let s = one_outcome r r' in (ap (λ k. from_bool (step g g.pending).answer + k) s.0, ap suc s.1, s.2)

-- ---- the function with fuel runs the rebuild, if it took less than its fuel

run_on_rebuild : (p : List ℕ) (g : Graph) (f : ℕ) (next : Graph → Rebuilt) → g.pending ≡ p → ((k : Graph) → (next k).entries < f → Rebuild k (next k).yeses (next k).entries (next k).graph)
    → (run_on p g next).entries < suc f → Rebuild g (run_on p g next).yeses (run_on p g next).entries (run_on p g next).graph
unfolding run_on
run_on_rebuild [] g f next e ih h = done e
run_on_rebuild (i ∷ rest) g f next e ih h = more (λ q. cons≢nil (sym e ∙ q)) (ih (step g g.pending).graph (omega arith))

pub run_rebuild : (f : ℕ) (g : Graph) → (run f g).entries < f → Rebuild g (run f g).yeses (run f g).entries (run f g).graph
unfolding run
run_rebuild zero g h = absurd (omega arith)
run_rebuild (suc f) g h = run_on_rebuild g.pending g f (run f) refl (run_rebuild f) h

-- and a rebuild is what the function gives, with any fuel above what is taken
run_on_enough : (p : List ℕ) (g : Graph) (next : Graph → Rebuilt) → g.pending ≡ p → p ≢ [] → run_on p g next ≡ record {
  graph = (next (step g g.pending).graph).graph;
  yeses = from_bool (step g g.pending).answer + (next (step g g.pending).graph).yeses;
  entries = suc (next (step g g.pending).graph).entries;
}
unfolding run_on
run_on_enough [] g next e n = absurd (n refl)
run_on_enough (i ∷ rest) g next e n = refl

pub run_enough : {g h : Graph} {y t : ℕ} → Rebuild g y t h → (f : ℕ) → t < f → run f g ≡ record { graph = h; yeses = y; entries = t }
unfolding run run_on
run_enough (done {g = g} e) zero lt = absurd (omega arith)
run_enough (done {g = g} e) (suc f) lt = rw e
run_enough (more n r) zero lt = absurd (omega arith)
run_enough (more {g = g} n r) (suc f) lt = let ih = run_enough r f (omega arith) in run_on_enough g.pending g (run f) refl n ∙ λ i. record {
  graph = (ih i).graph;
  yeses = from_bool (step g g.pending).answer + (ih i).yeses;
  entries = suc (ih i).entries;
}

-- ---- 5. an entry of a rebuild leaves an unclean graph unclean

close_unclean : (g : Graph) (o : Option ℕ) (i : ℕ) → g.clean ≡ false → (close g o i).graph.clean ≡ false
unfolding close
close_unclean g None i e = e
close_unclean g (Some j) i e = union_unclean g j i

pub step_unclean : (g : Graph) (p : List ℕ) → g.clean ≡ false → (step g p).graph.clean ≡ false
unfolding step
step_unclean g [] e = e
step_unclean g (i ∷ rest) e = close_unclean (taken g i rest) (kept (key_of g i) g.memo) i e
