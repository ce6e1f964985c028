-- A rebuild ends: a number falls at each entry that it takes.
-- Assumes nothing.
use Rattle.std.specs.Prelude.{true, ◌≢◌, ◌≡◌, refl, ◌*◌, ◌+◌, ◌<◌, ◌≤◌, suc, zero, ℕ, length}
use mathlib.Core.List.{List, [], ◌∷◌, cons≢nil, map, reverse}
use Rattle.std.proofs.Common.{◌∙◌, ap, sym, mul-le-mul_right, arith, length-append}
use Rattle.std.proofs.Math.Decide.{ℕ_discrete}
use Rattle.std.proofs.lemmas.List.{length-reverse}
use Rattle.lists.specs.Keeps.{filter_lt, mem_upto, upto}
use Rattle.lists.specs.Relabel.{relabel, relabel_hit}
use Rattle.steps.specs.Classes.{number_of_classes}
use Rattle.steps.specs.Forced.{Made}
use Rattle.steps.specs.Graph.{Graph, ids, root, uses}
use Rattle.steps.specs.Machine.{Rebuild, done, marked, merge, more, step}
use Rattle.closure.specs.Facts.{root_before, root_relabel}
use Rattle.closure.specs.Induct.{step_keeps}
use Rattle.closure.specs.Invariant.{Good, Same, Shape}
use Rattle.closure.specs.Kept.{made_good}
use Rattle.closure.specs.Sums.{sizes, sizes_hung, uses_size}
use Rattle.closure.specs.Taking.{step_good}
use Rattle.std.specs.Int.{from_bool}

-- ---- a merge leaves a class less

merge_falls : (g : Graph) (s l : ℕ) → length g.roots ≡ ids g → s ≢ l → l < ids g → root g.roots s ≡ s → root g.roots l ≡ l → number_of_classes (merge g s l) < number_of_classes g
unfolding merge
merge_falls g s l rl apart l_lt s_root l_root =
    filter_lt (λ (i : ℕ). ℕ_discrete (root g.roots i) i) (λ (i : ℕ). ℕ_discrete (root (map (relabel s l) g.roots) i) i)
    (root_before g.roots s l l_in s_root) (upto (ids g)) (mem_upto (ids g) l l_lt) l_root gone
  where
    l_in : l < length g.roots
    l_in = omega arith

    gone : root (map (relabel s l) g.roots) l ≢ l
    gone e = apart (sym (relabel_hit s l) ∙ (ap (relabel s l) (sym l_root) ∙ (sym (root_relabel g.roots s l l_in l) ∙ e)))

-- ---- the number that falls: also the measure of a loop

abbrev pub measure : Graph → ℕ
measure g = length g.pending + number_of_classes g * sizes g.parents

merge_measure : (g : Graph) (s l : ℕ) → Shape g.nodes g.roots g.parents g.pending → s ≢ l → s < ids g → l < ids g → root g.roots s ≡ s → root g.roots l ≡ l
    → measure (merge g s l) ≤ measure g
unfolding merge
merge_measure g s l S apart s_lt l_lt s_root l_root = rw same_sizes (omega (
  arith,
  length-append (reverse (uses g.parents l)) g.pending,
  length-reverse (uses g.parents l),
  uses_size g.parents l,
  mul-le-mul_right (sizes g.parents) (merge_falls g s l S.rl apart l_lt s_root l_root),
))
  where
    same_sizes : sizes (merge g s l).parents ≡ sizes g.parents
    same_sizes = sizes_hung g.parents s l apart (omega (arith, S.pl)) (omega (arith, S.pl))

pub step_measure : (us : List (ℕ × ℕ)) (g : Graph) (p : List ℕ) → g.pending ≡ p → p ≢ [] → Good Same us g → measure (step g p).graph < measure g
step_measure us g p e n G = omega (
  arith,
  step_keeps (λ c k. c + measure k ≤ measure g) (record {
    at_mark = λ c k h. h;
    at_end = λ c k e h. h;
    at_merge = λ c k s l J h. omega (arith, merge_measure k s l J.shape J.apart J.s_lt J.l_lt J.s_root J.l_root);
    at_take = λ us c k i rest K top h. omega (arith, ap length top);
  }) us 0 g p e n G (omega arith),
)

-- ---- so it ends

Ends : Graph → Type 0
Ends g = (y : ℕ) × (t : ℕ) × (h : Graph) × Rebuild g y t h

ends_by : (us : List (ℕ × ℕ)) (n : ℕ) (g : Graph) → Good Same us g → measure g < n → Ends g
unfolding Ends
ends_by us zero g G h = absurd (omega arith)
ends_by us (suc n) g G h = go g.pending refl (λ k K lt. ends_by us n k K lt)
  where
    go : (p : List ℕ) → g.pending ≡ p → ((k : Graph) → Good Same us k → measure k < n → Ends k) → Ends g
    go [] e ih = (0, 0, marked g true, done e)
    go (i ∷ rest) e ih =
        let full : g.pending ≢ [] = λ q. cons≢nil (sym e ∙ q) in
        let r = ih (step g g.pending).graph (step_good us g g.pending refl G) (omega (arith, step_measure us g g.pending refl full G)) in
        (from_bool (step g g.pending).answer + r.0, suc r.1, r.2, more full r.3)

-- from any graph with the invariant
pub rebuild_ends : {us : List (ℕ × ℕ)} {g : Graph} → Good Same us g → (y : ℕ) × (t : ℕ) × (h : Graph) × Rebuild g y t h
unfolding Ends
rebuild_ends {us} {g} G = ends_by us (suc (measure g)) g G (omega arith)

pub ends : {us : List (ℕ × ℕ)} {g : Graph} → Made us g → (y : ℕ) × (t : ℕ) × (h : Graph) × Rebuild g y t h
ends M = rebuild_ends (made_good M)
