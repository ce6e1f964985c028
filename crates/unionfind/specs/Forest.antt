-- What words mean as a union-find: the forest of N ids in C classes with the roots R, where R's place i has the root of id i.
-- Chains are short: every id reaches its root within N - C links. The words determine C and R.
-- Assumes nothing.
use Rattle.std.specs.Prelude.{◌≡◌, refl, ◌⊎◌, ℕ, ◌≤◌, ◌<◌, ◌-◌, length, get_or}
use Rattle.std.proofs.Common.{sym, ap, ◌∙◌, inl, inr, arith, ext_get_or}
use mathlib.Core.List.{List, [], filter}
use Rattle.std.proofs.Math.Decide.{ℕ_discrete}
use Rattle.lists.specs.Reads.{at}
use Rattle.lists.specs.Tests.{lt_or}
use Rattle.lists.specs.Keeps.{upto, length_upto, mem_upto, mem_filter, length_filter}
use Rattle.lists.specs.Members.{mem_length}
use Rattle.unionfind.specs.Words.{walk}
use Rattle.unionfind.specs.Walks.{Ends, walk_root, ends_suc, ends_more, walk_inside}
use Rattle.std.proofs.lemmas.List.{get_or_default}

-- how many ids below N are their own root
abbrev pub class_count : List ℕ → ℕ → ℕ
class_count R N = length (filter (λ (i : ℕ). ℕ_discrete (get_or R i i) i) (upto N))

pub record Forest (ps : List ℕ) (N C : ℕ) (R : List ℕ) : Type 0 where
  pub len : length R ≡ N
  pub room : N ≤ length ps
  pub inside : (i : ℕ) → i < N → at ps i < N
  pub reach : (i : ℕ) → i < N → walk ps (N - C) i ≡ get_or R i i
  pub ends : (i : ℕ) → i < N → at ps (get_or R i i) ≡ get_or R i i
  pub count : C ≡ class_count R N

-- no ids, on any words
pub forest_none : (ps : List ℕ) → Forest ps 0 0 []
unfolding upto
forest_none ps = record {
  len = refl;
  room = omega arith;
  inside = λ i h. absurd (omega arith);
  reach = λ i h. absurd (omega arith);
  ends = λ i h. absurd (omega arith);
  count = refl;
}

module _ {ps : List ℕ} {N C : ℕ} {R : List ℕ} (F : Forest ps N C R) where
  pub root_low : (i : ℕ) → i < N → get_or R i i < N
  root_low i h = rw (← F.reach i h) (walk_inside ps N F.inside (N - C) i h)

  pub walk_ends : (i : ℕ) → i < N → Ends ps (N - C) i
  walk_ends i h = rw (F.reach i h) (F.ends i h)

  -- an id and its parent have one root
  pub root_parent : (i : ℕ) → i < N → get_or R (at ps i) (at ps i) ≡ get_or R i i
  root_parent i h = sym (F.reach (at ps i) (F.inside i h)) ∙ ends_suc ps (N - C) i (walk_ends i h) ∙ F.reach i h

  -- the roots are the ids that are their own parents
  pub root_of_parent : (i : ℕ) → i < N → at ps i ≡ i → get_or R i i ≡ i
  root_of_parent i h e = sym (F.reach i h) ∙ walk_root ps (N - C) i e

  pub parent_of_root : (i : ℕ) → i < N → get_or R i i ≡ i → at ps i ≡ i
  parent_of_root i h e = rw e at (F.ends i h)

  pub root_root : (i : ℕ) → i < N → get_or R (get_or R i i) (get_or R i i) ≡ get_or R i i
  root_root i h = root_of_parent (get_or R i i) (root_low i h) (F.ends i h)

  pub classes_le : C ≤ N
  classes_le = omega (arith, F.count, length_filter (λ (i : ℕ). ℕ_discrete (get_or R i i) i) (upto N), length_upto N)

  -- where there is an id, there is a class
  pub classes_some : (i : ℕ) → i < N → 0 < C
  classes_some i h =
      rw F.count
      (mem_length (mem_filter (λ (j : ℕ). ℕ_discrete (get_or R j j) j) (upto N) (mem_upto N (get_or R i i) (root_low i h)) (root_root i h)))

-- the words determine how many classes there are, and the root of each id
pub determined : {ps : List ℕ} {N C D : ℕ} {R S : List ℕ} → Forest ps N C R → Forest ps N D S → (C ≡ D) × (R ≡ S)
determined {ps} {N} {C} {D} {R} {S} F G = (F.count ∙ ap (λ (l : List ℕ). class_count l N) lists ∙ sym G.count, lists)
  where
    one_walk : (i : ℕ) → i < N → (N - C < N - D) ⊎ (N - D ≤ N - C) → walk ps (N - C) i ≡ walk ps (N - D) i
    one_walk i h (inl l) = sym (ends_more ps (N - D) (N - C) i (omega arith) (walk_ends F i h))
    one_walk i h (inr l) = ends_more ps (N - C) (N - D) i l (walk_ends G i h)

    one_root : (i : ℕ) → i < N → get_or R i i ≡ get_or S i i
    one_root i h = sym (F.reach i h) ∙ one_walk i h (lt_or (N - C) (N - D)) ∙ G.reach i h

    lists : R ≡ S
    lists = ext_get_or 0 R S (F.len ∙ sym G.len) (λ i h. go i h (rw F.len at h) (rw (F.len ∙ sym G.len) at h))
      where
        go : (i : ℕ) → i < length R → i < N → i < length S → at R i ≡ at S i
        go i h n k = get_or_default R i 0 i h ∙ one_root i n ∙ get_or_default S i i 0 k
