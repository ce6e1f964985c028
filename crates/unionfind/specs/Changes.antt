-- A forest after one id more, and after two of its roots were joined.
-- Assumes nothing.
use Rattle.std.specs.Prelude.{◌≡◌, ◌≢◌, ◌↔◌, ◌⊎◌, ℕ, zero, suc, ◌+◌, ◌<◌, ◌-◌, length, get_or, set}
use Rattle.std.proofs.Common.{sym, ap, ◌∙◌, inl, inr, ⊎_elim, add-one, arith, length-set, get_or-set_same, get_or-set_other}
use mathlib.Core.List.{List, [], ◌∷◌, ◌++◌, map, filter, filter_congr}
use Rattle.std.proofs.Math.Decide.{ℕ_discrete}
use Rattle.std.proofs.lemmas.List.{length-map}
use Rattle.std.proofs.Math.ListN.{get_or-eq_default}
use Rattle.lists.specs.Reads.{at, get_or_more, get_or_map_or, length_more}
use Rattle.lists.specs.Relabel.{relabel, relabel_hit, relabel_miss, Hit, relabel_cases}
use Rattle.lists.specs.Tests.{when_yes, eq_or}
use Rattle.lists.specs.Keeps.{upto, passes_more, passes_one_less}
use Rattle.unionfind.specs.Words.{walk}
use Rattle.unionfind.specs.Walks.{Ends, walk_root, walk_same}
use Rattle.unionfind.specs.Forest.{Forest, class_count, root_low, walk_ends, parent_of_root, classes_le}

-- ---- one id more

module _ {ps : List ℕ} {N C : ℕ} {R : List ℕ} (F : Forest ps N C R) (fits : N < length ps) where
  new_same : at (set ps N N) N ≡ N
  new_same = get_or-set_same ps N N 0 fits

  new_other : (i : ℕ) → i < N → at (set ps N N) i ≡ at ps i
  new_other i h = get_or-set_other ps N i N 0 (omega arith)

  -- the new id is its own root, as every number past the ids was read to be
  new_root : (i : ℕ) → get_or (R ++ (N ∷ [])) i i ≡ get_or R i i
  new_root i = rw (← F.len) (get_or_more (λ (k : ℕ). k) R i)

  root_past : get_or R N N ≡ N
  root_past = get_or-eq_default R N (omega (arith, F.len))

  new_count : class_count (R ++ (N ∷ [])) (suc N) ≡ suc C
  new_count =
      passes_more (λ (i : ℕ). ℕ_discrete (get_or (R ++ (N ∷ [])) i i) i) N
      ∙ ap (λ (k : ℕ). class_count (R ++ (N ∷ [])) N + k) (when_yes (ℕ_discrete (get_or (R ++ (N ∷ [])) N N) N) 1 0 (new_root N ∙ root_past))
      ∙ omega (arith, F.count, ap length same)
    where
      same : filter (λ (i : ℕ). ℕ_discrete (get_or (R ++ (N ∷ [])) i i) i) (upto N) ≡ filter (λ (i : ℕ). ℕ_discrete (get_or R i i) i) (upto N)
      same =
          filter_congr (λ (i : ℕ). ℕ_discrete (get_or (R ++ (N ∷ [])) i i) i) (λ (i : ℕ). ℕ_discrete (get_or R i i) i) (upto N)
          (λ i m. (λ e. sym (new_root i) ∙ e, λ e. new_root i ∙ e))

  below : (i : ℕ) → i < N + 1 → (i ≡ N) ⊎ (i ≢ N) → (i ≡ N) ⊎ (i < N)
  below i h (inl e) = inl e
  below i h (inr n) = inr (omega arith)

  pub new_forest : Forest (set ps N N) (N + 1) (C + 1) (R ++ (N ∷ []))
  new_forest = record {
    len = length_more R N ∙ omega (arith, F.len);
    room = rw length-set (omega arith);
    inside = λ i h.
        ⊎_elim
        (λ (e : i ≡ N). rw (e, new_same) (omega arith))
        (λ (l : i < N). let k = F.inside i l in rw (new_other i l) (omega arith))
        (below i h (eq_or i N));
    reach = λ i h. rw (links, new_root i) (reached i (below i h (eq_or i N)));
    ends = λ i h. rw (new_root i) (ended i (below i h (eq_or i N)));
    count = rw (add-one C, add-one N) (sym new_count);
  }
    where
      links : N + 1 - (C + 1) ≡ N - C
      links = omega arith

      reached : (i : ℕ) → (i ≡ N) ⊎ (i < N) → walk (set ps N N) (N - C) i ≡ get_or R i i
      reached i (inl e) = rw (e, root_past) (walk_root (set ps N N) (N - C) N new_same)
      reached i (inr l) = walk_same ps (set ps N N) N F.inside new_other (N - C) i l ∙ F.reach i l

      ended : (i : ℕ) → (i ≡ N) ⊎ (i < N) → at (set ps N N) (get_or R i i) ≡ get_or R i i
      ended i (inl e) = rw (e, root_past) new_same
      ended i (inr l) = new_other (get_or R i i) (root_low F i l) ∙ F.ends i l

-- ---- two roots joined: s stays one, l gets s for its parent

module _ {ps : List ℕ} {N C : ℕ} {R : List ℕ} (F : Forest ps N C R) (s l : ℕ) (hs : s < N) (hl : l < N) (apart : s ≢ l) (s_root : get_or R s s ≡ s) (l_root : get_or R l l ≡ l) where
  l_in : l < length ps
  l_in = omega (arith, F.room)

  s_own : at ps s ≡ s
  s_own = parent_of_root F s hs s_root

  joined_other : (i : ℕ) → i ≢ l → at (set ps l s) i ≡ at ps i
  joined_other i n = get_or-set_other ps l i s 0 n

  joined_same : at (set ps l s) l ≡ s
  joined_same = get_or-set_same ps l s 0 l_in

  -- every chain is at most one link longer
  joined_walk : (k i : ℕ) → Ends ps k i → walk (set ps l s) (suc k) i ≡ relabel s l (walk ps k i)
  joined_walk zero i e =
      ⊎_elim
      (λ (w : i ≡ l). rw (w, relabel_hit s l) joined_same)
      (λ (n : i ≢ l). joined_other i n ∙ e ∙ sym (relabel_miss s l i n))
      (eq_or i l)
  joined_walk (suc k) i e = go (eq_or i l) (joined_walk k)
    where
      go : (i ≡ l) ⊎ (i ≢ l) → ((i : ℕ) → Ends ps k i → walk (set ps l s) (suc k) i ≡ relabel s l (walk ps k i))
          → walk (set ps l s) (suc k) (at (set ps l s) i) ≡ relabel s l (walk ps k (at ps i))
      go (inl w) ih =
          let l_own : at ps l ≡ l = parent_of_root F l hl l_root in
          let ew : walk ps k s ≡ s = walk_root ps k s s_own in
          rw (w, joined_same, l_own, walk_root ps k l l_own, relabel_hit s l) (ih s (rw ew s_own) ∙ rw ew (relabel_miss s l s apart))
      go (inr n) ih = rw (joined_other i n) (ih (at ps i) e)

  joined_root : (i : ℕ) → get_or (map (relabel s l) R) i i ≡ relabel s l (get_or R i i)
  joined_root i = get_or_map_or (relabel s l) i R i (λ le. relabel_miss s l i (omega (arith, F.len)))

  -- l is no root any more; every other number is one if it was
  joined_count : class_count R N ≡ suc (class_count (map (relabel s l) R) N)
  joined_count =
      passes_one_less (λ (i : ℕ). ℕ_discrete (get_or R i i) i) (λ (i : ℕ). ℕ_discrete (get_or (map (relabel s l) R) i i) i) l l_root gone same N hl
    where
      gone : get_or (map (relabel s l) R) l l ≢ l
      gone e = apart (sym (relabel_hit s l) ∙ ap (relabel s l) (sym l_root) ∙ sym (joined_root l) ∙ e)

      kept : (i : ℕ) → i ≢ l → get_or R i i ≡ i → get_or (map (relabel s l) R) i i ≡ i
      kept i n e = joined_root i ∙ rw e (relabel_miss s l i n)

      was : (i : ℕ) → i ≢ l → get_or (map (relabel s l) R) i i ≡ i → Hit s l (get_or R i i) → get_or R i i ≡ i
      was i n e (inr h) = sym h.1 ∙ sym (joined_root i) ∙ e
      was i n e (inl h) =
          let si : s ≡ i = sym h.1 ∙ sym (joined_root i) ∙ e in
          absurd (apart (sym s_root ∙ rw si h.0))

      same : (i : ℕ) → i ≢ l → (get_or R i i ≡ i) ↔ (get_or (map (relabel s l) R) i i ≡ i)
      same i n = (kept i n, λ e. was i n e (relabel_cases s l (get_or R i i)))

  pub joined_forest : (D : ℕ) → C ≡ suc D → Forest (set ps l s) N D (map (relabel s l) R)
  joined_forest D one = record {
    len = length-map R (relabel s l) ∙ F.len;
    room = rw length-set F.room;
    inside = λ i h.
        ⊎_elim
        (λ (w : i ≡ l). rw (w, joined_same) hs)
        (λ (n : i ≢ l). rw (joined_other i n) (F.inside i h))
        (eq_or i l);
    reach = λ i h. rw (links, joined_root i) (joined_walk (N - C) i (walk_ends F i h) ∙ ap (relabel s l) (F.reach i h));
    ends = λ i h. rw (joined_root i) (ended i h (relabel_cases s l (get_or R i i)));
    count = omega (arith, F.count, joined_count);
  }
    where
      links : N - D ≡ suc (N - C)
      links = omega (arith, classes_le F)

      ended : (i : ℕ) → i < N → Hit s l (get_or R i i) → at (set ps l s) (relabel s l (get_or R i i)) ≡ relabel s l (get_or R i i)
      ended i h (inl e) = rw e.1 (joined_other s apart ∙ s_own)
      ended i h (inr e) = rw e.1 (joined_other (get_or R i i) e.0 ∙ F.ends i h)
