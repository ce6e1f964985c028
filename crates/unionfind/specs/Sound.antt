-- On a forest `find` answers the root of the id, and `find_mut` too, and leaves a forest with the same roots.
-- Assumes nothing.
use Rattle.std.specs.Prelude.{Ok, ◌≡◌, ◌≢◌, List, ℕ, zero, suc, ◌<◌, ◌-◌, length, get_or, set}
use Rattle.broken.specs.Words.{broken}
use Rattle.std.proofs.Common.{sym, ap, ◌∙◌, ⊎_elim, arith, length-set, get_or-set_same, get_or-set_other}
use Rattle.std.proofs.Math.Decide.{ℕ_discrete, dec_lt}
use Rattle.lists.specs.Reads.{at}
use Rattle.lists.specs.Tests.{when, eq_or}
use Rattle.unionfind.specs.Words.{walk, find_in, halve, Halved}
use Rattle.unionfind.specs.Walks.{Ends, ends_suc, halved_root, halved_walk}
use Rattle.unionfind.specs.Forest.{Forest, walk_ends, root_parent, root_of_parent, classes_le, classes_some}

-- ---- find

-- links to follow that are more than lead to the root suffice
find_walk : {ps : List ℕ} {N C : ℕ} {R : List ℕ} → Forest ps N C R → (f k i : ℕ) → k < f → i < N → Ends ps k i → find_in ps N f i ≡ Ok (get_or R i i)
unfolding find_in
find_walk F zero k i hk h e = absurd (omega arith)
find_walk {ps} {N} {C} {R} F (suc f) k i hk h e = go (ℕ_discrete (at ps i) i) (dec_lt (at ps i) N) (find_walk F f)
  where
    IH : Type 0
    IH = (k i : ℕ) → k < f → i < N → Ends ps k i → find_in ps N f i ≡ Ok (get_or R i i)

    down : (k : ℕ) → k < suc f → Ends ps k i → at ps i ≢ i → IH → find_in ps N f (at ps i) ≡ Ok (get_or R i i)
    down zero hk e n ih = absurd (n e)
    down (suc k) hk e n ih = ih k (at ps i) (omega arith) (F.inside i h) e ∙ ap Ok (root_parent F i h)

    go : (d : Dec (at ps i ≡ i)) (l : Dec (at ps i < N)) → IH → when d (Ok i) (when l (find_in ps N f (at ps i)) broken) ≡ Ok (get_or R i i)
    go (yes w) l ih = ap Ok (sym (root_of_parent F i h w))
    go (no n) (yes l) ih = down k hk e n ih
    go (no n) (no l) ih = absurd (l (F.inside i h))

pub find_sound : {ps : List ℕ} {N C : ℕ} {R : List ℕ} → Forest ps N C R → (i : ℕ) → i < N → find_in ps N N i ≡ Ok (get_or R i i)
find_sound {N = N} {C = C} F i h = find_walk F N (N - C) i (omega (arith, classes_some F i h, classes_le F)) h (walk_ends F i h)

-- ---- find_mut

-- an id may be given its grandparent
halved_forest : {ps : List ℕ} {N C : ℕ} {R : List ℕ} → Forest ps N C R → (x : ℕ) → x < N → Forest (set ps x (at ps (at ps x))) N C R
halved_forest {ps} {N} {C} {R} F x hx =
    let hl : x < length ps = omega (arith, F.room) in
    record {
      len = F.len;
      room = rw length-set F.room;
      inside = λ i h.
          ⊎_elim
          (λ (w : i ≡ x). rw (w, get_or-set_same ps x (at ps (at ps x)) 0 hl) (F.inside (at ps x) (F.inside x hx)))
          (λ (w : i ≢ x). rw (get_or-set_other ps x i (at ps (at ps x)) 0 w) (F.inside i h))
          (eq_or i x);
      reach = λ i h. halved_walk ps x hl (N - C) i (walk_ends F i h) ∙ F.reach i h;
      ends = λ i h. halved_root ps x hl (get_or R i i) (F.ends i h);
      count = F.count;
    }

pub record Mended (N C : ℕ) (R : List ℕ) (i : ℕ) (o : Halved) : Type 0 where
  pub answers : o.answer ≡ Ok (get_or R i i)
  pub keeps : Forest o.left N C R

halve_walk : (f : ℕ) (ps : List ℕ) (N C : ℕ) (R : List ℕ) → Forest ps N C R → (k i : ℕ) → k < f → i < N → Ends ps k i → Mended N C R i (halve ps N f i)
unfolding halve
halve_walk zero ps N C R F k i hk h e = absurd (omega arith)
halve_walk (suc f) ps N C R F k i hk h e = go (ℕ_discrete (at ps i) i) (dec_lt (at ps i) N) (dec_lt (at ps (at ps i)) N) (halve_walk f)
  where
    IH : Type 0
    IH = (ps : List ℕ) (N C : ℕ) (R : List ℕ) → Forest ps N C R → (k i : ℕ) → k < f → i < N → Ends ps k i → Mended N C R i (halve ps N f i)

    g : ℕ
    g = at ps (at ps i)

    lost : Halved
    lost = record { answer = broken; left = ps }

    hl : i < length ps
    hl = omega (arith, F.room)

    down : (k : ℕ) → k < suc f → Ends ps k i → at ps i ≢ i → IH → Mended N C R i (halve (set ps i g) N f g)
    down zero hk e n ih = absurd (n e)
    down (suc k) hk e n ih =
        let eg : walk ps k g ≡ walk ps k (at ps i) = ends_suc ps k (at ps i) e in
        let en : Ends ps k g = rw eg e in
        let ew : walk (set ps i g) k g ≡ walk ps k g = halved_walk ps i hl k g en in
        let m = ih (set ps i g) N C R (halved_forest F i h) k g (omega arith) (F.inside _ (F.inside i h)) (rw ew (halved_root ps i hl (walk ps k g) en)) in
        record {
          answers = m.answers ∙ ap Ok (root_parent F _ (F.inside i h) ∙ root_parent F i h);
          keeps = m.keeps;
        }

    go : (d : Dec (at ps i ≡ i)) (l : Dec (at ps i < N)) (m : Dec (g < N)) → IH
        → Mended N C R i (when d (record { answer = Ok i; left = ps }) (when l (when m (halve (set ps i g) N f g) lost) lost))
    go (yes w) l m ih = record { answers = ap Ok (sym (root_of_parent F i h w)); keeps = F }
    go (no n) (yes l) (yes m) ih = down k hk e n ih
    go (no n) (yes l) (no m) ih = absurd (m (F.inside _ (F.inside i h)))
    go (no n) (no l) m ih = absurd (l (F.inside i h))

pub halve_sound : {ps : List ℕ} {N C : ℕ} {R : List ℕ} → Forest ps N C R → (i : ℕ) → i < N → Mended N C R i (halve ps N N i)
halve_sound {ps} {N} {C} {R} F i h =
    halve_walk N ps N C R F (N - C) i (omega (arith, classes_some F i h, classes_le F)) h (walk_ends F i h)
