-- Two runs made one: nothing is to do where the second starts where the first ends and comes after it; else they are merged, and the merge is copied back.
-- Assumes nothing.
use Rattle.std.specs.Prelude.{List, [], ◌++◌, ◌∷◌, ◌≡◌, refl, ◌+◌, ◌-◌, ◌<◌, ◌≤◌, ℕ, length}
use Rattle.std.proofs.Common.{◌∙◌, subst, sym, arith}
use Rattle.lists.specs.Reads.{at}
use Rattle.rows.specs.Rows.{size}
use Rattle.sorting.specs.Arranged.{Arranged, Merged, Rising, arranged_join, in_order}
use Rattle.sorting.specs.Ids.{Below, below_from, below_part, below_same, by, by_lawful, by_same}
use Rattle.sorting.specs.Merge.{Merges}
use Rattle.sorting.specs.Run.{Area, Kept, Ran, kept_same}
use Rattle.sorting.specs.Stretch.{stretch, stretch_first, stretch_join, stretch_moved, stretch_one, stretch_same, words}
use Rattle.sorting.specs.declared.Stretch.{Stretch}
use Rattle.std.specs.List.{CopiedTo, SameBelow, SameFrom}
use Rattle.std.specs.declared.cmp.Ordering.TheVariants.{Less}

-- two stretches of ids, and as many words to work in n further on
pub record Near (ws : List ℕ) (n m : ℕ) (l r : Stretch) : Type 0 where
  pub front : size n m ≤ l.start
  pub ordered : l.start + l.len ≤ r.start
  pub below : r.start + r.len ≤ l.start + n
  pub room : l.start + n + (l.len + r.len) ≤ length ws
  pub left_ids : Below ws n l.start l.len
  pub right_ids : Below ws n r.start r.len

-- the second run starts where the first, which comes before it, ends
pub record Meet (ws : List ℕ) (n m : ℕ) (l r : Stretch) : Type 0 where
  pub touch : l.start + l.len ≡ r.start
  pub some_left : 0 < l.len
  pub some_right : 0 < r.len
  pub comes : by ws n m (at ws (r.start - 1)) (at ws r.start) ≡ Less

-- d ids are left of both: their merge, if the first run is ascending
pub record Joins (ws ws' : List ℕ) (n m : ℕ) (l r : Stretch) (d : ℕ) : Type 0 where
  pub few : d ≤ l.len + r.len
  pub kept : Kept ws ws' n l.start (l.len + r.len)
  pub merged : Rising (by ws n m) (words ws l) → Merged (by ws n m) (words ws l) (words ws r) (stretch ws' l.start d)

pub joins_ready : (ws : List ℕ) (n m : ℕ) (l r : Stretch) → Meet ws n m l r → Joins ws ws n m l r (l.len + r.len)
joins_ready ws n m l r M = record { few = omega arith; kept = kept_same ws n l.start (l.len + r.len); merged = λ s. all s }
  where
    front : words ws l ≡ stretch ws l.start (l.len - 1) ++ (at ws (r.start - 1) ∷ [])
    front =
        let e : l.len ≡ l.len - 1 + 1 = omega (arith, M.some_left) in
        let f : l.start + (l.len - 1) ≡ r.start - 1 = omega (arith, M.some_left, M.touch) in
        subst (λ (k : ℕ). stretch ws l.start k ≡ stretch ws l.start (l.len - 1) ++ (at ws (r.start - 1) ∷ [])) (sym e)
        (rw (stretch_join ws l.start (l.len - 1) 1, f, stretch_one ws (r.start - 1)) refl)

    all : Rising (by ws n m) (words ws l) → Merged (by ws n m) (words ws l) (words ws r) (stretch ws l.start (l.len + r.len))
    all s =
        let j : stretch ws l.start (l.len + r.len) ≡ words ws l ++ words ws r = rw M.touch at (stretch_join ws l.start l.len r.len) in
        rw (j, front, stretch_first ws r.start r.len M.some_right)
        (in_order (by_lawful ws n m) (stretch ws l.start (l.len - 1)) (at ws (r.start - 1)) (at ws r.start) (stretch ws (r.start + 1) (r.len - 1))
        (rw front at s).ascending M.comes)

-- us after the merge, vs after the copy
pub joins_merged : (ws us vs : List ℕ) (n m : ℕ) (l r : Stretch) (d : ℕ) → Near ws n m l r → Merges ws us n m l r (l.start + n) d
    → length vs ≡ length us → CopiedTo us vs (l.start + n) l.start d × SameBelow us vs l.start × SameFrom us vs (l.start + d) → Joins ws vs n m l r d
joins_merged ws us vs n m l r d N M e C = record {
  few = M.few;
  kept = record {
    kept_length = e ∙ M.only.kept_length;
    before = λ j p. C.1 j 0 p ∙ M.only.before j (omega arith);
    between = λ j p q. C.2 j 0 (omega (arith, M.few)) ∙ M.only.before j q;
  };
  merged = λ s. rw copied M.merged;
}
  where
    copied : stretch vs l.start d ≡ stretch us (l.start + n) d
    copied = stretch_moved vs us l.start (l.start + n) d (λ p h.
        let k : l.start + p - l.start ≡ p = omega arith in
        rw k at (C.0 (l.start + p) 0 (omega arith) (omega arith)))

-- ---- the first of two runs

pub run_first : (ws : List ℕ) (n m lo k h : ℕ) → Area ws n m lo k → h ≤ k → Area ws n m lo h
run_first ws n m lo k h A l = record {
  front = A.front;
  half = omega (arith, A.half);
  room = omega (arith, A.room);
  ids = below_part ws n lo k A.ids lo h (omega arith) (omega arith);
}

-- ---- two runs sorted one after the other, of h ids at lo (w1) and of g ids behind them (w2), and then made one (w3)

module _ (ws w1 : List ℕ) (n m lo k h g a : ℕ) (A : Area ws n m lo k) (e : h + g ≡ k) (R : Ran ws w1 n m lo h a) where
  by_one : by w1 n m ≡ by ws n m
  by_one = by_same w1 ws n m lo A.front R.kept.kept_length R.kept.before

  right_waits : (j : ℕ) → lo + h ≤ j → j < lo + h + g → at w1 j ≡ at ws j
  right_waits j p q = R.kept.between j p (omega (arith, A.half))

  pub run_second : Area w1 n m (lo + h) g
  run_second = record {
    front = omega (arith, A.front);
    half = omega (arith, A.half);
    room = omega (arith, A.room, R.kept.kept_length);
    ids = below_same ws n (lo + h) g (below_part ws n lo k A.ids (lo + h) g (omega arith) (omega arith)) w1 right_waits;
  }

  module _ (w2 : List ℕ) (b : ℕ) (S : Ran w1 w2 n m (lo + h) g b) where
    left_stays : (j : ℕ) → lo ≤ j → j < lo + a → at w2 j ≡ at w1 j
    left_stays j p q = S.kept.before j (omega (arith, R.few))

    pub run_near : Near w2 n m (record { start = lo; len = a }) (record { start = lo + h; len = b })
    run_near = record {
      front = A.front;
      ordered = omega (arith, R.few);
      below = omega (arith, S.few, A.half);
      room = omega (arith, R.few, S.few, A.room, R.kept.kept_length, S.kept.kept_length);
      left_ids = below_same w1 n lo a (below_from ws n lo h (run_first ws n m lo k h A (omega arith)).ids w1 lo a R.arranged.from) w2 left_stays;
      right_ids = below_from w1 n (lo + h) g run_second.ids w2 (lo + h) b S.arranged.from;
    }

    module _ (w3 : List ℕ) (d : ℕ) (J : Joins w2 w3 n m (record { start = lo; len = a }) (record { start = lo + h; len = b }) d) where
      few_all : a + b ≤ k
      few_all = omega (arith, R.few, S.few)

      run_kept : Kept ws w3 n lo k
      run_kept = record {
        kept_length = J.kept.kept_length ∙ S.kept.kept_length ∙ R.kept.kept_length;
        before = λ j p. J.kept.before j p ∙ S.kept.before j (omega arith) ∙ R.kept.before j p;
        between = λ j p q. J.kept.between j (omega (arith, few_all)) q ∙ S.kept.between j (omega arith) (omega arith) ∙ R.kept.between j (omega arith) q;
      }

      run_arranged : Arranged (by ws n m) (stretch ws lo k) (stretch w3 lo d)
      run_arranged =
          let by_two : by w2 n m ≡ by ws n m = by_same w2 w1 n m (lo + h) (omega (arith, A.front)) S.kept.kept_length S.kept.before ∙ by_one in
          let l : stretch w1 lo a ≡ stretch w2 lo a = sym (stretch_same w2 w1 lo a left_stays) in
          let w : stretch w1 (lo + h) g ≡ stretch ws (lo + h) g = stretch_same w1 ws (lo + h) g right_waits in
          let s : Arranged (by ws n m) (stretch ws lo h) (stretch w2 lo a) = rw l at R.arranged in
          let t : Arranged (by ws n m) (stretch ws (lo + h) g) (stretch w2 (lo + h) b) = rw (by_one, w) at S.arranged in
          let u : Merged (by ws n m) (stretch w2 lo a) (stretch w2 (lo + h) b) (stretch w3 lo d) = (rw by_two at J.merged) s.rising in
          rw (← e, stretch_join ws lo h g) (arranged_join (by_lawful ws n m) _ _ _ _ _ s t u)

      pub run_join : Ran ws w3 n m lo k d
      run_join = record { few = omega (arith, J.few, few_all); kept = run_kept; arranged = run_arranged }
