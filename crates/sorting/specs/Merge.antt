-- A merge of two stretches into words behind them. The loop's invariant is a continuation: whatever the rest merges to,
-- what is written so far followed by it is the merge of the whole.
-- Assumes nothing.
use Rattle.std.specs.Prelude.{List, [], ◌++◌, ◌∷◌, ◌≡◌, refl, ◌+◌, ◌<◌, ◌≤◌, ℕ, length, set}
use Rattle.std.proofs.Common.{append-nil, ◌∙◌, arith, get_or-set_other}
use Rattle.lists.specs.Reads.{at}
use Rattle.rows.specs.Rows.{size}
use Rattle.sorting.specs.Arranged.{Merged, none}
use Rattle.sorting.specs.Ids.{Below, below_part, below_same, by, by_same}
use Rattle.sorting.specs.Stretch.{Only, only_more, only_none, stretch, stretch_more, stretch_none, stretch_same, words}
use Rattle.sorting.specs.Turn.{Shorter, Turned}
use Rattle.sorting.specs.declared.Stretch.{Stretch}
use Rattle.sorting.specs.declared.Turn.{Turn}

-- two stretches of ids, and behind both the words from `to` on, as many as may be written
pub record Beside (ws : List ℕ) (n m : ℕ) (l r : Stretch) (to : ℕ) : Type 0 where
  pub front : size n m ≤ to
  pub ordered : l.start + l.len ≤ r.start
  pub below : r.start + r.len ≤ to
  pub room : to + (l.len + r.len) ≤ length ws
  pub left_ids : Below ws n l.start l.len
  pub right_ids : Below ws n r.start r.len

-- d words were written, the merge of the two
pub record Merges (ws ws' : List ℕ) (n m : ℕ) (l r : Stretch) (to d : ℕ) : Type 0 where
  pub few : d ≤ l.len + r.len
  pub only : Only ws ws' to d
  pub merged : Merged (by ws n m) (words ws l) (words ws r) (stretch ws' to d)

-- d words are written, and of l and r the stretches s and t are left
pub record Going (ws us : List ℕ) (n m : ℕ) (l r : Stretch) (to : ℕ) (s t : Stretch) (d : ℕ) : Type 0 where
  pub left_end : s.start + s.len ≡ l.start + l.len
  pub right_end : t.start + t.len ≡ r.start + r.len
  pub left_less : s.len ≤ l.len
  pub right_less : t.len ≤ r.len
  pub few : d + (s.len + t.len) ≤ l.len + r.len
  pub only : Only ws us to d
  pub rest : (zs : List ℕ) → Merged (by ws n m) (words us s) (words us t) zs → Merged (by ws n m) (words ws l) (words ws r) (stretch us to d ++ zs)

pub going_start : (ws : List ℕ) (n m : ℕ) (l r : Stretch) (to : ℕ) → Going ws ws n m l r to l r 0
unfolding stretch
going_start ws n m l r to = record {
  left_end = refl;
  right_end = refl;
  left_less = omega arith;
  right_less = omega arith;
  few = omega arith;
  only = only_none ws to;
  rest = λ zs e. e;
}

module _ (ws us : List ℕ) (n m : ℕ) (l r : Stretch) (to : ℕ) (s t : Stretch) (d : ℕ) (B : Beside ws n m l r to) (G : Going ws us n m l r to s t d) where
  -- what is left are ids still
  pub going_left : Below us n s.start s.len
  going_left =
      below_same ws n s.start s.len
      (below_part ws n l.start l.len B.left_ids s.start s.len (omega (arith, G.left_end, G.left_less)) (omega (arith, G.left_end))) us
      (λ k h₁ h₂. G.only.before k (omega (arith, G.left_end, B.ordered, B.below)))

  pub going_right : Below us n t.start t.len
  going_right =
      below_same ws n t.start t.len
      (below_part ws n r.start r.len B.right_ids t.start t.len (omega (arith, G.right_end, G.right_less)) (omega (arith, G.right_end))) us
      (λ k h₁ h₂. G.only.before k (omega (arith, G.right_end, B.below)))

  pub going_turn : (u : Turn) → Shorter s t u → Turned us n m s t u → Going ws (set us (to + d) (at us u.from)) n m l r to u.rest.left u.rest.right (d + 1)
  going_turn u S T = record {
    left_end = S.left_end ∙ G.left_end;
    right_end = S.right_end ∙ G.right_end;
    left_less = omega (arith, S.left_less, G.left_less);
    right_less = omega (arith, S.right_less, G.right_less);
    few = omega (arith, S.fewer, G.few);
    only = only_more ws us to d (to + d) v refl G.only;
    rest = λ zs e. rw (stretch_more us zs to d (to + d) v refl fits) (G.rest (v ∷ zs) (then zs (rw (l_same, r_same) at e)));
  }
    where
      v : ℕ
      v = at us u.from

      fits : to + d < length us
      fits = omega (arith, S.fewer, G.few, B.room, G.only.kept_length)

      l_same : words (set us (to + d) v) u.rest.left ≡ words us u.rest.left
      l_same = stretch_same _ _ _ _ (λ k h₁ h₂. get_or-set_other us (to + d) k v 0 (omega (arith, S.left_end, G.left_end, B.ordered, B.below)))

      r_same : words (set us (to + d) v) u.rest.right ≡ words us u.rest.right
      r_same = stretch_same _ _ _ _ (λ k h₁ h₂. get_or-set_other us (to + d) k v 0 (omega (arith, S.right_end, G.right_end, B.below)))

      then : (zs : List ℕ) → Merged (by ws n m) (words us u.rest.left) (words us u.rest.right) zs → Merged (by ws n m) (words us s) (words us t) (v ∷ zs)
      then zs = rw (by_same us ws n m to B.front G.only.kept_length G.only.before) at (T.step zs)

pub going_end : (ws us : List ℕ) (n m : ℕ) (l r : Stretch) (to : ℕ) (s t : Stretch) (d : ℕ) → s.len + t.len ≡ 0 → Going ws us n m l r to s t d
    → Merges ws us n m l r to d
going_end ws us n m l r to s t d e G = record {
  few = omega (arith, G.few);
  only = G.only;
  merged = rw append-nil at (G.rest [] (rw (stretch_none us s.start s.len (omega arith), stretch_none us t.start t.len (omega arith)) none));
}
