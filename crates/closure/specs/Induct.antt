-- To prove something of every graph that calls make, show that six plain changes keep it. The number c counts the entries that rebuilds took so far.
-- Assumes nothing.
use Rattle.std.specs.Prelude.{false, true, ◌≢◌, ◌≡◌, ◌+◌, ◌<◌, ◌≤◌, suc, ℕ, length, Option, None, Some}
use mathlib.Core.List.{List, [], ◌∷◌}
use Rattle.std.proofs.Math.Path.{refl}
use Rattle.std.proofs.Common.{subst, sym}
use Rattle.std.proofs.Math.Decide.{dec_lt, ℕ_discrete}
use native.Mathlib.Omega.{arith}
use Rattle.lists.specs.Members.{Mem}
use Rattle.language.specs.Term.{Term}
use Rattle.steps.specs.Forced.{Made, added, joined, rebuilt, start}
use Rattle.steps.specs.Graph.{Graph, canon, ids, kept, key_of, root, uses}
use Rattle.steps.specs.Machine.{Rebuild, add, add_by, add_uncanonical, close, done, fresh, grow, marked, merge, more, step, taken, union, union_by}
use Rattle.closure.specs.Invariant.{Good, Same, Shape}
use Rattle.closure.specs.Kept.{made_good}
use Rattle.closure.specs.Taking.{step_good, taken_shape, top_lt}

-- the entries that all the rebuilds took
unfoldable pub took : {us : List (ℕ × ℕ)} {g : Graph} → Made us g → ℕ
took start = 0
took (added x k M) = took M
took (joined i j a b M) = took M
took (rebuilt {t = t} r M) = t + took M

-- s stays and l loses
pub record Merging (g : Graph) (s l : ℕ) : Type 0 where
  pub shape : Shape g.nodes g.roots g.parents g.pending
  pub apart : s ≢ l
  pub s_lt : s < ids g
  pub l_lt : l < ids g
  pub s_root : root g.roots s ≡ s
  pub l_root : root g.roots l ≡ l
  pub short : length (uses g.parents l) ≤ length (uses g.parents s)

-- what a union and a rebuild are made of
pub record Steps (P : ℕ → Graph → Type 0) : Type 0 where
  pub at_mark : (c : ℕ) (g : Graph) → P c g → P c (marked g false)
  pub at_merge : (c : ℕ) (g : Graph) (s l : ℕ) → Merging g s l → P c g → P c (merge g s l)
  pub at_take : (us : List (ℕ × ℕ)) (c : ℕ) (g : Graph) (i : ℕ) (rest : List ℕ) → Good Same us g → g.pending ≡ i ∷ rest → P c g → P (suc c) (taken g i rest)
  pub at_end : (c : ℕ) (g : Graph) → g.pending ≡ [] → P c g → P c (marked g true)

pub record Keeps (P : ℕ → Graph → Type 0) : Type 0 where
  pub steps : Steps P
  pub at_fresh : P 0 fresh
  pub at_grow : (us : List (ℕ × ℕ)) (c : ℕ) (g : Graph) (x : Term) → Good Same us g → ((k : ℕ) → Mem k x.kids → k < ids g) → kept (canon g.roots x) g.memo ≡ None
      → P c g → P c (grow g x)

module _ (P : ℕ → Graph → Type 0) (K : Steps P) where
  union_by_keeps : (c : ℕ) (g : Graph) (a b : ℕ) → Shape g.nodes g.roots g.parents g.pending → a < ids g → b < ids g → root g.roots a ≡ a → root g.roots b ≡ b
      → (d : Dec (a ≡ b)) (e : Dec (length (uses g.parents a) < length (uses g.parents b))) → P c g → P c (union_by g a b d e).graph
  unfolding union_by
  union_by_keeps c g a b S a_lt b_lt a_root b_root (yes q) e p = K.at_mark c g p
  union_by_keeps c g a b S a_lt b_lt a_root b_root (no n) (no m) p =
      K.at_merge c g a b (record { shape = S; apart = n; s_lt = a_lt; l_lt = b_lt; s_root = a_root; l_root = b_root; short = omega arith }) p
  union_by_keeps c g a b S a_lt b_lt a_root b_root (no n) (yes m) p =
      K.at_merge c g b a (record { shape = S; apart = λ e. n (sym e); s_lt = b_lt; l_lt = a_lt; s_root = b_root; l_root = a_root; short = omega arith }) p

  union_keeps : (c : ℕ) (g : Graph) (i j : ℕ) → Shape g.nodes g.roots g.parents g.pending → i < ids g → j < ids g → P c g → P c (union g i j).graph
  unfolding union
  union_keeps c g i j S i_lt j_lt p = union_by_keeps c g (root g.roots i) (root g.roots j) S (S.root_lt i i_lt) (S.root_lt j j_lt) (S.root_root i) (S.root_root j)
      (ℕ_discrete (root g.roots i) (root g.roots j)) (dec_lt (length (uses g.parents (root g.roots i))) (length (uses g.parents (root g.roots j)))) p

  close_keeps : (us : List (ℕ × ℕ)) (c : ℕ) (g : Graph) (i : ℕ) (rest : List ℕ) → Good Same us g → g.pending ≡ i ∷ rest
      → (o : Option ℕ) → kept (key_of g i) g.memo ≡ o → P c g → P (suc c) (close (taken g i rest) o i).graph
  unfolding close
  close_keeps us c g i rest G top None e p = K.at_take us c g i rest G top p
  close_keeps us c g i rest G top (Some o) e p =
      union_keeps (suc c) (taken g i rest) o i (taken_shape us g i rest G top) (G.sound.memo_lt (key_of g i) o e) (top_lt us g i rest G top) (K.at_take us c g i rest G top p)

  pub step_keeps : (us : List (ℕ × ℕ)) (c : ℕ) (g : Graph) (l : List ℕ) → g.pending ≡ l → l ≢ [] → Good Same us g → P c g → P (suc c) (step g l).graph
  unfolding step
  step_keeps us c g [] e n G p = absurd (n refl)
  step_keeps us c g (i ∷ rest) e n G p = close_keeps us c g i rest G e (kept (key_of g i) g.memo) refl p

  pub rebuild_keeps : (us : List (ℕ × ℕ)) (c : ℕ) {g h : Graph} {y t : ℕ} → Rebuild g y t h → Good Same us g → P c g → P (t + c) h
  rebuild_keeps us c (done {g = g} e) G p = subst (λ (n : ℕ). P n (marked g true)) (omega arith) (K.at_end c g e p)
  rebuild_keeps us c (more {g = g} {h = h} {t = t} n r) G p =
      subst (λ (k : ℕ). P k h) (omega arith) (rebuild_keeps us (suc c) r (step_good us g g.pending refl G) (step_keeps us c g g.pending refl n G p))

module _ (P : ℕ → Graph → Type 0) (K : Keeps P) where
  add_keeps : (us : List (ℕ × ℕ)) (c : ℕ) (g : Graph) (x : Term) → Good Same us g → ((k : ℕ) → Mem k x.kids → k < ids g) → P c g → P c (add g x).graph
  unfolding add add_uncanonical add_by
  add_keeps us c g x G kids_in p = go (kept (canon g.roots x) g.memo) refl
    where
      go : (o : Option ℕ) → kept (canon g.roots x) g.memo ≡ o → P c (add_by g x o).graph
      go None e = K.at_grow us c g x G kids_in e p
      go (Some i) e = p

  pub made_keeps : {us : List (ℕ × ℕ)} {g : Graph} (M : Made us g) → P (took M) g
  unfolding took
  made_keeps start = K.at_fresh
  made_keeps (added {us = us} {g = g} x k M) = add_keeps us (took M) g x (made_good M) k (made_keeps M)
  made_keeps (joined {us = us} {g = g} i j a b M) = union_keeps P K.steps (took M) g i j (made_good M).shape a b (made_keeps M)
  made_keeps (rebuilt {us = us} r M) = rebuild_keeps P K.steps us (took M) r (made_good M) (made_keeps M)
