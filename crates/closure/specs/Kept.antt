-- Every graph that calls make has the invariant.
-- Assumes nothing.
use Rattle.std.specs.Prelude.{List, [], ◌++◌, ◌∷◌, ◌⊎◌, refl, ◌<◌, ℕ}
use Rattle.std.proofs.Common.{inl, inr, ap, arith}
use Rattle.lists.specs.Members.{Mem, here, mem-append-cases, mem-left, mem-nil, mem_one, mem-right}
use Rattle.steps.specs.Forced.{Forced, Made, added, alike, asked, back, joined, rebuilt, self, start, then}
use Rattle.steps.specs.Graph.{Graph, ids, kept, root, uses}
use Rattle.steps.specs.Machine.{fresh, union}
use Rattle.closure.specs.Invariant.{Good, Owed, Same, Settled}
use Rattle.language.specs.Term.{Term}
use Rattle.closure.specs.Growing.{add_good}
use Rattle.closure.specs.Merging.{union_good}
use Rattle.closure.specs.Taking.{rebuild_good}
use Rattle.std.proofs.lemmas.Option.{none-some}

pub forced_ask : {ns : List Term} {us : List (ℕ × ℕ)} (vs : List (ℕ × ℕ)) {i j : ℕ} → Forced ns us i j → Forced ns (us ++ vs) i j
forced_ask vs (asked m) = asked (mem-left vs m)
forced_ask vs self = self
forced_ask vs (back f) = back (forced_ask vs f)
forced_ask vs (then f h) = then (forced_ask vs f) (forced_ask vs h)
forced_ask vs (alike i_lt j_lt m e) = alike i_lt j_lt m (λ p h. forced_ask vs (e p h))

-- ---- union, as it is asked for

pub joined_good : (us : List (ℕ × ℕ)) (g : Graph) (i j : ℕ) → i < ids g → j < ids g → Good Same us g → Good Same (us ++ ((i, j) ∷ [])) (union g i j).graph
joined_good us g i j i_lt j_lt G = union_good vs g i j i_lt j_lt (asked (mem-right us (here refl))) (record {
  shape = G.shape;
  sound = record {
    memo_lt = G.sound.memo_lt;
    to_root = λ k. forced_ask ((i, j) ∷ []) (G.sound.to_root k);
    keys = λ k m e. record { match = (G.sound.keys k m e).match; each = λ p h. forced_ask ((i, j) ∷ []) ((G.sound.keys k m e).each p h) };
  };
  whole = record { asks = λ a b m. owed a b (mem-append-cases us m); covered = λ k h. cover k (G.whole.covered k h) };
})
  where
    vs : List (ℕ × ℕ)
    vs = us ++ ((i, j) ∷ [])

    R : ℕ → ℕ
    R = root g.roots

    owed : (a b : ℕ) → Mem (a, b) us ⊎ Mem {A = ℕ × ℕ} (a, b) ((i, j) ∷ []) → Owed (R i) (R j) (R a) (R b)
    owed a b (inl m) = inl (G.whole.asks a b m)
    owed a b (inr m) = let e = mem_one m in inr (ap (λ (q : ℕ × ℕ). R q.0) e, ap (λ (q : ℕ × ℕ). R q.1) e)

    cover : (k : ℕ) → Mem k g.pending ⊎ Settled Same g.nodes g.roots g.memo k → Mem k g.pending ⊎ Settled (Owed (R i) (R j)) g.nodes g.roots g.memo k
    cover k (inl m) = inl m
    cover k (inr t) = inr (t.0, t.1, inl t.2)

-- ---- from fresh

fresh_good : Good Same [] fresh
unfolding kept root uses
fresh_good = record {
  shape = record {
    rl = refl;
    pl = refl;
    root_lt = λ i h. absurd (omega arith);
    root_root = λ i. refl;
    kids_lt = λ i c h m. absurd (omega arith);
    pend_lt = λ i m. absurd (mem-nil m);
    uses_lt = λ r x m. absurd (mem-nil m);
    linked = λ i c h m. absurd (omega arith);
  };
  sound = record {
    memo_lt = λ k i e. absurd (none-some _ e);
    to_root = λ i. self;
    keys = λ k i e. absurd (none-some _ e);
  };
  whole = record { asks = λ i j m. absurd (mem-nil m); covered = λ j h. absurd (omega arith) };
}

pub made_good : {us : List (ℕ × ℕ)} {g : Graph} → Made us g → Good Same us g
made_good start = fresh_good
made_good (added {us = us} {g = g} x kids_in M) = add_good us g x (made_good M) kids_in
made_good (joined {us = us} {g = g} i j i_lt j_lt M) = joined_good us g i j i_lt j_lt (made_good M)
made_good (rebuilt {us = us} r M) = rebuild_good us r (made_good M)
