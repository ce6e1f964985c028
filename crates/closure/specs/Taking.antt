-- An entry taken from pending, and so a rebuild, keeps the invariant.
-- Assumes nothing.
use Rattle.std.specs.Prelude.{List, [], ◌∷◌, ◌⊎◌, ◌≡◌, refl, ◌<◌, ℕ, Option, None, Some}
use Rattle.std.proofs.Math.Logic.{inl, inr}
use Rattle.std.proofs.Common.{◌∙◌, ap}
use Rattle.lists.specs.Members.{Mem, here, mem-cases, there}
use Rattle.lists.specs.Tests.{zero_one}
use Rattle.language.specs.Term.{Term, same_term}
use Rattle.steps.specs.Graph.{Graph, ids, kept, key_of, node, root}
use Rattle.steps.specs.Machine.{Rebuild, close, done, more, step, taken}
use Rattle.closure.specs.Facts.{kept_here, kept_past}
use Rattle.closure.specs.Invariant.{Good, Owed, Same, Settled, Shape, Sound, canon_stands, set_sound, stand_forced}
use Rattle.closure.specs.Merging.{union_good}

module _ (us : List (ℕ × ℕ)) (g : Graph) (i : ℕ) (rest : List ℕ) (G : Good Same us g) (top : g.pending ≡ i ∷ rest) where
  pub top_lt : i < ids g
  top_lt = G.shape.pend_lt i (rw top (here refl))

  pub taken_shape : Shape g.nodes g.roots g.parents rest
  taken_shape = record {
    rl = G.shape.rl;
    pl = G.shape.pl;
    root_lt = G.shape.root_lt;
    root_root = G.shape.root_root;
    kids_lt = G.shape.kids_lt;
    pend_lt = λ j m. G.shape.pend_lt j (rw top (there m));
    uses_lt = G.shape.uses_lt;
    linked = G.shape.linked;
  }

  taken_sound : Sound us g.nodes g.roots (taken g i rest).memo
  taken_sound = set_sound us g.nodes g.roots g.memo (key_of g i) i top_lt (canon_stands us g.nodes g.roots (node g.nodes i) G.sound.to_root) G.sound

  -- N holds what was equal, and the roots of what led to the old entry and of i
  taken_good : (N : ℕ → ℕ → Type 0) → ((x y : ℕ) → x ≡ y → N x y)
      → ((m : ℕ) → kept (key_of g i) g.memo ≡ Some m → N (root g.roots m) (root g.roots i)) → Good N us (taken g i rest)
  taken_good N eq old = record {
    shape = taken_shape;
    sound = taken_sound;
    whole = record {
      asks = λ a b m. eq (root g.roots a) (root g.roots b) (G.whole.asks a b m);
      covered = λ j h. cover j (rw top at (G.whole.covered j h));
    };
  }
    where
      key : ℕ → Term
      key j = key_of g j

      out : (j : ℕ) → Settled Same g.nodes g.roots g.memo j → Dec (key j ≡ key i) → Settled N g.nodes g.roots (taken g i rest).memo j
      out j t (yes q) = (i, kept_here (key j) (key i) i g.memo q, rw t.2 (old t.0 (rw q at t.1)))
      out j t (no n) = (t.0, kept_past (key j) (key i) i g.memo n ∙ t.1, eq (root g.roots j) (root g.roots t.0) t.2)

      first : (j : ℕ) → (j ≡ i) ⊎ Mem j rest → Mem j rest ⊎ Settled N g.nodes g.roots (taken g i rest).memo j
      first j (inl e) = inr (i, kept_here (key j) (key i) i g.memo (ap key e), eq (root g.roots j) (root g.roots i) (ap (root g.roots) e))
      first j (inr m) = inl m

      cover : (j : ℕ) → Mem j (i ∷ rest) ⊎ Settled Same g.nodes g.roots g.memo j → Mem j rest ⊎ Settled N g.nodes g.roots (taken g i rest).memo j
      cover j (inl m) = first j (mem-cases m)
      cover j (inr t) = inr (out j t (same_term (key j) (key i)))

  close_good : (o : Option ℕ) → kept (key_of g i) g.memo ≡ o → Good Same us (close (taken g i rest) o i).graph
  unfolding close
  close_good None e = taken_good Same (λ x y q. q) (λ m q. absurd (never m q))
    where
      never : (m : ℕ) → kept (key_of g i) g.memo ≡ Some m → ⊥
      never m q = zero_one cc
  close_good (Some o) e = union_good us (taken g i rest) o i (G.sound.memo_lt (key_of g i) o e) top_lt
      (stand_forced us g.nodes (key_of g i) o i (G.sound.memo_lt (key_of g i) o e) top_lt
      (G.sound.keys (key_of g i) o e) (canon_stands us g.nodes g.roots (node g.nodes i) G.sound.to_root))
      (taken_good (Owed (root g.roots o) (root g.roots i)) (λ x y q. inl q) (λ m q. inr (ap (root g.roots) (is m q), refl)))
    where
      is : (m : ℕ) → kept (key_of g i) g.memo ≡ Some m → m ≡ o
      is m q = cc

pub step_good : (us : List (ℕ × ℕ)) (g : Graph) (p : List ℕ) → g.pending ≡ p → Good Same us g → Good Same us (step g p).graph
unfolding step
step_good us g [] e G = G
step_good us g (i ∷ rest) e G = close_good us g i rest G e (kept (key_of g i) g.memo) refl

pub rebuild_good : (us : List (ℕ × ℕ)) {g h : Graph} {y t : ℕ} → Rebuild g y t h → Good Same us g → Good Same us h
rebuild_good us (done e) G = record { shape = G.shape; sound = G.sound; whole = G.whole }
rebuild_good us (more {g = g} n r) G = rebuild_good us r (step_good us g g.pending refl G)
