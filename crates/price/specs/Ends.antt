-- The passes end, within one more than there are classes, and in one way.
-- Assumes nothing.
use mathlib.Core.List.{List, [], ◌∷◌}
use Rattle.std.specs.Prelude.{◌⊎◌, ◌≡◌}
use Rattle.std.proofs.Common.{inl, inr, sym}
use Rattle.std.proofs.Math.Path.{ap, refl}
use Prim.Native.Nat.{◌+◌, ◌<◌, ◌≤◌, suc, zero, ℕ}
use Rattle.std.proofs.Math.Decide.{ℕ_discrete}
use native.Mathlib.Omega.{arith}
use Rattle.std.proofs.Math.ListN.{length}
use Rattle.lists.specs.Members.{Mem}
use Rattle.language.specs.Term.{Term}
use Rattle.price.specs.Least.{still}
use Rattle.price.specs.Pass.{Best, Passes, Table, after, done, final, more, pass, passes, passes_on}
use Rattle.price.specs.Reads.{pass_keeps}
use Rattle.price.specs.Rule.{Rule}

module _ {P : Type 0} (R : Rule P) (nodes : ℕ → List Term) where
  abbrev Grows : Table P → Table P → Type 0
  Grows t u = (u ≡ t) ⊎ (length t < length u)

  grows_on : (r : ℕ) (b : Best P) (t u : Table P) → Grows t u → length t < length ((r, b) ∷ u)
  grows_on r b t u (inl e) = let h : length u ≡ length t = ap length e in omega arith
  grows_on r b t u (inr h) = omega arith

  pub pass_grows : (rs : List ℕ) (t : Table P) → Grows t (pass R nodes rs t)
  pass_grows rs t = pass_keeps R nodes (Grows t) (λ r b u e low h. inr (grows_on r b t u h)) rs t (inl refl)

  pub one_end : {rs : List ℕ} {n m : ℕ} {t u s : Table P} → Passes R nodes rs n t u → Passes R nodes rs m t s → (n ≡ m) × (u ≡ s)
  one_end (done e) (done k) = (refl, refl)
  one_end (done e) (more n k) = absurd (n e)
  one_end (more n h) (done e) = absurd (n e)
  one_end (more n h) (more m k) = let z = one_end h k in (ap suc z.0, z.1)

  -- the function with fuel, with fuel enough, leaves what the passes leave
  pub passes_enough : {rs : List ℕ} {n : ℕ} {t u : Table P} → Passes R nodes rs n t u → (k : ℕ) → n ≤ k → passes R nodes rs k t ≡ u
  unfolding passes passes_on
  passes_enough (done e) zero le = absurd (omega arith)
  passes_enough {rs} (done {t = t} e) (suc k) le = go (ℕ_discrete (length (pass R nodes rs t)) (length t))
    where
      go : (d : Dec (length (pass R nodes rs t) ≡ length t)) → passes_on R nodes d (pass R nodes rs t) (passes R nodes rs k) ≡ t
      go (yes q) = e
      go (no n) = absurd (n (ap length e))
  passes_enough (more n h) zero le = absurd (omega arith)
  passes_enough {rs} {u = u} (more {t = t} n h) (suc k) le = go (ℕ_discrete (length (pass R nodes rs t)) (length t)) (pass_grows rs t) (passes_enough h k (omega arith))
    where
      go : (d : Dec (length (pass R nodes rs t) ≡ length t)) → Grows t (pass R nodes rs t) → passes R nodes rs k (pass R nodes rs t) ≡ u → passes_on R nodes d (pass R nodes rs t) (passes R nodes rs k) ≡ u
      go (yes q) (inl e) ih = absurd (n e)
      go (yes q) (inr lt) ih = absurd (omega arith)
      go (no m) w ih = ih

  module _ (rs : List ℕ) (listed : (r : ℕ) (x : Term) → Mem x (nodes r) → Mem r rs) where
    stays : (j : ℕ) → pass R nodes rs (after R nodes rs j []) ≡ after R nodes rs j [] → (k m : ℕ) → m ≡ k + j → after R nodes rs m [] ≡ after R nodes rs j []
    unfolding after
    stays j e zero m q = let i : m ≡ j = omega arith in rw i refl
    stays j e (suc k) zero q = absurd (omega arith)
    stays j e (suc k) (suc m) q = rw (stays j e k m (omega arith)) e

    left : (k j : ℕ) → k + j ≡ length rs → (n : ℕ) × (n ≤ suc k) × Passes R nodes rs n (after R nodes rs j []) (final R nodes rs)
    unfolding after
    left zero j e = let i : j ≡ length rs = omega arith in (1, omega arith, rw i (done (still R nodes rs listed)))
    left (suc k) j e = go (pass_grows rs (after R nodes rs j [])) (left k (suc j) (omega arith))
      where
        go : Grows (after R nodes rs j []) (pass R nodes rs (after R nodes rs j [])) → (n : ℕ) × (n ≤ suc k) × Passes R nodes rs n (after R nodes rs (suc j) []) (final R nodes rs)
            → (n : ℕ) × (n ≤ suc (suc k)) × Passes R nodes rs n (after R nodes rs j []) (final R nodes rs)
        go (inl q) ih = (1, omega arith, rw (stays j q (suc k) (length rs) (sym e)) (done q))
        go (inr lt) ih = let h = ih.1 in (suc ih.0, omega arith, more (λ q. differ q) ih.2)
          where
            differ : pass R nodes rs (after R nodes rs j []) ≡ after R nodes rs j [] → ⊥
            differ q = let z : length (pass R nodes rs (after R nodes rs j [])) ≡ length (after R nodes rs j []) = ap length q in omega arith

    -- 1. the passes from an empty table end, the last one included, within one more than there are classes
    pub end_in_time : (n : ℕ) × (n ≤ suc (length rs)) × Passes R nodes rs n [] (final R nodes rs)
    unfolding after
    end_in_time = left (length rs) 0 (omega arith)

    pub passes_final : (k : ℕ) → length rs < k → passes R nodes rs k [] ≡ final R nodes rs
    passes_final k lt = let h = end_in_time in let le = h.1 in passes_enough h.2 k (omega arith)
