-- Where links lead: a walk that has ended at a root stays there, and still ends there after an id on the way was given its grandparent.
-- Assumes nothing.
use Rattle.std.specs.Prelude.{◌≡◌, refl, ◌⊎◌, ◌≢◌, List, ℕ, zero, suc, ◌≤◌, ◌<◌, length, set}
use Rattle.std.proofs.Common.{ap, ◌∙◌, inl, inr, ⊎_elim, arith, get_or-set_same, get_or-set_other}
use Rattle.lists.specs.Reads.{at}
use Rattle.lists.specs.Tests.{eq_or}
use Rattle.unionfind.specs.Words.{walk}

-- k links from i lead to a root
abbrev pub Ends : List ℕ → ℕ → ℕ → Type 0
Ends ps k i = at ps (walk ps k i) ≡ walk ps k i

module _ (ps : List ℕ) where
  pub walk_root : (k i : ℕ) → at ps i ≡ i → walk ps k i ≡ i
  walk_root zero i h = refl
  walk_root (suc k) i h = ap (walk ps k) h ∙ walk_root k i h

  -- one link more at the far end
  pub walk_suc : (k i : ℕ) → walk ps (suc k) i ≡ at ps (walk ps k i)
  walk_suc zero i = refl
  walk_suc (suc k) i = walk_suc k (at ps i)

  pub ends_suc : (k i : ℕ) → Ends ps k i → walk ps (suc k) i ≡ walk ps k i
  ends_suc k i e = walk_suc k i ∙ e

  -- links past a root do not matter
  pub ends_more : (j k i : ℕ) → k ≤ j → Ends ps k i → walk ps j i ≡ walk ps k i
  ends_more zero k i h e = let z : k ≡ 0 = omega arith in rw z refl
  ends_more (suc j) k i h e = go (eq_or k (suc j)) (ends_more j k i)
    where
      go : (k ≡ suc j) ⊎ (k ≢ suc j) → (k ≤ j → Ends ps k i → walk ps j i ≡ walk ps k i) → walk ps (suc j) i ≡ walk ps k i
      go (inl q) ih = rw q refl
      go (inr q) ih = let w = ih (omega arith) e in walk_suc j i ∙ rw w e

  pub walk_inside : (N : ℕ) → ((i : ℕ) → i < N → at ps i < N) → (k i : ℕ) → i < N → walk ps k i < N
  walk_inside N ins zero i h = h
  walk_inside N ins (suc k) i h = walk_inside N ins k (at ps i) (ins i h)

-- a walk among ids whose words are as before goes as before
pub walk_same : (ps qs : List ℕ) (N : ℕ) → ((i : ℕ) → i < N → at ps i < N) → ((i : ℕ) → i < N → at qs i ≡ at ps i) → (k i : ℕ) → i < N → walk qs k i ≡ walk ps k i
walk_same ps qs N ins same zero i h = refl
walk_same ps qs N ins same (suc k) i h = rw (same i h) (walk_same ps qs N ins same k (at ps i) (ins i h))

-- ---- after x was given its grandparent

module _ (ps : List ℕ) (x : ℕ) (hx : x < length ps) where
  pub halved_root : (r : ℕ) → at ps r ≡ r → at (set ps x (at ps (at ps x))) r ≡ r
  halved_root r e =
      ⊎_elim
      (λ (w : r ≡ x). let e' : at ps x ≡ x = rw w at e in rw (w, get_or-set_same ps x (at ps (at ps x)) 0 hx, e', e') refl)
      (λ (w : r ≢ x). rw (get_or-set_other ps x r (at ps (at ps x)) 0 w) e)
      (eq_or r x)

  pub halved_walk : (k i : ℕ) → Ends ps k i → walk (set ps x (at ps (at ps x))) k i ≡ walk ps k i
  halved_walk zero i e = refl
  halved_walk (suc k) i e = go (eq_or i x) (halved_walk k)
    where
      ps' : List ℕ
      ps' = set ps x (at ps (at ps x))

      from_x : (j : ℕ) → ((i : ℕ) → Ends ps j i → walk ps' j i ≡ walk ps j i) → Ends ps (suc j) x → walk ps' j (at ps (at ps x)) ≡ walk ps j (at ps x)
      from_x zero ih r = r
      from_x (suc j) ih r =
          let e1 : walk ps (suc j) (at ps (at ps x)) ≡ walk ps j (at ps (at ps x)) = ends_suc ps j (at ps (at ps x)) r in
          let e2 : Ends ps (suc j) (at ps (at ps x)) = rw e1 r in
          ih (at ps (at ps x)) e2 ∙ e1

      go : (i ≡ x) ⊎ (i ≢ x) → ((i : ℕ) → Ends ps k i → walk ps' k i ≡ walk ps k i) → walk ps' k (at ps' i) ≡ walk ps k (at ps i)
      go (inl w) ih = rw (w, get_or-set_same ps x (at ps (at ps x)) 0 hx) (from_x k ih (rw w at e))
      go (inr w) ih = rw (get_or-set_other ps x i (at ps (at ps x)) 0 w) (ih (at ps i) e)
