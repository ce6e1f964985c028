-- A head that a step leaves, near the one that it found: the same limits, ids and places, and all numbers in range. What was shown of parts cut by the one holds
-- of parts cut by the other.
-- Assumes nothing.
use Rattle.std.specs.Prelude.{List, ◌≡◌, ℕ}
use Rattle.std.proofs.Common.{◌∙◌, subst}
use Rattle.holds.specs.Inside.{Inside, Near}
use Rattle.layout.specs.View.{view}
use Rattle.layout.specs.declared.Head.{Head}

-- k has the limits, the ids and the places of h, and numbers in range
pub record NearIds (len : ℕ) (h k : Head) : Type 0 where
  pub near : Near len h k
  pub ids_is : k.ids ≡ h.ids
  pub places_is : k.places ≡ h.places

pub view_near : {len : ℕ} {h k : Head} → NearIds len h k → (ws : List ℕ) → view k.n k.m ws ≡ view h.n h.m ws
view_near N ws = λ i. view (N.near.n_is i) (N.near.m_is i) ws

pub inside_near : {len : ℕ} {h k : Head} {ws ws' : List ℕ} → NearIds len h k → Inside k.n k.m ws ws' → Inside h.n h.m ws ws'
inside_near {len} {h} {k} {ws} {ws'} N I = subst (λ (n : ℕ). Inside n h.m ws ws') N.near.n_is (subst (λ (m : ℕ). Inside k.n m ws ws') N.near.m_is I)

pub near_then : {len : ℕ} {h k s : Head} → NearIds len h k → NearIds len k s → NearIds len h s
near_then N M = record {
  near = record { ok = M.near.ok; n_is = M.near.n_is ∙ N.near.n_is; m_is = M.near.m_is ∙ N.near.m_is };
  ids_is = M.ids_is ∙ N.ids_is;
  places_is = M.places_is ∙ N.places_is;
}
