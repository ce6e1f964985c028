-- The ways out of `join_roots`: which of two roots stays, by the lengths of their parent lists.
-- Assumes nothing.
use Rattle.std.specs.Prelude.{Ok, Result, List, ◌≢◌, ◌≡◌, ◌+◌, ◌<◌, ◌≤◌, ℕ}
use Rattle.broken.specs.declared.Broken.{Broken}
use Rattle.std.proofs.Common.{◌∙◌, arith}
use Rattle.std.proofs.Math.ListN.{length}
use Rattle.steps.specs.Graph.{Graph, root, uses}
use Rattle.steps.specs.Machine.{union_by}
use Rattle.holds.specs.Holds.{HoldsAt}
use Rattle.holds.specs.ParentsLaws.{parents_len}
use Rattle.layout.specs.Head.{HeadOk}
use Rattle.layout.specs.View.{view}
use Rattle.layout.specs.declared.Head.{Head}
use Rattle.uniting.specs.Says.{JoinSays, MergeSays, merged_numbers}
use Rattle.lists.specs.Reads.{Word}

module _ (h : Head) (a b : ℕ) (ws : List ℕ) (ok : HeadOk (length ws) h) (q : (a < h.ids) × (b < h.ids) × (a ≢ b)) (x y : ℕ)
    (X : Word (view h.n h.m ws).uses (a + h.n + h.n) x) (Y : Word (view h.n h.m ws).uses (b + h.n + h.n) y) (r : Result Head Broken) (ws' : List ℕ) where
  -- a parent list is as long as its word says
  counts : (g : Graph) (u : ℕ) → HoldsAt h u (view h.n h.m ws) g → (x ≡ length (uses g.parents a)) × (y ≡ length (uses g.parents b))
  counts g u H = (
    X.exact ∙ parents_len _ _ _ _ _ _ _ _ _ _ H.parents a q.0 ok.ids_in,
    Y.exact ∙ parents_len _ _ _ _ _ _ _ _ _ _ H.parents b q.1 ok.ids_in,
  )

  pub join_first : y ≤ x → MergeSays h a b ws r ws' → JoinSays h a b ws r ws'
  unfolding union_by
  join_first le M = record { inside = M.inside; range = M.range; sound = go }
    where
      go : (g : Graph) (u : ℕ) → HoldsAt h u (view h.n h.m ws) g → root g.roots a ≡ a → root g.roots b ≡ b
          → (n : a ≢ b) (s : Dec (length (uses g.parents a) < length (uses g.parents b)))
          → (k : Head) × (r ≡ Ok k) × HoldsAt k u (view h.n h.m ws') (union_by g a b (no n) s).graph
      go g u H ra rb n (no z) = let m = M.sound g u H ra rb in (merged_numbers h m.0, m.1, m.2)
      go g u H ra rb n (yes z) = absurd (let c = counts g u H in omega arith)

  pub join_second : x < y → MergeSays h b a ws r ws' → JoinSays h a b ws r ws'
  unfolding union_by
  join_second lt M = record { inside = M.inside; range = M.range; sound = go }
    where
      go : (g : Graph) (u : ℕ) → HoldsAt h u (view h.n h.m ws) g → root g.roots a ≡ a → root g.roots b ≡ b
          → (n : a ≢ b) (s : Dec (length (uses g.parents a) < length (uses g.parents b)))
          → (k : Head) × (r ≡ Ok k) × HoldsAt k u (view h.n h.m ws') (union_by g a b (no n) s).graph
      go g u H ra rb n (no z) = absurd (let c = counts g u H in omega arith)
      go g u H ra rb n (yes z) = let m = M.sound g u H rb ra in (merged_numbers h m.0, m.1, m.2)
