-- What C reads of an answer (document 01, "When a call says no"): its number, how many values go with it, and the values, of which no answer but a
-- node has more than two; a node's words go into a list. A value that is not there is 0.
-- Assumes nothing.
use Rattle.std.specs.Prelude.{List, [], ◌∷◌, ◌≡◌, refl, ℕ, ◌≤◌, length, take}
use Rattle.std.proofs.Common.{arith}
use Rattle.egraph.specs.Answers.{Answer}
use Rattle.capi.specs.declared.Reply.{Reply}

abbrev pub spoken_by : ℕ → List ℕ → Reply
spoken_by k [] = record { number = k; count = 0; first = 0; second = 0 }
spoken_by k (v ∷ []) = record { number = k; count = 1; first = v; second = 0 }
spoken_by k (v ∷ w ∷ vs) = record { number = k; count = 2; first = v; second = w }

abbrev pub spoken : Answer → Reply
spoken a = spoken_by a.number a.values

-- what a reader in C takes from it: the number, and as many values as are counted
abbrev pub heard : Reply → Answer
heard r = record { number = r.number; values = take r.count (r.first ∷ r.second ∷ []) }

-- so nothing is lost on the way
pub heard_spoken : (a : Answer) → length a.values ≤ 2 → heard (spoken a) ≡ a
heard_spoken a few = go a.values few
  where
    go : (vs : List ℕ) → length vs ≤ 2 → ◌≡◌ {A = Answer} (heard (spoken_by a.number vs)) (record { number = a.number; values = vs })
    go [] h = refl
    go (v ∷ []) h = refl
    go (v ∷ w ∷ []) h = refl
    go (v ∷ w ∷ u ∷ vs) h = absurd (omega arith)
