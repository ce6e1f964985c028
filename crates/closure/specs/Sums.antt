-- Sums over the parent lists: what a link and a merge do to them.
-- Assumes nothing.
use mathlib.Core.List.{List, [], ◌++◌, ◌∷◌}
use Rattle.std.specs.Prelude.{◌≢◌, ◌≡◌, refl, ◌+◌, ◌<◌, ◌≤◌, ℕ, length, set}
use Rattle.std.proofs.Math.Path.{ap}
use Rattle.std.proofs.Common.{sym, length-append, lt-length-set}
use native.Mathlib.Omega.{arith}
use Rattle.std.proofs.Math.ListN.{length-set}
use Rattle.lists.specs.Members.{Mem, here, there}
use Rattle.lists.specs.Sums.{sum_of, sum_part, sum_set}
use Rattle.steps.specs.Graph.{uses}
use Rattle.steps.specs.Machine.{link}
use Rattle.closure.specs.Facts.{uses_set_other}

-- all entries of all parent lists
abbrev pub sizes : List (List ℕ) → ℕ
sizes ps = sum_of length ps

module _ (f : List ℕ → ℕ) where
  -- what is the loser's goes to the stayer
  pub sum_hung : (ps : List (List ℕ)) (s l : ℕ) → s ≢ l → s < length ps → l < length ps
      → sum_of f (set (set ps s (uses ps s ++ uses ps l)) l []) + f (uses ps l) + f (uses ps s) ≡ sum_of f ps + f (uses ps s ++ uses ps l) + f []
  unfolding uses
  sum_hung ps s l apart s_lt l_lt = omega (
    arith,
    sum_set f ps s (uses ps s ++ uses ps l) [] s_lt,
    sum_set f (set ps s (uses ps s ++ uses ps l)) l [] [] (omega (arith, length-set ps s (uses ps s ++ uses ps l))),
    ap f (uses_set_other ps s (uses ps s ++ uses ps l) l (λ e. apart (sym e))),
  )

pub uses_size : (ps : List (List ℕ)) (r : ℕ) → length (uses ps r) ≤ sizes ps
unfolding uses
uses_size ps r = sum_part length ps r [] refl

-- a merge loses no entry
pub sizes_hung : (ps : List (List ℕ)) (s l : ℕ) → s ≢ l → s < length ps → l < length ps → sizes (set (set ps s (uses ps s ++ uses ps l)) l []) ≡ sizes ps
sizes_hung ps s l apart s_lt l_lt = omega (arith, sum_hung length ps s l apart s_lt l_lt, length-append (uses ps s) (uses ps l))

pub sizes_link : (n : ℕ) (rs : List ℕ) (ps : List (List ℕ)) → ((r : ℕ) → Mem r rs → r < length ps) → sizes (link n rs ps) ≡ sizes ps + length rs
unfolding link uses
sizes_link n [] ps h = omega arith
sizes_link n (r ∷ rs) ps h = omega (
  arith,
  sizes_link n rs (set ps r (uses ps r ++ (n ∷ []))) (λ q m. lt-length-set ps r (uses ps r ++ (n ∷ [])) (h q (there m))),
  sum_set length ps r (uses ps r ++ (n ∷ [])) [] (h r (here refl)),
  length-append (uses ps r) (n ∷ []),
)
