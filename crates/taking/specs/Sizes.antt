-- How many entries the parent lists have in all, and how many ids pending stands for, of words that hold them.
-- Assumes nothing.
use mathlib.Core.List.{List, []}
use Rattle.std.specs.Prelude.{◌⊎◌, ◌*◌, ◌+◌, ◌<◌, ◌≤◌, ℕ, get_or}
use Rattle.std.proofs.Common.{inl, inr, arith}
use Rattle.std.proofs.Math.Path.{ap, refl}
use Rattle.std.proofs.Math.ListN.{get_or-eq_default, length, length-map}
use Rattle.lists.specs.Reads.{at}
use Rattle.lists.specs.Sums.{sum_le_at, sum_part}
use Rattle.lists.specs.Tests.{lt_or}
use Rattle.steps.specs.Graph.{uses}
use Rattle.closure.specs.Sums.{sizes}
use Rattle.cells.specs.Places.{all_places}
use Rattle.cells.specs.Pool.{row}
use Rattle.holds.specs.Parents.{Owned, Parents}
use Rattle.pending.specs.Stands.{stands_le}

module _ {n m N u d : ℕ} {us own st : List ℕ} {ps : List (List ℕ)} {pend : List ℕ} (P : Parents n m N u d us own st ps pend) where
  pub parents_size : sizes ps ≤ u
  unfolding uses
  parents_size = omega (arith, all_places P.lists u P.pool.apart P.under, sum_le_at length ps P.lists [] refl (λ a. go a (lt_or a N)))
    where
      go : (a : ℕ) → (a < N) ⊎ (N ≤ a) → length (get_or ps a []) ≤ length (row P.lists a)
      go a (inl l) = omega (arith, ap length (P.are a l), length-map (row P.lists a) (at own))
      go a (inr l) = let z : length ps ≤ a = omega (arith, P.count) in omega (arith, ap length (get_or-eq_default ps [] z))

  pub parents_pending : length pend ≤ d * (u + 1)
  parents_pending = rw (← P.pending.size) (stands_le u low P.pending.stands)
    where
      low : (c k : ℕ) (xs : List ℕ) → Owned own P.lists c k xs → length xs ≤ u
      low c k xs o =
          let r = o.stretch.part.run.within in
          omega (arith, ap length o.are, length-map o.places (at own), sum_part length P.lists o.stretch.part.list [] refl, all_places P.lists u P.pool.apart P.under)
