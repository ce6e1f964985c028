-- The children of a node are ids that exist: what `known` tests.
-- Assumes nothing.
use Rattle.std.specs.Prelude.{Bool, true, false, List, get_or, ◌≡◌, ◌<◌, ◌≤◌, ℕ, length, map}
use Rattle.std.specs.Bool.{MatchBool}
use Rattle.std.specs.List.{AllWithin, HoldsAt}
use Rattle.std.proofs.Common.{arith}
use Rattle.lists.specs.Reads.{at}
use Rattle.lists.specs.Tests.{Says, says_no, says_yes}
use Rattle.language.specs.Term.{Term, Known}
use Rattle.language.specs.declared.Id.{Id}
use Rattle.language.specs.Children.{kid_is, many_kids}

-- what a test of each child finds, where ks are the children
module _ (x : Term) (N : ℕ) (ks : List Id) (e : map (λ (k : Id). k.0) ks ≡ x.kids) where
  many : length ks ≡ length x.kids
  many = many_kids x ks e

  kid : (i : ℕ) → (get_or ks i (record { 0 = 0 })).0 ≡ at x.kids i
  kid = kid_is x ks e

  pub says_known : (b : Bool) → MatchBool b (AllWithin (λ k. k.0 < N) ks 0 (length ks)) ((i : ℕ) × (i < length ks) × HoldsAt (λ k. N ≤ k.0) ks i)
      → Says b (Known x N)
  says_known true all = says_yes (λ i l. omega (arith, kid i, all i (record { 0 = 0 }) (omega arith) (omega (arith, many))))
  says_known false some = says_no (λ K. omega (arith, K some.0 (omega (arith, many, some.1)), kid some.0, some.2 (record { 0 = 0 })))
