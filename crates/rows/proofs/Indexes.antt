-- Where the child count and the first place of id i stand: as the code says it, and as the definitions do.
-- Assumes nothing.
use Rattle.std.specs.Prelude.{◌≡◌, ◌*◌, ◌+◌, ℕ}
use Rattle.std.proofs.Common.{arith}

pub count_at : (n i : ℕ) → 2 * n + i ≡ n + (n + i)
count_at n i = omega arith

pub first_at : (n i : ℕ) → 3 * n + i ≡ n + (n + (n + i))
first_at n i = omega arith
