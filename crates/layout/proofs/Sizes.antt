-- How long a part is.
-- Assumes nothing.
use Rattle.std.specs.Prelude.{List, ◌≡◌, ◌≤◌, ℕ, length}
use Rattle.std.proofs.Common.{◌∙◌, ap, arith}
use Rattle.lists.specs.Parts.{part, part_length}
use Rattle.layout.specs.Cut.{Part, lower, need, size, upper, upper_is, upper_need}
use Rattle.layout.specs.View.{get, get_part, view}

pub part_size : (k : Part) (n m : ℕ) (ws : List ℕ) → need n m ≤ length ws → length (part ws (lower k n m) (upper k n m)) ≡ size k n m
part_size k n m ws h = part_length ws (lower k n m) (upper k n m) (omega (arith, upper_need k n m)) ∙ omega (arith, upper_is k n m)

pub get_length : (k : Part) (n m : ℕ) (ws : List ℕ) → need n m ≤ length ws → length (get k (view n m ws)) ≡ size k n m
get_length k n m ws h = ap length (get_part k n m ws) ∙ part_size k n m ws h
