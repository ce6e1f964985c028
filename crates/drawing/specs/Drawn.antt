-- The numbers that the programs of trials draw: the generator's next number, and a small number out of one. Document 01 asks for none; they are the trials' own.
use Rattle.std.specs.Prelude.{ℕ, ◌+◌, ◌*◌, ◌/◌, ◌%◌}

-- the generator's next number
unfoldable pub following : ℕ → ℕ
following x = (x % 4294967296 * 1664525 + 1013904223) % 4294967296

-- the upper half of a number of the generator
unfoldable pub upper_half : ℕ → ℕ
upper_half x = x % 4294967296 / 65536

-- what is drawn below n out of a seed and a salt
unfoldable pub drawn : ℕ → ℕ → ℕ → ℕ
drawn seed salt n = upper_half (following (following seed + salt * 40503)) % n
