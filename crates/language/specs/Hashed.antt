-- The hash of a node, the port's own (document 01, "What must change shape"): arithmetic over its words, left to right. Each word is added and then multiplied, the last one too: a bucket is taken from the upper bits, and nodes that differ in one word alone must not fall into one. It only says in which bucket of the table a key is kept, so no answer depends on it.
-- Assumes nothing.
use Rattle.std.specs.List.{fold}
use Rattle.std.specs.Prelude.{ℕ, ◌+◌, ◌*◌, ◌%◌}
use Rattle.language.specs.Term.{Term, words}

abbrev pub mixed : ℕ → ℕ → ℕ
mixed h w = (h + w) % 4294967296 * 2654435769 % 4294967296

unfoldable pub hash : Term → ℕ
hash t = fold mixed 0 (words t)
