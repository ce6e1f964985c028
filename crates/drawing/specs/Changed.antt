-- How many words of two lists differ: what the programs of random calls count. Document 01 asks for no such number; it is the trials' own.
use Rattle.std.specs.Prelude.{List, ℕ, not, ◌==◌, count_by, zip}

-- place by place, as far as both lists go
abbrev pub differing : List ℕ → List ℕ → ℕ
differing old new = count_by (λ p. not (p.0 == p.1)) (zip old new)
