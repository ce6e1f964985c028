-- The stored nodes stand in front of the work area that a sort is lent, and are as they were: the law that lending both parts at once asks for.
-- Assumes nothing.
use Rattle.std.specs.Prelude.{Result, List, ◌≡◌, ◌<◌, ℕ}
use Rattle.broken.specs.declared.Broken.{Broken}
use Rattle.std.proofs.Common.{◌∙◌, ap, sym, arith, get_or-take}
use Rattle.lists.specs.Reads.{at}
use Rattle.rows.specs.Rows.{size}
use Rattle.layout.specs.Both.{row_words}
use Rattle.sorting.specs.Promise.{Sorts}

pub front : (n m k : ℕ) (ws ws' : List ℕ) (r : Result ℕ Broken) → Sorts ws ws' n m k r → (j : ℕ) → j < row_words n m → at ws' j ≡ at ws j
front n m k ws ws' r s j h =
    let l : j < size n m = omega arith in
    sym (get_or-take (size n m) ws' j 0 l) ∙ ap (λ (w : List ℕ). at w j) s.rows ∙ get_or-take (size n m) ws j 0 l
