-- A part that was lent has come back as it was: nothing at all has changed, whatever was done with it meanwhile.
-- Assumes nothing.
use Rattle.std.specs.Prelude.{List, ◌≡◌, ℕ}
use Rattle.std.proofs.Common.{◌∙◌, ap}
use Rattle.layout.specs.Cut.{Part}
use Rattle.layout.specs.Idle.{put_get}
use Rattle.layout.specs.Lent.{Lent}
use Rattle.layout.specs.View.{get, put, view}
use Rattle.layout.proofs.Whole.{view_whole}

-- a part that has come back as it was
pub lent_back : {k : Part} {n m : ℕ} {P : List ℕ → List ℕ → Type 0} {ws ws' : List ℕ} → Lent k n m P ws ws' → get k (view n m ws') ≡ get k (view n m ws) → ws' ≡ ws
lent_back {k} {n} {m} {P} {ws} {ws'} t e = view_whole n m ws' ws (t.else ∙ ap (put k (view n m ws)) e ∙ put_get k (view n m ws))
