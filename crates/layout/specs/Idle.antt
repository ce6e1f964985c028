-- A part that was lent and left as it was: nothing at all has changed. (`lent_back` of proofs, Idle: so it is too where the part has come back as it was.)
-- Assumes nothing.
use Rattle.std.specs.Prelude.{List, ◌≡◌, refl, ℕ}
use Rattle.std.proofs.Common.{sym}
use Rattle.layout.specs.Cut.{Part, forest, members, owners, pending, rows, scratch, sorting, table, uses}
use Rattle.layout.specs.Lent.{Lent}
use Rattle.layout.specs.View.{View, get, put, view}

pub put_get : (k : Part) (v : View) → put k v (get k v) ≡ v
put_get forest v = refl
put_get rows v = refl
put_get sorting v = refl
put_get uses v = refl
put_get owners v = refl
put_get members v = refl
put_get table v = refl
put_get pending v = refl
put_get scratch v = refl

-- a part that was left as it was
pub lent_same : {k : Part} {n m : ℕ} {P : List ℕ → List ℕ → Type 0} (ws : List ℕ) → P (get k (view n m ws)) (get k (view n m ws)) → Lent k n m P ws ws
lent_same {k} {n} {m} ws p = record { size = refl; else = sym (put_get k (view n m ws)); did = p }
