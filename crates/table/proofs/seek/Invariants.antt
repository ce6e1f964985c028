use mathlib.Core.Path.{◌≡◌}
use Prim.Native.Nat.{◌-◌}
use Rattle.language.specs.Fitting.{term}
use Rattle.rows.specs.Read.{key_read}
use Rattle.cells.specs.Cursor.{Cursor, Passed}
use Rattle.table.proofs.seek.Given as goal

abbrev pub invariant-loop-passed : goal.invariant-loop-passed
invariant-loop-passed l = Cursor l.ts l.n l.n l.bucket (l.size - l.passed) l.cur × Passed l.ts l.n l.n l.bucket (l.size - l.passed) (λ x. key_read l.nodes.ws.now l.n l.nodes.m x ≡ term l.key)
