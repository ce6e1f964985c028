use Rattle.std.specs.Prelude.{refl}
use native.Mathlib.Omega.{arith}
use Rattle.broken.specs.Words.{is_broken}
use Rattle.layout.proofs.Lent.{did_lent}
use Rattle.parts.proofs.on_forest.find_mut.Goals as goal

pub overflow_cast-result : goal.overflow_cast-result
overflow_cast-result c = let low = c.find_mut.ensures.inside _ c.in_ok-root.was in omega arith

pub returns-in_err-root : goal.returns-in_err-root
returns-in_err-root c =
    rw (is_broken _ c.from_residual.ensures.0) (did_lent _ c.forest.ensures c.args.g.now.ok.lent c.find_mut.auto.ps (rw c.in_err-root.was at c.find_mut.ensures) refl refl refl)

pub returns : goal.returns
returns c = did_lent _ c.forest.ensures c.args.g.now.ok.lent c.find_mut.auto.ps (rw c.in_ok-root.was at c.find_mut.ensures) refl refl refl
