use native.Mathlib.Omega.{arith}
use Rattle.broken.specs.Words.{error_is}
use Rattle.eclass.specs.Checks.{id_read}
use Rattle.eclass.proofs.check_id.Goals as goal

pub returns-in_err-key : goal.returns-in_err-key
returns-in_err-key c = let s = id_read _ _ _ c.args.g.now.h.ids c.args.id.0 _ (omega arith) c.key.ensures in rw (error_is _ _ c.from_residual.ensures.1) (rw c.in_err-key.was at s)

pub returns : goal.returns
returns c = let s = id_read _ _ _ c.args.g.now.h.ids c.args.id.0 _ (omega arith) c.key.ensures in rw c.in_ok-key.was at s
