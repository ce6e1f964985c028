use Rattle.broken.specs.Words.{is_broken}
use Rattle.taking.specs.Fresh.{fresh_broken, fresh_done, fresh_unknown}
use Rattle.taking.proofs.keys.fresh_key.Goals as goal

pub returns-in_err-given : goal.returns-in_err-given
returns-in_err-given c = rw (is_broken _ c.from_residual.ensures.0) (fresh_broken _ _ _ _ c.given.ensures c.in_err-given.was)

pub returns-then-not-known : goal.returns-then-not-known
returns-then-not-known c = fresh_unknown _ _ _ _ c.given.ensures _ c.in_ok-given.was (c.known.ensures.fails c.if-not-known.true)

pub with_roots-requires : goal.with_roots-requires
with_roots-requires c = c.known.ensures.holds c.if-not-known.false

pub returns : goal.returns
returns c = fresh_done _ _ _ _ c.given.ensures _ c.in_ok-given.was _ c.with_roots.ensures
