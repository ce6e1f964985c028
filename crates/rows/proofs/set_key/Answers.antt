use Rattle.rows.proofs.Indexes.{count_at, first_at}
use Rattle.rows.specs.Promise.{rekey_broken, rekey_done}
use native.Mathlib.Omega.{arith}
use Rattle.rows.proofs.set_key.Goals as goal

pub returns-then-count-key : goal.returns-then-count-key
returns-then-count-key c = rekey_broken _ _ _ _ c.args.key (λ e g. (rw count_at at c.if-count-key.true) e)

pub returns-then-first-count : goal.returns-then-first-count
returns-then-first-count c =
    let wide = rw (first_at, count_at) at c.if-first-count.true in rekey_broken _ _ _ _ c.args.key (λ e g. omega arith)

pub returns : goal.returns
returns c =
    let same = rw count_at at c.if-count-key.false in
    let room = rw (first_at, count_at) at c.if-first-count.false in
    rekey_done _ _ _ _ c.args.key _ (omega arith) (omega arith) (rw (c.key_base.ensures, first_at) at c.put_kids.ensures)
