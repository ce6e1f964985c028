use Rattle.rows.proofs.Indexes.{count_at, first_at}
use Rattle.rows.specs.Promise.{stored}
use Rattle.rows.proofs.store.Goals as goal

pub returns : goal.returns
returns c =
    stored _ _ _ _ _ _ _ c.args.given c.args.key c.requires.same_count c.requires.ws_len.1 c.requires.ws_len.2
    (rw (c.given_base.ensures, count_at, first_at) at c.put_kids.ensures) (rw c.key_base.ensures at c.put_kids-2.ensures)
