use mathlib.Core.Path.{◌∙◌}
use Rattle.broken.specs.Words.{is_broken}
use Rattle.growing.specs.Grow.{goes_connected, goes_entered, goes_stored, grown_broken, grown_done}
use Rattle.growing.proofs.grow.Goals as goal

pub returns-in_err-store-clause-grows : goal.returns-in_err-store-clause-grows
returns-in_err-store-clause-grows c =
    rw (is_broken _ c.from_residual.ensures.0) (grown_broken (goes_stored _ _ _ _ _ _ _ c.store.ensures.did) c.in_err-store.was)

pub returns-in_err-enter-clause-grows : goal.returns-in_err-enter-clause-grows
returns-in_err-enter-clause-grows c =
    let s = c.store.ensures in
    let G = goes_entered _ _ _ _ _ _ _ s.did _ _ (rw s.head at c.enter.ensures.did) in
    rw (is_broken _ c.from_residual-in_err-enter.ensures.0) (grown_broken G c.in_err-enter.was)

pub returns-in_err-connect-clause-grows : goal.returns-in_err-connect-clause-grows
returns-in_err-connect-clause-grows c =
    let k = c.args.key.many ∙ c.requires.ids_lt_n.2 in
    let s = c.store.ensures in
    let e = c.enter.ensures in
    let G = goes_connected _ _ _ _ _ _ _ s.did _ _ (rw s.head at e.did) _ _ (rw (e.head, s.head) at c.connect.ensures.did) k in
    rw (is_broken _ c.from_residual-in_err-connect.ensures.0) (grown_broken G c.in_err-connect.was)

pub returns-clause-grows : goal.returns-clause-grows
returns-clause-grows c =
    let k = c.args.key.many ∙ c.requires.ids_lt_n.2 in
    let s = c.store.ensures in
    let e = c.enter.ensures in
    let l = c.connect.ensures in
    let G = goes_connected _ _ _ _ _ _ _ s.did _ _ (rw s.head at e.did) _ _ (rw (e.head, s.head) at l.did) k in
    let room = (rw (e.head, s.head) at l.did.room) c.in_ok-connect.was in
    rw (l.head, e.head, s.head) (grown_done _ _ _ _ G c.args.g.now.ok c.requires.ids_lt_n.0 c.requires.ids_lt_n.1 room)
