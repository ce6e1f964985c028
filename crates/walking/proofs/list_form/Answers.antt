use Rattle.layout.specs.Did.{did_then}
use Rattle.walking.specs.Walk.{form_done}
use Rattle.walking.proofs.list_form.Goals as goal

pub returns : goal.returns
returns c =
    let top = c.set_scratch.ensures in
    did_then top c.finish.ensures (form_done _ _ _ _ c.args.g.now.ok top.did _ _ (rw top.head at c.finish.ensures.did))
