use Rattle.broken.specs.Words.{error_is}
use Rattle.layout.specs.Did.{did_as}
use Rattle.extract.specs.Form.{out_broken, out_done}
use Rattle.extract.proofs.forms.form_out.Goals as goal

pub returns-in_err-outline : goal.returns-in_err-outline
returns-in_err-outline c =
    let listed = c.list_out.ensures in
    rw (error_is _ _ c.from_residual.ensures.1) (did_as listed (out_broken _ _ _ _ _ _ listed.did c.in_err-outline.was))

pub write_out-requires : goal.write_out-requires
write_out-requires c =
    let listed = c.list_out.ensures in
    rw (c.view.ensures.1, listed.head)
    (listed.did.few _ c.in_ok-outline.was)

pub returns : goal.returns
returns c =
    let listed = c.list_out.ensures in
    let write = rw (c.view.ensures.0, c.view.ensures.1, listed.head) at c.write_out.ensures in
    did_as listed (out_done _ _ _ _ _ _ listed.did _ c.in_ok-outline.was _ _ write)
