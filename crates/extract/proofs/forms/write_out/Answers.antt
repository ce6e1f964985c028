use native.Mathlib.Omega.{arith}
use Rattle.broken.specs.Words.{error_is}
use Rattle.extract.specs.Form.{write_broken, write_done, write_fit, write_long}
use Rattle.extract.proofs.forms.write_out.Goals as goal

pub returns-in_err-length : goal.returns-in_err-length
returns-in_err-length c =
    let lost = write_broken _ _ _ _ _ c.args.g.now.ok.ids_in _ c.measure_form.ensures c.in_err-length.was in
    rw (error_is _ _ c.from_residual.ensures.1) lost

pub returns-then-out-length : goal.returns-then-out-length
returns-then-out-length c = write_long _ _ _ _ _ c.args.g.now.ok.ids_in _ c.measure_form.ensures _ c.in_ok-length.was c.if-out-length.true

pub put_form-words-requires : goal.put_form-words-requires
put_form-words-requires c =
    let room = write_fit c.args.g.now.h c.args.at.size _ _ c.args.out.now c.args.g.now.ok.ids_in _ c.measure_form.ensures _ c.in_ok-length.was (omega arith) in
    record { k_le_n = c.requires; by_index = c.measure_form.ensures.fine _ c.in_ok-length.was; k_in_bounds = room }

pub returns : goal.returns
returns c =
    write_done _ _ _ _ _ c.args.g.now.ok.ids_in _ c.measure_form.ensures _ c.in_ok-length.was (omega arith) _ _ c.put_form-words.ensures
