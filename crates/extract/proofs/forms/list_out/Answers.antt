use Rattle.broken.specs.Words.{is_broken}
use Rattle.layout.specs.Did.{did_as, did_then}
use Rattle.extract.specs.Form.{list_broken, list_done, list_unpriced}
use Rattle.extract.proofs.forms.list_out.Goals as goal

pub returns-in_err-class : goal.returns-in_err-class
returns-in_err-class c =
    let class = c.price_class.ensures in
    rw (is_broken _ c.from_residual.ensures.0) (did_as class (list_unpriced _ _ _ _ _ class.did c.in_err-class.was))

pub list_form-requires : goal.list_form-requires
list_form-requires c = let class = c.price_class.ensures in rw class.head (class.did.low _ c.in_ok-class.was)

pub returns-in_err-listed : goal.returns-in_err-listed
returns-in_err-listed c =
    let class = c.price_class.ensures in
    let form = rw class.head at c.list_form.ensures.did in
    let lost = list_broken _ _ _ _ _ class.did _ c.in_ok-class.was _ _ form c.in_err-listed.was in
    rw (is_broken _ c.from_residual-in_err-listed.ensures.0) (did_then class c.list_form.ensures lost)

pub returns : goal.returns
returns c =
    let class = c.price_class.ensures in
    let form = rw class.head at c.list_form.ensures.did in
    did_then class c.list_form.ensures (list_done _ _ _ _ _ class.did _ c.in_ok-class.was _ _ form _ c.in_ok-listed.was)
