use Rattle.std.specs.Prelude.{List, ℕ}
use Rattle.std.proofs.Common.{rules, subst}
use Rattle.broken.specs.Words.{error_is}
use Rattle.extract.specs.Form.{FormSays, form_done, form_refused}
use Rattle.extract.proofs.forms.find_best.Goals as goal

pub returns-in_err-h : goal.returns-in_err-h
returns-in_err-h c = rw (error_is _ _ c.from_residual.ensures.1) (form_refused _ _ _ _ (c.open.ensures.bad _ c.in_err-h.was))

pub invariant_of-g : goal.invariant_of-g
invariant_of-g c = record { ok = (c.open.ensures.good _ c.in_ok-h.was).head_is.ok }

pub form_out-answer-requires : goal.form_out-answer-requires
form_out-answer-requires c = (c.open.ensures.good _ c.in_ok-h.was).known

pub returns : goal.returns
returns c =
    let work = c.form_out-answer.ensures in
    let done = form_done _ _ _ _ (c.open.ensures.good _ c.in_ok-h.was) _ _ _ _ work.did (rw work.head at c.clear_scratch.ensures.did) in
    subst (λ (ws : List ℕ). FormSays c.args.ws.now c.args.id.0 c.args.out.now c.form_out-answer.result ws c.form_out-answer.new.out) (search rules) done
