use Rattle.std.proofs.Common.{◌≡◌, ◌∙◌, ◌<◌, arith, get_or, length}
use Rattle.std.proofs.lemmas.Grind.{common_steps}
use Rattle.script.specs.DecimalLaws.{number_no_text, number_parsed}
use Rattle.script.specs.FieldsLaws.{number_none, number_plus, number_zero}
use Rattle.script.proofs.fields.number.Goals as goal

pub returns-then-is_empty : goal.returns-then-is_empty
returns-then-is_empty c = grind (arith, common_steps, number_none, number_plus, number_zero)

pub returns-in_err-ok : goal.returns-in_err-ok
returns-in_err-ok c =
    let z : 1 < length c.args.s.now → get_or c.args.s.now 0 0 ≡ 48 → ⊥ = λ l e. grind (arith, common_steps) in
    c.from_residual.ensures ∙ number_no_text _ _ (grind (arith, common_steps)) z _ c.from_utf8.ensures.cases _ c.ok.ensures.value c.in_err-ok.was

pub returns : goal.returns
returns c =
    let z : 1 < length c.args.s.now → get_or c.args.s.now 0 0 ≡ 48 → ⊥ = λ l e. grind (arith, common_steps) in
    let p : get_or c.args.s.now 0 0 ≡ 43 → ⊥ = λ e. grind (arith, common_steps) in
    c.ok-2.ensures.value
    ∙ number_parsed _ _ (grind (arith, common_steps)) z _ c.from_utf8.ensures.cases _ c.ok.ensures.value _ _ c.in_ok-ok.was p c.parse.ensures.value.0
