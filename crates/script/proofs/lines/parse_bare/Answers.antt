use Rattle.std.proofs.Common.{◌≡◌, get_or, arith}
use Rattle.std.proofs.lemmas.Grind.{common_steps}
use Rattle.script.specs.Line.{bare_line, skip}
use Rattle.script.specs.LineLaws.{says_plain, says_call, line_none, line_note, line_fields}
use Rattle.script.proofs.lines.parse_bare.Goals as goal

pub returns-in_default : goal.returns-in_default
returns-in_default c =
    let n : get_or c.args.line.now 0 0 ≡ 35 → ⊥ = λ e. grind arith in
    says_call _ c.call_of.result _ _ (line_fields _ (omega arith) n) c.call_of.ensures c.plain.ensures c.unwrap_or.ensures

pub returns-in-empty : goal.returns-in-empty
returns-in-empty c =
    let n : bare_line c.args.line.now ≡ skip = grind (arith, common_steps, line_none, line_note) in
    says_plain _ _ _ n c.plain-in-empty.ensures
