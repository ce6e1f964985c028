use Rattle.std.proofs.Common.{ap, ◌∙◌}
use Rattle.script.specs.Line.{unreturned}
use Rattle.script.specs.LineLaws.{unmarked_is, unreturned_is}
use Rattle.script.proofs.lines.bare.Goals as goal

pub returns : goal.returns
returns c =
    unreturned_is _ _ c.strip_suffix.result c.strip_suffix.ensures.cases c.unwrap_or.ensures
    ∙ ap unreturned (unmarked_is _ _ c.strip_prefix.result c.strip_prefix.ensures.cases c.unwrap_or-line.ensures)
