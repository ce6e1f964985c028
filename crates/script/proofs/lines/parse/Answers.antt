use Rattle.std.proofs.Common.{arith}
use Rattle.script.specs.LineLaws.{says_bare, says_long}
use Rattle.script.proofs.lines.parse.Goals as goal

pub returns-then-line-gt-LONGEST : goal.returns-then-line-gt-LONGEST
returns-then-line-gt-LONGEST c = says_long _ _ c.if-line-gt-LONGEST.true c.plain.ensures

pub returns : goal.returns
returns c = says_bare _ _ (omega arith) (rw c.bare.ensures at c.parse_bare.ensures)
