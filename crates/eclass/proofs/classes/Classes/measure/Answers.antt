use native.Mathlib.Omega.{arith}
use Rattle.spelling.specs.Pieces.{long_more, long_none}
use Rattle.eclass.proofs.classes.Classes.measure.Goals as goal

pub loop-i-init : goal.loop-i-init
loop-i-init g c = (omega arith, long_none _)

pub loop-i-preserved : goal.loop-i-preserved
loop-i-preserved g c = (omega (arith, c.words-total.ensures.few, c.loop-i.invariant.0), long_more _ c.loop-i.i _ _ c.loop-i.invariant.1 c.words-total.ensures.exact)
