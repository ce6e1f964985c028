use native.Mathlib.Omega.{arith}
use Rattle.layout.specs.View.{hd_at}
use Rattle.layout.specs.Head.{numbers, head_tested, numbers_hd}
use Rattle.layout.proofs.read_head.Goals as goal

pub returns-then-clean-gt1 : goal.returns-then-clean-gt1
returns-then-clean-gt1 c = λ g. omega (arith, g.flag, hd_at c.args.ws.now 6 (omega arith))

pub returns : goal.returns
unfolding numbers
returns c = rw c.then_some.ensures (head_tested _ _ _ _ (numbers_hd c.args.ws.now) (omega (arith, hd_at c.args.ws.now 6 (omega arith))) c.in_range.ensures)
