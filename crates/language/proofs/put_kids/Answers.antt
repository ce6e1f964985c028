use native.Mathlib.Omega.{arith}
use Rattle.language.specs.Fitting.{term}
use Rattle.language.specs.Children.{many_kids}
use Rattle.language.specs.Methods.{put_more}
use Rattle.language.proofs.put_kids.Goals as goal

pub bounds-ws-place : goal.bounds-ws-place
bounds-ws-place c = omega (arith, many_kids (term c.args.fit) _ c.children-k-items.ensures)

pub loop-i-preserved : goal.loop-i-preserved
loop-i-preserved c = rw c.loop-i.invariant (put_more c.children-k-items.result.now c.args.ws.now c.args.place c.loop-i.i c.loop-i-test.true)
