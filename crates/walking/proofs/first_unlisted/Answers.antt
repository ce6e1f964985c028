use native.Mathlib.Omega.{arith}
use Rattle.walking.specs.Kids.{look_all, look_found, look_more, look_stray, none_is, some_is}
use Rattle.walking.proofs.first_unlisted.Goals as goal

pub returns-then-g-kid : goal.returns-then-g-kid
returns-then-g-kid c = look_stray _ _ _ _ _ c.children-kid-items.ensures _ c.loop-kid.invariant c.loop-kid-test.true c.if-g-kid.true

pub returns-then-is_none : goal.returns-then-is_none
returns-then-is_none c =
    look_found _ _ _ _ _ c.children-kid-items.ensures _ c.loop-kid.invariant c.loop-kid-test.true c.if-g-kid.false
    c.args.g.now.ok.ids_in _ c.place_of.ensures (none_is _ _ c.is_none.ensures c.if-is_none.true)

pub loop-kid-preserved : goal.loop-kid-preserved
loop-kid-preserved c =
    look_more _ _ _ _ _ c.children-kid-items.ensures _ c.loop-kid.invariant c.loop-kid-test.true c.if-g-kid.false
    c.args.g.now.ok.ids_in _ c.place_of.ensures (some_is _ _ c.is_none.ensures c.if-is_none.false)

pub returns : goal.returns
returns c = look_all _ _ _ _ _ c.children-kid-items.ensures _ (omega (arith, c.loop-kid-test.false)) c.loop-kid.invariant
