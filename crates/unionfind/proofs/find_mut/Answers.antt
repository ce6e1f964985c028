use Rattle.unionfind.specs.Turns.{mend_none, mend_here, mend_out, mend_far, mend_step}
use Rattle.unionfind.specs.Promise.{finds_mut}
use native.Mathlib.Omega.{arith}
use borrow.Author.Rules.{rules}
use Rattle.unionfind.proofs.find_mut.Goals as goal

pub returns-then-parent-current : goal.returns-then-parent-current
returns-then-parent-current c = finds_mut _ _ _ _ _ (omega arith) (search mend_here)

pub returns-then-ids-parent : goal.returns-then-ids-parent
returns-then-ids-parent c = finds_mut _ _ _ _ _ (omega arith) (search mend_out)

pub returns-then-ids-grandparent : goal.returns-then-ids-grandparent
returns-then-ids-grandparent c = finds_mut _ _ _ _ _ (omega arith) (search mend_far)

pub loop-followed-preserved : goal.loop-followed-preserved
loop-followed-preserved c = (omega arith, search rules, search mend_step)

pub returns : goal.returns
returns c = finds_mut _ _ _ _ _ (omega arith) (search mend_none)
