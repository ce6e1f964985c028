use mathlib.Core.Path.{ap}
use native.Mathlib.Omega.{arith}
use Rattle.broken.specs.Words.{error_is}
use Rattle.egraph.specs.Answers.{head_in}
use Rattle.egraph.specs.ClassLists.{list_broken, list_long, list_opened, list_shut, list_written}
use Rattle.egraph.proofs.class_lists.list_pieces.Goals as goal

pub returns-in_err-g : goal.returns-in_err-g
returns-in_err-g g c = λ list is. rw (error_is _ _ c.from_residual.ensures.1) (list_shut _ _ _ _ _ c.open_clean.ensures.head _ (ap head_in c.in_err-g.was))

pub returns-in_err-classes : goal.returns-in_err-classes
returns-in_err-classes g c =
    let e = ap head_in c.in_ok-g.was in
    let o = c.open_clean.ensures.head.good _ e in
    let never = rw (c.open_clean.ensures.words _ c.in_ok-g.was) at (rw c.in_err-classes.was at c.of.ensures) in
    λ list is. rw (error_is _ _ c.from_residual-in_err-classes.ensures.1) (list_opened _ _ _ _ _ c.open_clean.ensures.head _ e _ _ (list_broken _ _ _ _ o.0 o.1 _ never))

pub returns-then-out-k : goal.returns-then-out-k
returns-then-out-k g c =
    let e = ap head_in c.in_ok-g.was in
    let o = c.open_clean.ensures.head.good _ e in
    let w = c.open_clean.ensures.words _ c.in_ok-g.was in
    let i = c.in_ok-classes.ensures in
    let unbroken = rw (i, w) at c.in_ok-classes.classes.unbroken in
    let k = rw (i, w) at c.measure-k.ensures in
    λ list is. list_opened _ _ _ _ _ c.open_clean.ensures.head _ e _ _ (list_long _ _ _ _ o.0 o.1 _ unbroken (is _ o.0 o.1) _ k (omega arith))

pub put-requires : goal.put-requires
put-requires g c = omega (arith, c.measure-k.ensures)

pub returns : goal.returns
returns g c =
    let e = ap head_in c.in_ok-g.was in
    let o = c.open_clean.ensures.head.good _ e in
    let w = c.open_clean.ensures.words _ c.in_ok-g.was in
    let i = c.in_ok-classes.ensures in
    let unbroken = rw (i, w) at c.in_ok-classes.classes.unbroken in
    let k = rw (i, w) at c.measure-k.ensures in
    let put = rw (i, w) at c.put.ensures in
    λ list is. list_opened _ _ _ _ _ c.open_clean.ensures.head _ e _ _ (list_written _ _ _ _ o.0 o.1 _ unbroken (is _ o.0 o.1) _ k (omega arith) _ _ put)
