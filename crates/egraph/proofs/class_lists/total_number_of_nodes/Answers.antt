use mathlib.Core.Path.{ap}
use Rattle.broken.specs.Words.{error_is}
use Rattle.egraph.specs.Answers.{clean_opened, head_in}
use Rattle.egraph.specs.ClassLists.{total_broken, total_counted, total_shut}
use Rattle.egraph.proofs.class_lists.total_number_of_nodes.Goals as goal

pub returns-in_err-g : goal.returns-in_err-g
returns-in_err-g c = rw (error_is _ _ c.from_residual.ensures.1) (total_shut _ _ c.open_clean.ensures.head _ (ap head_in c.in_err-g.was))

pub returns-in_err-total : goal.returns-in_err-total
returns-in_err-total c =
    let e = ap head_in c.in_ok-g.was in
    let o = c.open_clean.ensures.head.good _ e in
    let T = rw (c.open_clean.ensures.words _ c.in_ok-g.was) at c.count_nodes.ensures in
    rw (error_is _ _ c.from_residual-in_err-total.ensures.1) (clean_opened _ _ c.open_clean.ensures.head _ e (total_broken _ _ o.0 o.1 _ T c.in_err-total.was))

pub returns : goal.returns
returns c =
    let e = ap head_in c.in_ok-g.was in
    let o = c.open_clean.ensures.head.good _ e in
    let T = rw (c.open_clean.ensures.words _ c.in_ok-g.was) at c.count_nodes.ensures in
    clean_opened _ _ c.open_clean.ensures.head _ e (total_counted _ _ o.0 o.1 _ T _ c.in_ok-total.was)
