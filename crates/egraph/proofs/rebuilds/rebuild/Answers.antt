use Rattle.std.proofs.Common.{rules, subst}
use Rattle.egraph.specs.Answers.{head_refused_still, opened}
use Rattle.egraph.specs.Rebuilds.{RebuildOpen}
use Rattle.egraph.proofs.rebuilds.rebuild.Goals as goal

pub returns-in_err-h : goal.returns-in_err-h
returns-in_err-h c = head_refused_still _ _ _ c.read_head.ensures _ c.in_err-h.was _ c.from_residual.ensures.1

pub rebuild_open-requires : goal.rebuild_open-requires
rebuild_open-requires c = c.read_head.ensures.good _ c.in_ok-h.was

pub returns : goal.returns
returns c = opened _ _ c.read_head.ensures _ c.in_ok-h.was (λ p. (subst (RebuildOpen _ _) (search rules) c.rebuild_open.ensures.says))
