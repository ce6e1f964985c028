use Rattle.std.proofs.Common.{rules, subst}
use mathlib.Core.Path.{ap}
use native.Mathlib.Omega.{arith}
use Rattle.std.proofs.Common.{inl, inr}
use Rattle.broken.specs.Words.{error_is}
use Rattle.egraph.specs.Answers.{head_in, ids_is, known_opened, pass}
use Rattle.egraph.specs.Unions.{UnionOpen, far_or_near, union_shut}
use Rattle.egraph.proofs.unions.union.Goals as goal

pub returns-in_err-open_known : goal.returns-in_err-open_known
returns-in_err-open_known c = rw (error_is _ _ c.from_residual.ensures.1) (union_shut _ _ _ _ _ c.open_known.ensures.head inl _ (ap head_in c.in_err-open_known.was))

pub returns-in_err-h : goal.returns-in_err-h
returns-in_err-h c = rw (error_is _ _ c.from_residual-in_err-h.ensures.1) (union_shut _ _ _ _ _ c.open_known-2.ensures.head inr _ (ap head_in c.in_err-h.was))

-- both times the head is the one that stands in the words
pub union_open-requires : goal.union_open-requires
union_open-requires c =
    let a = c.open_known.ensures.head.good _ (ap head_in c.in_ok-open_known.was) in
    let b = c.open_known-2.ensures.head.good _ (ap head_in c.in_ok-h.was) in
    record { head_is = b.0; id1_lt_ids = (omega (arith, a.1, ids_is a.0, ids_is b.0), b.1) }

pub returns : goal.returns
returns c =
    let a = c.open_known.ensures.head.good _ (ap head_in c.in_ok-open_known.was) in
    known_opened _ _ _ c.open_known-2.ensures.head _ (ap head_in c.in_ok-h.was)
    (λ p l. pass (omega (arith, a.1, ids_is a.0), omega (arith, l, ids_is p)) (far_or_near _ _ _) (subst (UnionOpen _ _ _ _) (search rules) c.union_open.ensures.says))
