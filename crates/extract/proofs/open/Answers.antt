use Rattle.egraph.specs.Answers.{handed_on, not_set, opens, set_then}
use Rattle.extract.specs.Opens.{open_bad, open_free, open_taken, open_unclean, open_unknown}
use Rattle.extract.proofs.open.Goals as goal

pub returns-in_err-h : goal.returns-in_err-h
returns-in_err-h c =
    let O = opens _ _ _ c.read_head.ensures c.ok_or.ensures.value in
    rw (handed_on _ _ O _ c.in_err-h.was _ c.from_residual.ensures.1) (open_bad _ _ _ O _ c.in_err-h.was)

pub returns-then-h-id : goal.returns-then-h-id
returns-then-h-id c = open_unknown _ _ _ (opens _ _ _ c.read_head.ensures c.ok_or.ensures.value) _ c.in_ok-h.was c.if-h-id.true

pub returns-then-not-h : goal.returns-then-not-h
returns-then-not-h c =
    let O = opens _ _ _ c.read_head.ensures c.ok_or.ensures.value in
    open_unclean _ _ _ O _ c.in_ok-h.was c.if-h-id.false (not_set _ c.if-not-h.true)

pub returns-then-not-scratch_is_clear : goal.returns-then-not-scratch_is_clear
returns-then-not-scratch_is_clear c =
    let O = opens _ _ _ c.read_head.ensures c.ok_or.ensures.value in
    let b = c.scratch_is_clear.ensures.fails c.if-not-scratch_is_clear.true in
    open_taken _ _ _ O _ c.in_ok-h.was c.if-h-id.false (set_then _ c.if-not-h.false) b

pub returns : goal.returns
returns c =
    let O = opens _ _ _ c.read_head.ensures c.ok_or.ensures.value in
    let z = c.scratch_is_clear.ensures.holds c.if-not-scratch_is_clear.false in
    open_free _ _ _ O _ c.in_ok-h.was c.if-h-id.false (set_then _ c.if-not-h.false) z
