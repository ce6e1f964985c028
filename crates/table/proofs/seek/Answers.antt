use Rattle.std.proofs.Common.{Ok, ap, ◌≡◌, ◌∙◌, ◌+◌, ◌-◌, ◌<◌, arith, refl}
use Rattle.broken.specs.Words.{is_broken}
use Rattle.cells.specs.Cursor.{cursor_start, cursor_step, passed_start, passed_step}
use Rattle.table.specs.Seeking.{sought_long, sought_end, sought_stray, sought_torn, sought_found}
use Rattle.table.proofs.seek.Goals as goal

pub returns-then-size-n : goal.returns-then-size-n
returns-then-size-n c = sought_long _ _ _ _ _ _ c.requires.bucket_lt_n (omega (arith, c.len-size.ensures.exact))

pub loop-passed-init : goal.loop-passed-init
loop-passed-init c = let h = c.requires.bucket_lt_n in
    let all : c.len-size.result - 0 ≡ c.len-size.result = omega arith in
    rw (all, c.len-size.ensures.exact, c.last-cur.ensures.exact) (cursor_start _ _ _ _ h, passed_start _ _ _ _ h _)

pub returns-then-cur-n : goal.returns-then-cur-n
returns-then-cur-n c = let l = c.loop-passed in sought_stray _ _ _ _ _ _ c.requires.bucket_lt_n _ _ l.invariant.0 l.invariant.1 (omega arith) (omega arith)

pub returns-in_err-compare : goal.returns-in_err-compare
returns-in_err-compare c = let l = c.loop-passed in
    rw (is_broken _ c.from_residual.ensures.0) (sought_torn _ _ _ _ _ _ c.requires.bucket_lt_n _ _ l.invariant.0 l.invariant.1 (omega arith) (c.compare.ensures.broken c.in_err-compare.was))

pub returns-then-branch : goal.returns-then-branch
returns-then-branch c = let l = c.loop-passed in
    sought_found _ _ _ _ _ _ c.requires.bucket_lt_n _ _ l.invariant.0 l.invariant.1 (omega arith) _ refl (omega arith) (c.compare.ensures.same (c.in_ok-compare.was ∙ ap Ok c.if-branch.true))

pub loop-passed-preserved : goal.loop-passed-preserved
loop-passed-preserved c = let l = c.loop-passed in
    let h = c.requires.bucket_lt_n in
    let left : c.len-size.result - (l.passed + 1) ≡ c.len-size.result - l.passed - 1 = omega arith in
    let some : 0 < c.len-size.result - l.passed = omega arith in
    rw (left, c.link-cur.ensures.exact)
    (cursor_step _ _ _ _ h _ _ l.invariant.0 some, passed_step _ _ _ _ h _ _ l.invariant.0 some _ l.invariant.1 (c.compare.ensures.other (c.in_ok-compare.was ∙ ap Ok c.if-branch.false)))

pub returns : goal.returns
returns c = let l = c.loop-passed in sought_end _ _ _ _ _ _ c.requires.bucket_lt_n _ _ l.invariant.0 l.invariant.1 (omega arith)
