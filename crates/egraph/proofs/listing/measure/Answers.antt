use mathlib.Core.Path.{◌≡◌}
use native.Mathlib.Omega.{arith}
use Rattle.broken.specs.Words.{error_is}
use Rattle.layout.specs.Seen.{seen}
use Rattle.egraph.specs.Listing.{measure_broken, measure_more, measure_whole, sane_more, sane_none}
use Rattle.spelling.specs.Pieces.{long_none}
use Rattle.egraph.specs.Stored.{row_piece}
use Rattle.egraph.proofs.listing.measure.Goals as goal

pub loop-i-init : goal.loop-i-init
loop-i-init c = let g = c.args.g.now in (long_none (row_piece (seen g).rows g.h.n g.h.m), omega arith, sane_none (seen g).rows g.h.n g.h.m)

pub overflow_cast-i : goal.overflow_cast-i
overflow_cast-i c = omega (arith, c.args.g.now.ok)

pub row_words-requires : goal.row_words-requires
row_words-requires c = omega arith

pub returns-in_err-total : goal.returns-in_err-total
returns-in_err-total c = rw (error_is _ _ c.from_residual.ensures.1) (measure_broken _ _ _ _ c.loop-i.i c.loop-i-test.true _ _ c.row_words.ensures c.in_err-total.was)

pub overflow_add-total : goal.overflow_add-total
overflow_add-total c = omega (arith, c.row_words.ensures.few _ c.in_ok-total.was, c.args.g.now.ok)

pub loop-i-preserved : goal.loop-i-preserved
loop-i-preserved c = (measure_more _ _ _ _ _ _ _ c.row_words.ensures c.in_ok-total.was c.loop-i.invariant.0, omega (arith, c.row_words.ensures.few _ c.in_ok-total.was), sane_more _ _ _ _ _ _ c.row_words.ensures c.in_ok-total.was c.loop-i.invariant.2)

pub returns : goal.returns
returns c = let e : c.loop-i.i ≡ c.args.g.now.h.ids = omega arith in measure_whole _ _ _ _ _ (rw e at c.loop-i.invariant.0) (rw e at c.loop-i.invariant.2)
