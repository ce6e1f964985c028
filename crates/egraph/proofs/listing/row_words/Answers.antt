use Rattle.broken.specs.Words.{error_is}
use Rattle.egraph.specs.Listing.{row_broken, row_words}
use Rattle.egraph.proofs.listing.row_words.Goals as goal

pub returns-in_err-given : goal.returns-in_err-given
returns-in_err-given c = rw (error_is _ _ c.from_residual.ensures.1) (row_broken _ _ _ _ _ c.given.ensures c.in_err-given.was)

pub returns : goal.returns
returns c = row_words _ _ _ _ _ c.given.ensures _ c.in_ok-given.was _ c.node_length.ensures
