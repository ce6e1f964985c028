use native.Mathlib.Omega.{arith}
use Rattle.eclass.specs.Lists.{piece_long, piece_zero}
use Rattle.eclass.proofs.listing.WholePiece.words.Goals as goal

pub returns-then-len-eq0-clause-exact : goal.returns-then-len-eq0-clause-exact
returns-then-len-eq0-clause-exact c = piece_zero _ _ _ _ _ _ c.len.ensures.exact c.if-len-eq0.true

pub returns-clause-exact : goal.returns-clause-exact
returns-clause-exact c = piece_long _ _ _ _ _ _ _ c.len.ensures.exact (omega arith) c.class_words.ensures.0
