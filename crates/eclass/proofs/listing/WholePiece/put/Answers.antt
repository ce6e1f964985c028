use lib.ListN.{length-set}
use mathlib.Core.Path.{refl}
use native.Mathlib.Omega.{arith}
use Rattle.eclass.specs.Lists.{piece_put, piece_room, piece_skip}
use Rattle.eclass.proofs.listing.WholePiece.put.Goals as goal

pub returns-then-k-eq0 : goal.returns-then-k-eq0
returns-then-k-eq0 c = piece_skip _ _ _ _ _ _ c.len-k.ensures.exact c.if-k-eq0.true _ _

pub put_members-requires-clause-w_in_bounds : goal.put_members-requires-clause-w_in_bounds
put_members-requires-clause-w_in_bounds c = piece_room _ _ _ _ _ _ _ c.len-k.ensures.exact (omega arith) c.class_words-w.ensures.0 _ _ c.requires.r_in_bounds

pub bounds-out-place : goal.bounds-out-place
bounds-out-place c = omega (arith, c.put_members.ensures.size, piece_room _ _ _ _ _ _ _ c.len-k.ensures.exact (omega arith) c.class_words-w.ensures.0 _ _ c.requires.r_in_bounds)

pub bounds-out-place-2 : goal.bounds-out-place-2
bounds-out-place-2 c = simp length-set (omega (arith, c.put_members.ensures.size, piece_room _ _ _ _ _ _ _ c.len-k.ensures.exact (omega arith) c.class_words-w.ensures.0 _ _ c.requires.r_in_bounds))

pub returns : goal.returns
returns c = piece_put _ _ _ _ _ _ _ c.len-k.ensures.exact (omega arith) c.class_words-w.ensures.0 _ _ _ _ c.requires.r_in_bounds c.put_members.ensures refl
