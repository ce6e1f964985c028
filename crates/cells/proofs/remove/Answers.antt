use native.Mathlib.Omega.{arith}
use Rattle.std.proofs.Common.{Ok, ap, ◌∙◌}
use Rattle.cells.specs.Cuts.{remove_done}
use Rattle.cells.proofs.remove.Goals as goal

pub overflow_cast-spot : goal.overflow_cast-spot
overflow_cast-spot c = let f = c.seek.ensures.found _ (c.in_ok-spot.was ∙ ap Ok c.in-Some.is) in omega arith

pub overflow_cast-spot-2 : goal.overflow_cast-spot-2
overflow_cast-spot-2 c = let f = c.seek.ensures.found _ (c.in_ok-spot.was ∙ ap Ok c.in-Some.is) in omega arith

pub returns : goal.returns
returns c = rw c.choose-first.ensures (remove_done _ _ _ _ _ _ c.requires.room.room c.requires.list_lt_lists.0 (c.seek.ensures.found _ (c.in_ok-spot.was ∙ ap Ok c.in-Some.is)))

pub offset_bounds-ws-spot : goal.offset_bounds-ws-spot
offset_bounds-ws-spot c = let f = c.seek.ensures.found _ (c.in_ok-spot.was ∙ ap Ok c.in-Some.is) in omega arith

pub bounds-ws-spot : goal.bounds-ws-spot
bounds-ws-spot c = let f = c.seek.ensures.found _ (c.in_ok-spot.was ∙ ap Ok c.in-Some.is) in omega arith

pub overflow_sub-ws : goal.overflow_sub-ws
overflow_sub-ws c = let f = c.seek.ensures.found _ (c.in_ok-spot.was ∙ ap Ok c.in-Some.is) in omega arith
