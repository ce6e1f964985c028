use Rattle.sorting.specs.Turn.{turn_less, turn_equal, turn_greater}
use Rattle.sorting.proofs.Work.next.Goals.{in-Less, in-Equal, in-Greater}
use Rattle.sorting.proofs.Work.next.Goals as goal

pub returns-clause-step : goal.returns-clause-step
returns-clause-step c = elim c.match-heads.branch [
  | in-Less w ↦ let h = c.heads.ensures.less w.in-Less.is in rw (w.from-is, w.rest.ensures) (turn_less _ _ _ _ _ h.0 h.1)
  | in-Equal w ↦ let h = c.heads.ensures.equal w.in-Equal.is in rw (w.from-is, w.rest-in-Equal.ensures, w.rest-in-Equal-2.ensures) (turn_equal _ _ _ _ _ h.0 h.1 h.2)
  | in-Greater w ↦ let h = c.heads.ensures.greater w.in-Greater.is in rw (w.from-is, w.rest-in-Greater.ensures) (turn_greater _ _ _ _ _ h.0 h.1)
]
