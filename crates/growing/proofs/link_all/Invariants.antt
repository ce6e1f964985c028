use Rattle.std.specs.Prelude.{Ok}
use lib.ListN.{take}
use Rattle.language.specs.Fitting.{term}
use Rattle.layout.specs.Did.{Did}
use Rattle.growing.specs.Link.{LinksAll}
use Rattle.growing.proofs.link_all.Given as goal

abbrev pub invariant-loop-j : goal.invariant-loop-j
invariant-loop-j l = Did (LinksAll l.initial.g.h l.base l.id.0 (take l.j (term l.fn.key).kids) (Ok tt)) l.initial.g l.g
