use mathlib.Core.Path.{ap}
use Rattle.broken.specs.Words.{error_is}
use Rattle.parts.specs.Bare.{bare_found}
use Rattle.egraph.specs.Adds.{lookup_broken, lookup_found, lookup_lost, lookup_none}
use Rattle.egraph.proofs.adds.lookup_open.Goals as goal

pub returns-in_err-probed : goal.returns-in_err-probed
returns-in_err-probed c = rw (error_is _ _ c.from_residual.ensures.1) (lookup_broken _ _ c.requires.head_stands _ _ c.probe.ensures c.in_err-probed.was)

pub returns-in_default : goal.returns-in_default
returns-in_default c = lookup_none _ _ c.requires.head_stands _ _ c.probe.ensures _ c.in_ok-probed.was c.in_default.is

pub find-requires : goal.find-requires
find-requires c = c.probe.ensures.inside _ _ c.in_ok-probed.was c.in-Some.is

pub returns-in_err-root : goal.returns-in_err-root
returns-in_err-root c = rw (error_is _ _ c.from_residual-in_err-root.ensures.1) (lookup_lost _ _ c.requires.head_stands _ _ c.probe.ensures _ c.in_ok-probed.was _ c.in-Some.is _ c.find.ensures (ap bare_found c.in_err-root.was))

pub returns : goal.returns
returns c = lookup_found _ _ c.requires.head_stands _ _ c.probe.ensures _ c.in_ok-probed.was _ c.in-Some.is _ c.find.ensures _ (ap bare_found c.in_ok-root.was)
