use native.Mathlib.Omega.{arith}
use Rattle.language.proofs.Sized.{counted}
use Rattle.language.specs.Fitting.{fitted, unfit}
use Rattle.language.proofs.Node.fit.Goals as goal

pub returns-then-self-gt-PLACES : goal.returns-then-self-gt-PLACES
returns-then-self-gt-PLACES c = unfit _ (omega arith)

pub invariant_of-result-clause-many : goal.invariant_of-result-clause-many
invariant_of-result-clause-many c = counted c.args.self c.well_formed.0 (omega arith)

pub returns : goal.returns
returns c = fitted _
