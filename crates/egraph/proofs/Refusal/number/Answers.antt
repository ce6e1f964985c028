use mathlib.Core.Path.{◌≡◌, refl}
use Rattle.std.proofs.Common.{◌+◌, ◌<◌, arith}
use denote.Enum.Declared.{tag_of}
use Rattle.egraph.specs.Answers.{number_of}
use Rattle.egraph.specs.contracts.Refusal.{the_type}
use Rattle.egraph.specs.declared.Refusal.{Refusal}
use Rattle.egraph.specs.declared.Refusal.TheVariants.{BadHead, BadLimits, BrokenWords, NoRoom, NotRebuilt, TooFewWords, TooLong, TooManyChildren, UnknownId}
use Rattle.egraph.proofs.Refusal.number.Goals as goal

-- the numbers that the enum's declaration gives its variants are document 01's
declared : (q : Refusal) → (tag_of the_type q + 1 ≡ number_of q) × (number_of q < 10)
declared BadLimits = (refl, omega arith)
declared TooFewWords = (refl, omega arith)
declared BadHead = (refl, omega arith)
declared UnknownId = (refl, omega arith)
declared TooManyChildren = (refl, omega arith)
declared NoRoom = (refl, omega arith)
declared NotRebuilt = (refl, omega arith)
declared TooLong = (refl, omega arith)
declared BrokenWords = (refl, omega arith)

pub returns : goal.returns
returns c = let d = declared c.args.self in (d.0, rw d.0 d.1)
