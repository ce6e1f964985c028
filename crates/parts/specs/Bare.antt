-- What the union-find and the pending stack answer, where their answer is wrapped: an id is an `Id`. `bare_found` and `bare_top` give the
-- leaf's own answer back, with the id as the number in it, and what a leaf promises is said of that.
-- Assumes nothing.
use Rattle.std.specs.Prelude.{ℕ, Result, Ok, Err}
use Rattle.broken.specs.declared.Broken.{Broken}
use Rattle.language.specs.declared.Id.{Id}
use Rattle.pending.specs.declared.OnTop.{OnTop}
use Rattle.pending.specs.declared.OnTop.TheVariants.{TopOne, TopMany}

abbrev pub bare_found : Result Id Broken → Result ℕ Broken
bare_found (Ok x) = Ok x.0
bare_found (Err e) = Err e

abbrev pub bare_top : OnTop Id → OnTop ℕ
bare_top (TopOne x) = TopOne x.0
bare_top (TopMany c k) = TopMany c k
