-- A node whose row has all its children (`Fit`): the plain node that it means, and what `fit` promises.
-- Assumes nothing.
use Rattle.std.specs.Prelude.{None, Option, Some, ◌≡◌, refl, ◌<◌, ◌≤◌}
use Rattle.std.proofs.Common.{ap, sym, arith}
use Rattle.std.proofs.lemmas.Option.{none-some}
use Rattle.language.specs.Struct.{node_of}
use Rattle.language.specs.Term.{Term, places}
use Rattle.language.specs.declared.Node.{Node}
use Rattle.language.specs.declared.fit.Fit.{Fit}

-- the plain node
abbrev pub term : Fit → Term
term x = node_of x.node

-- the answer is the node itself where it has at most eight children, and there is none where it has more
pub record FitSays (x : Node) (r : Option Fit) : Type 0 where
  pub fits : x.count ≤ places → (y : Fit) × (r ≡ Some y)
  pub same : (y : Fit) → r ≡ Some y → y.node ≡ x
  pub many : places < x.count → r ≡ None

pub fitted : (y : Fit) → FitSays y.node (Some y)
fitted y = record {
  fits = λ h. (y, refl);
  same = λ z e. let same : y ≡ z = cc in ap (λ (w : Fit). w.node) (sym same);
  many = λ h. absurd (omega arith);
}

pub unfit : (x : Node) → places < x.count → FitSays x None
unfit x h = record { fits = λ f. absurd (omega arith); same = λ z e. absurd (none-some _ e); many = λ _. refl }
