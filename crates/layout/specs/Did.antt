-- What a step leaves that writes a graph (`GraphMut` of src/graph.rt). A struct that holds a loan may be given another one, so each step says that it kept the loan:
-- only then does a caller know that the words it lent are the ones that were written.
-- Assumes nothing.
use Rattle.std.specs.Prelude.{Err, List, Ok, Result, ◌≡◌, refl, ℕ, length}
use Rattle.std.proofs.Common.{◌∙◌}
use Rattle.layout.specs.Head.{HeadIs}
use Rattle.layout.specs.View.{hd}
use Rattle.layout.specs.declared.Head.{Head}
use Rattle.layout.specs.declared.graph.GraphMut.{GraphMut}

-- the same loan
abbrev pub SameLoan : GraphMut → GraphMut → Type 0
SameLoan g g' = g'.ws.ghost_name ≡ g.ws.ghost_name

-- its head is the one that stands in the words
abbrev pub HeadStood : GraphMut → Type 0
HeadStood g = HeadIs (length g.ws.now) (hd g.ws.now) g.h

-- the loan and the head are as they were, and P holds between the words before and after
pub record Did (P : List ℕ → List ℕ → Type 0) (g g' : GraphMut) : Type 0 where
  pub loan : SameLoan g g'
  pub head : g'.h ≡ g.h
  pub did : P g.ws.now g'.ws.now

-- nothing was done
pub did_none : {P : List ℕ → List ℕ → Type 0} {g : GraphMut} → P g.ws.now g.ws.now → Did P g g
did_none p = record { loan = refl; head = refl; did = p }

-- what was done may be said otherwise
pub did_as : {P Q : List ℕ → List ℕ → Type 0} {g g' : GraphMut} → Did P g g' → Q g.ws.now g'.ws.now → Did Q g g'
did_as a q = record { loan = a.loan; head = a.head; did = q }

-- one step after another: what both promise, through the words between
pub did_both : {P Q : List ℕ → List ℕ → Type 0} {g g1 g2 : GraphMut} → Did P g g1 → Did Q g1 g2 → Did (λ ws ws'. (w : List ℕ) × P ws w × Q w ws') g g2
did_both {g1 = g1} a b = record { loan = b.loan ∙ a.loan; head = b.head ∙ a.head; did = (g1.ws.now, a.did, b.did) }

-- the same, said otherwise
pub did_then : {P Q R : List ℕ → List ℕ → Type 0} {g g1 g2 : GraphMut} → Did P g g1 → Did Q g1 g2 → R g.ws.now g2.ws.now → Did R g g2
did_then a b r = record { loan = b.loan ∙ a.loan; head = b.head ∙ a.head; did = r }

-- the answer of a step with the head that it leaves, where it was not refused. After a refusal nothing is said of the head but that it is good for the words: no call
-- writes it then.
abbrev pub headed : {E : Type 0} → Head → Result Unit E → Result Head E
headed h (Ok _) = Ok h
headed h (Err e) = Err e
