-- A pass over the classes in ascending root id: `pass` promises what `pass` of Pass (price) says. The code gives every id its turn; an id that is no root has no nodes,
-- so its turn takes nothing, and the pass over all ids is the pass over the roots.
-- Assumes nothing.
use Rattle.std.specs.Prelude.{Ok, Result, ◌≡◌, ◌+◌, suc, ℕ, Bool, false, ◌||◌}
use Rattle.broken.specs.declared.Broken.{Broken}
use Rattle.broken.specs.Words.{broken, err≢ok}
use mathlib.Core.List.{List, [], ◌++◌, ◌∷◌, filter}
use Rattle.std.proofs.Math.Logic.{ite}
use Rattle.std.proofs.Common.{◌∙◌, sym, add-one}
use Rattle.std.proofs.Math.Path.{ap, refl}
use Rattle.std.proofs.Math.Decide.{ℕ_discrete}
use Rattle.lists.specs.Keeps.{upto}
use Rattle.lists.specs.Members.{no_member}
use Rattle.language.specs.Term.{Term}
use Rattle.steps.specs.Classes.{class_nodes, class_roots}
use Rattle.steps.specs.Graph.{Graph, ids, root}
use Rattle.closure.specs.Listed.{roots_from}
use Rattle.egraph.specs.ClassReads.{Classed, classed_ids, classed_lent, classed_listed}
use Rattle.layout.specs.Idle.{lent_same}
use Rattle.layout.specs.View.{View, view}
use Rattle.layout.specs.declared.Head.{Head}
use Rattle.price.specs.Pass.{Table, accept, best, pass, turn}
use Rattle.price.specs.Size.{AstSize}
use Rattle.pricing.specs.Entries.{Prices}
use Rattle.pricing.specs.Turn.{Scratched, Took, Turns, scratched_then, Grown, grown_then}

-- ---- over plain lists

module _ (nodes : ℕ → List Term) where
  pass_append : (rs qs : List ℕ) (t : Table ℕ) → pass AstSize nodes (rs ++ qs) t ≡ pass AstSize nodes qs (pass AstSize nodes rs t)
  unfolding pass
  pass_append [] qs t = refl
  pass_append (r ∷ rs) qs t = pass_append rs qs (turn AstSize nodes r t)

  -- one class more
  pub pass_upto : (i : ℕ) (t : Table ℕ) → pass AstSize nodes (upto (suc i)) t ≡ turn AstSize nodes i (pass AstSize nodes (upto i) t)
  unfolding pass upto
  pass_upto i t = pass_append (upto i) (i ∷ []) t

  -- no nodes, nothing taken
  turn_none : (r : ℕ) (t : Table ℕ) → nodes r ≡ [] → turn AstSize nodes r t ≡ t
  unfolding turn best accept
  turn_none r t e = rw e refl

  module _ {P : ℕ → Type 0} (test : (r : ℕ) → Dec (P r)) (empty : (r : ℕ) → ¬ P r → nodes r ≡ []) where
    -- those that fail the test may be passed over
    pub pass_filter : (rs : List ℕ) (t : Table ℕ) → pass AstSize nodes (filter test rs) t ≡ pass AstSize nodes rs t
    unfolding pass
    pass_filter [] t = refl
    pass_filter (r ∷ rs) t = go (test r) (pass_filter rs)
      where
        go : (d : Dec (P r)) → ((u : Table ℕ) → pass AstSize nodes (filter test rs) u ≡ pass AstSize nodes rs u)
            → pass AstSize nodes (ite {C = List ℕ} d (r ∷ filter test rs) (filter test rs)) t ≡ pass AstSize nodes rs (turn AstSize nodes r t)
        go (yes p) ih = ih (turn AstSize nodes r t)
        go (no n) ih = ih t ∙ ap (pass AstSize nodes rs) (sym (turn_none r t (empty r n)))

-- the pass over all ids is the pass over the roots
pub pass_all : {h : Head} {v : View} (g : Graph) → Classed h v g → (t : Table ℕ) → pass AstSize (class_nodes g) (class_roots g) t ≡ pass AstSize (class_nodes g) (upto (ids g)) t
pass_all g C t =
    pass_filter (class_nodes g) (λ (i : ℕ). ℕ_discrete (root g.roots i) i)
    (λ r n. no_member (class_nodes g r) (λ x m. n (roots_from g r (classed_listed C r x m)).1)) (upto (ids g)) t

-- ---- the loop

pub record Passes (h : Head) (ws : List ℕ) (r : Result Bool Broken) (ws' : List ℕ) : Type 0 where
  pub only : Scratched h.n h.m ws ws'
  pub law : (g : Graph) (t : Table ℕ) → Classed h (view h.n h.m ws) g → Prices g h.n (view h.n h.m ws).scratch t
      → Took g h.n (view h.n h.m ws').scratch t (pass AstSize (class_nodes g) (class_roots g) t) r

-- the ids below i have had their turn, and k says whether one of them took an entry
pub record Passing (h : Head) (i : ℕ) (k : Bool) (ws ws' : List ℕ) : Type 0 where
  pub only : Scratched h.n h.m ws ws'
  pub law : (g : Graph) (t : Table ℕ) → Classed h (view h.n h.m ws) g → Prices g h.n (view h.n h.m ws).scratch t
      → Took g h.n (view h.n h.m ws').scratch t (pass AstSize (class_nodes g) (upto i) t) (Ok k)

pub took_grown : {g : Graph} {n : ℕ} {ss : List ℕ} {t u : Table ℕ} {r : Result Bool Broken} {k : Bool} → r ≡ Ok k → Took g n ss t u r → Grown k t u
took_grown {k = k} e T = let z : T.taken ≡ k = cc (e, T.is) in rw z at T.grown

module _ (h : Head) (ws : List ℕ) where
  pub passing_start : Passing h 0 false ws ws
  unfolding pass upto
  passing_start = record { only = lent_same ws (λ i l. refl); law = λ g t C P. record { taken = false; is = refl; prices = P; grown = refl } }

  module _ (i : ℕ) (k : Bool) (ws1 ws2 : List ℕ) (A : Passing h i k ws ws1) (r : Result Bool Broken) (B : Turns h i ws1 r ws2) where
    -- the turn of id i, after those below it
    took : (g : Graph) (t : Table ℕ) → Classed h (view h.n h.m ws) g → Prices g h.n (view h.n h.m ws).scratch t
        → Took g h.n (view h.n h.m ws2).scratch (pass AstSize (class_nodes g) (upto i) t) (turn AstSize (class_nodes g) i (pass AstSize (class_nodes g) (upto i) t)) r
    took g t C P = B.law g (pass AstSize (class_nodes g) (upto i) t) (classed_lent A.only C) (A.law g t C P).prices

    pub passing_more : (j : Bool) → r ≡ Ok j → Passing h (i + 1) (k || j) ws ws2
    passing_more j e = record {
      only = scratched_then A.only B.only;
      law = λ g t C P. one g t (took_grown refl (A.law g t C P)) (took g t C P);
    }
      where
        one : (g : Graph) (t : Table ℕ) → Grown k t (pass AstSize (class_nodes g) (upto i) t)
            → Took g h.n (view h.n h.m ws2).scratch (pass AstSize (class_nodes g) (upto i) t) (turn AstSize (class_nodes g) i (pass AstSize (class_nodes g) (upto i) t)) r
            → Took g h.n (view h.n h.m ws2).scratch t (pass AstSize (class_nodes g) (upto (i + 1)) t) (Ok (k || j))
        one g t l T =
            rw (add-one i, pass_upto (class_nodes g) i t)
            (record { taken = k || j; is = refl; prices = T.prices; grown = grown_then k j _ _ _ l (took_grown e T) })

    pub pass_broken : r ≡ broken → Passes h ws broken ws2
    pass_broken e = record {
      only = scratched_then A.only B.only;
      law = λ g t C P. let T = took g t C P in err≢ok (sym e ∙ T.is);
    }

  pub pass_done : (i : ℕ) (k : Bool) (ws' : List ℕ) → i ≡ h.ids → Passing h i k ws ws' → Passes h ws (Ok k) ws'
  pass_done i k ws' e A = record {
    only = A.only;
    law = λ g t C P. let q : i ≡ ids g = e ∙ classed_ids C in rw (pass_all g C t, ← q) (A.law g t C P);
  }
