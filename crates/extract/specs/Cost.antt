-- What `find_best_cost` promises: no word changes, whatever it answers. 3, 4 and 7 come exactly when document 01 says; the only number left is 9, and on words that hold
-- a graph the answer is the price of the id's class in the table that the passes leave.
-- Assumes nothing.
use Rattle.std.specs.Prelude.{Err, None, Ok, Option, Result, Some, List, [], ◌∷◌, ◌≡◌, refl, ℕ}
use Rattle.broken.specs.declared.Broken.{Broken}
use Rattle.broken.specs.Words.{err≢ok}
use Rattle.std.proofs.Common.{◌∙◌, ap, sym}
use Rattle.steps.specs.Graph.{Graph, root}
use Rattle.egraph.specs.Answers.{Answer, count_says, never, nine, no_by, yes_with}
use Rattle.egraph.specs.ClassLists.{its_clean}
use Rattle.egraph.specs.ClassReads.{AtRest, KidsKnown, at_rest}
use Rattle.egraph.specs.declared.Refusal.{Refusal}
use Rattle.holds.specs.Holds.{Holds}
use Rattle.layout.specs.View.{view}
use Rattle.layout.specs.declared.Head.{Head}
use Rattle.price.specs.Pass.{Best}
use Rattle.pricing.specs.Turn.{Scratched}
use Rattle.extract.specs.Opens.{Free, Ladder, Refused, ScratchCleared, let_through, refused, scratch_back}
use Rattle.extract.specs.Priced.{PricedAs, PricesClass, cost_of}
use Rattle.extract.specs.declared.Priced.{Priced}

-- the price of a class; a class without one is no made graph's
abbrev pub price_says : Option (Best ℕ) → Answer
price_says None = no_by 9
price_says (Some b) = yes_with (b.price ∷ [])

-- ---- the promises

pub record CostOpen (ws : List ℕ) (i : ℕ) (r : Result ℕ Refusal) : Type 0 where
  pub fair : (k : ℕ) → count_says r ≡ no_by k → k ≡ 9
  pub sound : (g : Graph) → Holds ws g → KidsKnown g → count_says r ≡ price_says (cost_of g i)

pub record CostSays (ws : List ℕ) (i : ℕ) (r : Result ℕ Refusal) (ws' : List ℕ) : Type 0 where
  pub same : ws' ≡ ws
  pub says : Ladder ws i (λ (k : ℕ). count_says r ≡ no_by k) (CostOpen ws i r)

-- ---- the work, which a scratch part that is 0 is lent for

pub record WorksOut (h : Head) (i : ℕ) (ws : List ℕ) (r : Result ℕ Refusal) (ws' : List ℕ) : Type 0 where
  pub only : Scratched h.n h.m ws ws'
  pub fair : (k : ℕ) → count_says r ≡ no_by k → k ≡ 9
  pub sound : (g : Graph) → AtRest h (view h.n h.m ws) g → count_says r ≡ price_says (cost_of g i)

module _ (h : Head) (i : ℕ) (ws ws1 : List ℕ) (p : Result Priced Broken) (P : PricesClass h i ws p ws1) where
  pub work_done : (y : Priced) → p ≡ Ok y → WorksOut h i ws (Ok y.size) ws1
  work_done y e = record { only = P.only; fair = λ k q. absurd (never k y.size q); sound = λ g R. go g (cost_of g i) (P.law g R) }
    where
      go : (g : Graph) (o : Option (Best ℕ)) → PricedAs h g i p (view h.n h.m ws1).scratch o → ◌≡◌ {A = Answer} (yes_with (y.size ∷ [])) (price_says o)
      go g None A = err≢ok (sym A ∙ e)
      go g (Some b) A =
          let same : y ≡ record { root = record { 0 = root g.roots i }; size = b.price } = cc (e, A.0) in
          ap (λ (x : Priced). yes_with (x.size ∷ [])) same

-- ---- the call

module _ (ws : List ℕ) (i : ℕ) where
  pub cost_refused : (q : Refusal) → Refused ws i q → CostSays ws i (Err q) ws
  cost_refused q R = record {
    same = refl;
    says =
        refused ws i (λ (k : ℕ). count_says (Err q) ≡ no_by k) (λ (p : Refusal). CostOpen ws i (Err p)) q R refl
        (λ no. record { fair = nine; sound = λ g H K. absurd (no g H) });
  }

  pub cost_done : (h : Head) → Free ws i h → (r : Result ℕ Refusal) (ws1 ws2 : List ℕ) → WorksOut h i ws r ws1 → ScratchCleared h.n h.m ws1 ws2
      → CostSays ws i r ws2
  cost_done h F r ws1 ws2 W Z = record {
    same = scratch_back F.clear W.only Z;
    says =
        let_through (λ (k : ℕ). count_says r ≡ no_by k) ws i h F
        (record { fair = W.fair; sound = λ g H K. W.sound g (at_rest ws h g F.head_is H (its_clean ws h F.head_is F.clean g H) K) });
  }
