-- What the promise of `find_best_cost` comes to: demand 2's sentence on sizes, that the size given for a class is the least AstSize of any finite form in it, capped at
-- 2^64 - 1; that 9 never comes on words that calls made; and that two outcomes are one. That no word changes is in the promise itself.
-- Assumes nothing.
use Rattle.egraph.specs.declared.Refusal.{Refusal}
use Rattle.std.specs.Prelude.{Result, true, List, [], ◌∷◌, ◌≡◌, ◌<◌, min, ℕ}
use Rattle.std.proofs.Common.{◌∙◌, ap, sym}
use Rattle.steps.specs.Forced.{Made}
use Rattle.steps.specs.Graph.{Graph, ids, root}
use Rattle.closure.specs.Kept.{made_good}
use Rattle.egraph.specs.Answers.{SameLimits, count_says, yes_with}
use Rattle.egraph.specs.ClassReads.{KidsKnown}
use Rattle.extract.specs.Cost.{CostSays, price_says}
use Rattle.holds.specs.Holds.{Holds}
use Rattle.price.specs.Size.{LeastSize, ast_size, cap}
use Rattle.price.proofs.Size.{size_least}
use Rattle.theorems.specs.Course.{Run}
use Rattle.theorems.specs.Outcomes.{One, clean_ends, id_ends, left_alone, open_both}

-- ---- demand 2

-- the children of a made graph's nodes are ids
pub made_known : {us : List (ℕ × ℕ)} {g : Graph} → Made us g → KidsKnown g
made_known M = (made_good M).shape.kids_lt

-- the answer is the size of a form of the id's class that no other form of the class is smaller than, capped
pub record Smallest (g : Graph) (i : ℕ) (r : Result ℕ Refusal) : Type 0 where
  pub size : LeastSize g (root g.roots i)
  pub is : count_says r ≡ yes_with (min (ast_size size.smallest) cap ∷ [])

module _ (us : List (ℕ × ℕ)) (ws : List ℕ) (g : Graph) (C : Run us ws g) where
  -- a known id of a clean graph: the answer is the least size, and no word has changed
  pub run_cost : (i : ℕ) (r : Result ℕ Refusal) (ws' : List ℕ) → CostSays ws i r ws' → g.clean ≡ true → i < ids g → Smallest g i r × (ws' ≡ ws)
  run_cost i r ws' S c lt =
      let I = C.holds.at_rest in
      let o = (((S.says.on C.holds.good).on (rw I.ids_are lt)).on (I.clean_is ∙ c)).sound g C.holds (made_known C.made) in
      let z = size_least C.made i lt in
      (record { size = z; is = o ∙ ap price_says z.entry ∙ ap (λ (p : ℕ). yes_with (p ∷ [])) z.is }, S.same)

-- ---- two outcomes are one

-- of two slices of words that hold one graph under the same limits: one answer, and no word of either has changed
pub cost_one : (ws ws' : List ℕ) (g : Graph) → Holds ws g → Holds ws' g → SameLimits ws ws' → KidsKnown g → (i : ℕ) (r r' : Result ℕ Refusal) (ws1 ws1' : List ℕ)
    → CostSays ws i r ws1 → CostSays ws' i r' ws1' → One (count_says r) (count_says r') ws1 ws1'
cost_one ws ws' g H H' L K i r r' ws1 ws1' S T =
    left_alone ws ws' g H H' L S.same T.same
    (open_both ws ws' g H H' L S.says T.says (λ s t. id_ends ws ws' g H H' L i s t (λ p q. p ∙ sym q)
    (λ s t. clean_ends ws ws' g H H' L s t (λ p q. p ∙ sym q) (λ p q. p.sound g H K ∙ sym (q.sound g H' K)))))
