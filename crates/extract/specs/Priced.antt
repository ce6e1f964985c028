-- The class of an id and its price, with the prices of all classes left in the scratch part: what the two calls of this crate begin with. `price_class` promises that it
-- writes prices and marks alone, and that on words that hold a clean graph it answers the price in the table that the passes leave, with all in place for a walk.
-- Assumes nothing.
use Rattle.std.specs.Prelude.{None, Ok, Option, Result, Some, List, ◌≡◌, refl, ◌<◌, ℕ}
use Rattle.broken.specs.declared.Broken.{Broken}
use Rattle.broken.specs.Words.{apart, broken, err≢ok}
use Rattle.std.proofs.Common.{◌∙◌, ap, arith}
use Rattle.language.specs.declared.Id.{Id}
use Rattle.steps.specs.Graph.{Graph, root}
use Rattle.egraph.specs.ClassReads.{AtRest, ClassRoot, classed_ids}
use Rattle.layout.specs.Idle.{lent_same}
use Rattle.layout.specs.View.{view}
use Rattle.layout.specs.declared.Head.{Head}
use Rattle.price.specs.Extract.{table}
use Rattle.price.specs.Pass.{Best, look}
use Rattle.price.specs.Size.{AstSize}
use Rattle.pricing.specs.Costs.{FindsCosts}
use Rattle.pricing.specs.Entries.{EntryAt, Means, entry_as}
use Rattle.pricing.specs.Turn.{Scratched}
use Rattle.pricing.specs.declared.Entry.{Entry}
use Rattle.walking.specs.Walk.{Ready, ready}
use Rattle.extract.specs.declared.Priced.{Priced}

-- the price of the class of id i
abbrev pub cost_of : Graph → ℕ → Option (Best ℕ)
cost_of g i = look (root g.roots i) (table AstSize g)

-- a class without a price is no made graph's; else its root and its price are answered
abbrev pub PricedAs : Head → Graph → ℕ → Result Priced Broken → List ℕ → Option (Best ℕ) → Type 0
PricedAs h g i r ss None = r ≡ broken
PricedAs h g i r ss (Some b) = (r ≡ Ok (record { root = (record { 0 = root g.roots i }); size = b.price })) × Ready h g (root g.roots i) ss

pub record PricesClass (h : Head) (i : ℕ) (ws : List ℕ) (r : Result Priced Broken) (ws' : List ℕ) : Type 0 where
  pub only : Scratched h.n h.m ws ws'
  pub low : (y : Priced) → r ≡ Ok y → y.root.0 < h.n
  pub law : (g : Graph) → AtRest h (view h.n h.m ws) g → PricedAs h g i r (view h.n h.m ws').scratch (cost_of g i)

module _ (h : Head) (i : ℕ) (ws : List ℕ) (hi : i < h.ids) (f : Result Id Broken) (F : ClassRoot h (view h.n h.m ws) i f) where
  -- the root on words that hold a clean graph
  found : (g : Graph) → AtRest h (view h.n h.m ws) g → f ≡ Ok (record { 0 = root g.roots i })
  found g R = F.sound g R.classes (omega (arith, classed_ids R.classes))

  pub price_lost : f ≡ broken → PricesClass h i ws broken ws
  price_lost e = record { only = lent_same ws (λ j l. refl); low = λ p z. err≢ok z; law = λ g R. apart e (found g R) }

  module _ (x : Id) (e : f ≡ Ok x) where
    root_is : (g : Graph) → AtRest h (view h.n h.m ws) g → x.0 ≡ root g.roots i
    root_is g R = let w : x ≡ record { 0 = root g.roots i } = cc (e, found g R) in ap (λ (y : Id). y.0) w

    module _ (ws1 : List ℕ) (o : Result Unit Broken) (C : FindsCosts h ws o ws1) where
      module _ (y : Option Entry) (lt : x.0 < h.n) (E : EntryAt h.n (view h.n h.m ws1).scratch x.0 y) where
        -- the entry of the id's class
        entry_is : (g : Graph) → AtRest h (view h.n h.m ws) g → Means g y (cost_of g i)
        entry_is g R = rw (← root_is g R) (entry_as g h.n (view h.n h.m ws1).scratch (table AstSize g) x.0 y (C.law g R).1 lt E)

        pub price_none : y ≡ None → PricesClass h i ws broken ws1
        price_none z = record { only = C.only; low = λ p w. err≢ok w; law = λ g R. go g (cost_of g i) (rw z at (entry_is g R)) }
          where
            go : (g : Graph) (o : Option (Best ℕ)) → Means g None o → PricedAs h g i broken (view h.n h.m ws1).scratch o
            go g None M = refl
            go g (Some b) M = absurd M

        pub price_done : (e : Entry) → y ≡ Some e → PricesClass h i ws (Ok (record { root = x; size = e.price })) ws1
        price_done e s = record {
          only = C.only;
          low = λ p w. let z : record { root = x; size = e.price } ≡ p = cc in rw (← z) lt;
          law = λ g R. go g R (cost_of g i) refl (rw s at (entry_is g R));
        }
          where
            go : (g : Graph) → AtRest h (view h.n h.m ws) g → (o : Option (Best ℕ)) → cost_of g i ≡ o → Means g (Some e) o
                → PricedAs h g i (Ok (record { root = x; size = e.price })) (view h.n h.m ws1).scratch o
            go g R None w M = absurd M
            go g R (Some b) w M = (
              ap (λ (k : ℕ). (Ok (record { root = (record { 0 = k }); size = e.price }))) (root_is g R)
                  ∙ ap (λ (p : ℕ). (Ok (record { root = (record { 0 = root g.roots i }); size = p }))) M.price_is,
              ready h ws ws1 o C g R (root g.roots i) b w,
            )
