-- The price of a node by the prices in the scratch part: 1 and the prices of its children's classes, added left to right, saturating; none if a child has none.
-- `CostsNode` is what `node_total_cost` promises; `Adding` is what its loop has done after i children.
-- Assumes nothing.
use Rattle.std.specs.Prelude.{None, Ok, Result, Some, List, ◌≡◌, ◌+◌, ◌<◌, ◌≤◌, min, suc, ℕ, drop, get_or, length, map, Option}
use Rattle.broken.specs.declared.Broken.{Broken}
use Rattle.broken.specs.Words.{broken}
use Rattle.std.proofs.Common.{◌∙◌, ap, add-one, arith}
use Rattle.std.proofs.Math.Path.{refl, sym}
use Rattle.std.proofs.Math.Seq.{drop-cons, drop-length}
use Rattle.lists.specs.Reads.{at}
use Rattle.language.specs.Term.{Term, Known}
use Rattle.language.specs.declared.Id.{Id}
use Rattle.steps.specs.Graph.{Graph}
use Rattle.price.specs.Adding.{add_on}
use Rattle.price.specs.Pass.{Best, Table, look, priced, prices, with_price}
use Rattle.price.specs.Size.{AstSize, Capped, cap}
use Rattle.pricing.specs.Entries.{EntryAt, Means, Prices, entry_as}
use Rattle.pricing.specs.declared.Entry.{Entry}
use Rattle.language.specs.Children.{kid_is, many_kids}

-- what `node_total_cost` promises
pub record CostsNode (n N : ℕ) (ss : List ℕ) (x : Term) (r : Result (Option ℕ) Broken) : Type 0 where
  pub law : (g : Graph) (t : Table ℕ) → Prices g n ss t → Known x N → r ≡ Ok (priced AstSize x (prices t x.kids))

-- the sum a, and the prices that are still to be added
abbrev pub onto : ℕ → Option (List ℕ) → Option ℕ
onto a None = None
onto a (Some ps) = Some (add_on Capped a ps)

-- i children are added, and the sum of them is a
pub record Adding (n N : ℕ) (ss : List ℕ) (x : Term) (i a : ℕ) : Type 0 where
  pub law : (g : Graph) (t : Table ℕ) → Prices g n ss t → Known x N → priced AstSize x (prices t x.kids) ≡ onto a (prices t (drop i x.kids))

priced_onto : (x : Term) (o : Option (List ℕ)) → priced AstSize x o ≡ onto 1 o
unfolding priced
priced_onto x None = refl
priced_onto x (Some ps) = refl

-- one child more, at the price b
onto_more : (a : ℕ) (b : Best ℕ) (o : Option (List ℕ)) → onto a (with_price (Some b) o) ≡ onto (min (a + b.price) cap) o
unfolding with_price add_on
onto_more a b None = refl
onto_more a b (Some ps) = refl

onto_none : (a : ℕ) (o : Option (List ℕ)) → onto a (with_price None o) ≡ None
unfolding with_price
onto_none a o = refl

module _ (n N : ℕ) (ss : List ℕ) (x : Term) where
  pub adding_start : Adding n N ss x 0 1
  adding_start = record { law = λ g t P K. priced_onto x (prices t x.kids) }

  -- ks are the children, as the loop goes over them
  module _ (ks : List Id) (e : map (λ (k : Id). k.0) ks ≡ x.kids) where
    many : length ks ≡ length x.kids
    many = many_kids x ks e

    -- the one at place i is in hand
    module _ (i : ℕ) (hi : i < length ks) where
      kid : Id
      kid = get_or ks i (record { 0 = 0 })

      its : kid.0 ≡ at x.kids i
      unfolding kid
      its = kid_is x ks e i

      pub cost_stray : N ≤ (get_or ks i (record { 0 = 0 })).0 → CostsNode n N ss x broken
      unfolding kid
      cost_stray off = record { law = λ g t P K. absurd (omega (arith, many, its, K i (omega (arith, many)))) }

      module _ (a : ℕ) (A : Adding n N ss x i a) (lt : (get_or ks i (record { 0 = 0 })).0 < N) (le : N ≤ n)
          (r : Option Entry) (E : EntryAt n ss (get_or ks i (record { 0 = 0 })).0 r) where
        -- the prices from place i on
        split : (t : Table ℕ) → prices t (drop i x.kids) ≡ with_price (look kid.0 t) (prices t (drop (suc i) x.kids))
        unfolding prices
        split t = rw (its, drop-cons x.kids i 0 (omega (arith, many))) refl

        means : (g : Graph) (t : Table ℕ) → Prices g n ss t → Means g r (look kid.0 t)
        unfolding kid
        means g t P = entry_as g n ss t kid.0 r P (omega arith) E

        pub adding_more : (e : Entry) → r ≡ Some e → (a' : ℕ) → a' ≡ min (a + e.price) cap → Adding n N ss x (i + 1) a'
        adding_more e some a' q = record { law = λ g t P K. A.law g t P K ∙ ap (onto a) (split t) ∙ go g t (look kid.0 t) (rw some at (means g t P)) }
          where
            go : (g : Graph) (t : Table ℕ) (o : Option (Best ℕ)) → Means g (Some e) o
                → onto a (with_price o (prices t (drop (suc i) x.kids))) ≡ onto a' (prices t (drop (i + 1) x.kids))
            go g t None M = absurd M
            go g t (Some b) M = rw (add-one i, q, M.price_is) (onto_more a b (prices t (drop (suc i) x.kids)))

        pub cost_none : r ≡ None → CostsNode n N ss x (Ok None)
        cost_none z = record { law = λ g t P K. sym (ap Ok (A.law g t P K ∙ ap (onto a) (split t) ∙ go g t (look kid.0 t) (rw z at (means g t P)))) }
          where
            go : (g : Graph) (t : Table ℕ) (o : Option (Best ℕ)) → Means g None o → onto a (with_price o (prices t (drop (suc i) x.kids))) ≡ None
            go g t None M = onto_none a (prices t (drop (suc i) x.kids))
            go g t (Some b) M = absurd M

    pub cost_all : (i a : ℕ) → i ≡ length ks → Adding n N ss x i a → CostsNode n N ss x (Ok (Some a))
    unfolding prices add_on
    cost_all i a q A = record { law = λ g t P K. sym (ap Ok (A.law g t P K ∙ last t)) }
      where
        last : (t : Table ℕ) → onto a (prices t (drop i x.kids)) ≡ Some a
        last t = rw (q, many, drop-length x.kids) refl
