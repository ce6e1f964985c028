-- The passes of document 01 ("The price of a form"): they run over the classes in ascending root id until a pass changes nothing. In each, the first node
-- in node order with the least price is proposed; it is taken if the class has none yet, or if its price is strictly less.
-- Assumes nothing.
use Rattle.std.specs.Prelude.{List, [], ◌∷◌, ◌≢◌, ◌≡◌, suc, zero, ℕ, length, Option, None, Some}
use Rattle.std.proofs.Math.Decide.{ℕ_discrete}
use Rattle.lists.specs.Tests.{when}
use Rattle.language.specs.Term.{Term}
use Rattle.price.specs.Rule.{Rule}

-- a price, and the node that earned it
pub record Best (P : Type 0) : Type 0 where
  pub price : P
  pub node : Term

-- what was taken, newest first: the first entry of a class counts
abbrev pub Table : Type 0 → Type 0
Table P = List (ℕ × Best P)

module _ {P : Type 0} where
  -- the entry of class r
  unfoldable pub look : ℕ → Table P → Option (Best P)
  look r [] = None
  look r (e ∷ t) = when (ℕ_discrete r e.0) (Some e.1) (look r t)

  unfoldable pub with_price : Option (Best P) → Option (List P) → Option (List P)
  with_price None ps = None
  with_price (Some b) None = None
  with_price (Some b) (Some ps) = Some (b.price ∷ ps)

  -- the prices of the classes cs, if all have one
  unfoldable pub prices : Table P → List ℕ → Option (List P)
  prices t [] = Some []
  prices t (c ∷ cs) = with_price (look c t) (prices t cs)

module _ {P : Type 0} (R : Rule P) where
  -- a node with an unpriced child has no price
  unfoldable pub priced : Term → Option (List P) → Option P
  priced x None = None
  priced x (Some ps) = Some (R.of x.op x.payload ps)

  unfoldable pub better : Term → Option P → Option (Best P) → Option (Best P)
  better x None o = o
  better x (Some p) None = Some (record { price = p; node = x })
  better x (Some p) (Some b) = when (R.test p b.price) (Some (record { price = p; node = x })) (Some b)

  -- of the nodes xs, the first with the least price: x is better than what follows if its price is no greater
  unfoldable pub best : Table P → List Term → Option (Best P)
  best t [] = None
  best t (x ∷ xs) = better x (priced x (prices t x.kids)) (best t xs)

  -- class r has the entry `old`, and b is proposed: taken if there is none yet, or if b's price is strictly less
  unfoldable pub accept : ℕ → Option (Best P) → Option (Best P) → Table P → Table P
  accept r old None t = t
  accept r None (Some b) t = (r, b) ∷ t
  accept r (Some a) (Some b) t = when (R.test a.price b.price) t ((r, b) ∷ t)

-- `nodes r` are the nodes of class r, in node order
module _ {P : Type 0} (R : Rule P) (nodes : ℕ → List Term) where
  -- one class's turn
  unfoldable pub turn : ℕ → Table P → Table P
  turn r t = accept R r (look r t) (best R t (nodes r)) t

  -- a pass over the classes rs, in this order: what one turn takes counts in the next
  unfoldable pub pass : List ℕ → Table P → Table P
  pass [] t = t
  pass (r ∷ rs) t = pass rs (turn r t)

  -- n passes lead from the first table to the second, and the last of them, alone, changes nothing
  pub data Passes (rs : List ℕ) : ℕ → Table P → Table P → Type 0 where
    done : {t : Table P} → pass rs t ≡ t → Passes rs 1 t t
    more : {t u : Table P} {n : ℕ} → pass rs t ≢ t → Passes rs n (pass rs t) u → Passes rs (suc n) t u

  -- n passes
  unfoldable pub after : List ℕ → ℕ → Table P → Table P
  after rs zero t = t
  after rs (suc n) t = pass rs (after rs n t)

  -- the table in the end: after as many passes as there are classes (`passes_end`: this is what the passes leave)
  abbrev pub final : List ℕ → Table P
  final rs = after rs (length rs) []

  -- the same, to compute with: at most n passes, stopped by one that takes nothing
  unfoldable pub passes_on : {A : Type 0} → Dec A → Table P → (Table P → Table P) → Table P
  passes_on (yes e) u next = u
  passes_on (no n) u next = next u

  unfoldable pub passes : List ℕ → ℕ → Table P → Table P
  passes rs zero t = t
  passes rs (suc n) t = let u = pass rs t in passes_on (ℕ_discrete (length u) (length t)) u (passes rs n)
