-- A rule prices a node from its operator, its payload and its children's prices. Asked of it: it never falls when a child's price rises, and never gives
-- less than a child's price. Document 01's AstSize is one (Size); the theorems are over any.
-- Assumes nothing.
use Rattle.std.specs.Prelude.{List, [], ◌∷◌, ℕ}
use Rattle.lists.specs.Members.{Mem}
use Rattle.price.specs.Form.{Form, Forms, ◌then◌, form, no_form}

-- place by place
unfoldable pub Each : {A B : Type 0} → (A → B → Type 0) → List A → List B → Type 0
Each L [] [] = Unit {0}
Each L [] (q ∷ qs) = ⊥
Each L (p ∷ ps) [] = ⊥
Each L (p ∷ ps) (q ∷ qs) = L p q × Each L ps qs

-- an order that is total and can be tested has each price at most itself
pub total_same : {P : Type 0} (Le : P → P → Type 0) → ((p q : P) → Dec (Le p q)) → ((p q : P) → ¬ Le p q → Le q p) → (p : P) → Le p p
total_same Le test total p = go (test p p)
  where
    go : Dec (Le p p) → Le p p
    go (yes h) = h
    go (no n) = total p p n

pub record Rule (P : Type 0) : Type 1 where
  pub of : ℕ → ℕ → List P → P
  pub Le : P → P → Type 0
  pub test : (p q : P) → Dec (Le p q)
  pub total : (p q : P) → ¬ Le p q → Le q p
  pub trans : (p q s : P) → Le p q → Le q s → Le p s
  pub rises : (o l : ℕ) (ps qs : List P) → Each Le ps qs → Le (of o l ps) (of o l qs)
  pub above : (o l : ℕ) (p : P) (ps : List P) → Mem p ps → Le p (of o l ps)

module _ {P : Type 0} (R : Rule P) where
  -- the price of a form
  unfoldable mutual
    pub cost : Form → P
    cost (form o l fs) = R.of o l (costs fs)

    pub costs : Forms → List P
    costs no_form = []
    costs (f then fs) = cost f ∷ costs fs

  pub same_le : (p : P) → R.Le p p
  same_le p = total_same R.Le R.test R.total p
