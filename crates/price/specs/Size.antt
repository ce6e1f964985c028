-- AstSize as document 01 has it ("The price of a form"): 1 plus the children's sizes, added left to right, saturating at 2^64 - 1.
-- `LeastSize` is demand 2's sentence on sizes, that the size given for a class is the least AstSize of any finite form in it, capped; `size_least` of proofs, Size, proves it.
-- Assumes nothing.
use Rattle.std.specs.Prelude.{◌≡◌, ◌+◌, ◌≤◌, min, ℕ, Some}
use Rattle.std.proofs.Math.Decide.{dec_le}
use Rattle.std.proofs.Common.{arith}
use Rattle.steps.specs.Graph.{Graph}
use Rattle.price.specs.Adding.{Adding, adding}
use Rattle.price.specs.Extract.{FormOf, table}
use Rattle.price.specs.Form.{Form, Forms, ◌then◌, form, no_form}
use Rattle.price.specs.Pass.{Best, look}
use Rattle.price.specs.Rule.{Rule}

-- ---- sizes

unfoldable pub cap : ℕ
cap = 18446744073709551615

-- the size, not capped
unfoldable mutual
  pub ast_size : Form → ℕ
  ast_size (form o l fs) = 1 + ast_sizes fs

  pub ast_sizes : Forms → ℕ
  ast_sizes no_form = 0
  ast_sizes (f then fs) = ast_size f + ast_sizes fs

-- ---- the rule

-- numbers above the cap count as the cap (no size is above it)
abbrev pub Upto : ℕ → ℕ → Type 0
Upto p q = min p cap ≤ min q cap

sum_cap : (a b p q : ℕ) → a ≤ b → p ≤ q → min (a + p) cap ≤ min (b + q) cap
sum_cap a b p q h k = omega arith

add_cap : (a p : ℕ) → min (min (a + p) cap) cap ≡ min (min a cap + min p cap) cap
add_cap a p = omega arith

pub cap_rises : (a b p q : ℕ) → Upto a b → Upto p q → Upto (min (a + p) cap) (min (b + q) cap)
cap_rises a b p q h k = rw (add_cap a p, add_cap b q) (sum_cap (min a cap) (min b cap) (min p cap) (min q cap) h k)

abbrev pub Capped : Adding ℕ
Capped = record {
  plus = λ a p. min (a + p) cap;
  Le = Upto;
  test = λ p q. dec_le (min p cap) (min q cap);
  total = λ p q n. omega arith;
  trans = λ p q s h k. omega arith;
  rises = cap_rises;
  left = λ a p. omega arith;
  right = λ a p. omega arith;
}

abbrev pub AstSize : Rule ℕ
AstSize = adding Capped (λ o l. 1)

-- ---- 4. demand 2: the size given for a class is the least AstSize of any finite form in it, capped at 2^64 - 1

-- f is a form of class r that no form of the class is smaller than, and the size given for the class is f's, capped
pub record LeastSize (g : Graph) (r : ℕ) : Type 0 where
  pub smallest : Form
  pub in_class : FormOf g smallest r
  pub least : (f : Form) → FormOf g f r → ast_size smallest ≤ ast_size f
  pub best : Best ℕ
  pub entry : look r (table AstSize g) ≡ Some best
  pub is : best.price ≡ min (ast_size smallest) cap
