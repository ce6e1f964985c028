-- What AstSize says: the size of a form is its number of nodes, capped; the size given for a class is the least of any finite form in it, and the listed form has it.
-- Assumes nothing.
use Rattle.std.specs.Prelude.{List, [], ◌∷◌, ◌≡◌, ◌+◌, ◌<◌, ◌≤◌, min, ℕ, length, Some}
use Rattle.std.proofs.Math.Decide.{dec_le}
use Rattle.std.proofs.Common.{arith}
use Rattle.steps.specs.Classes.{class_nodes, class_roots}
use Rattle.steps.specs.Forced.{Made}
use Rattle.steps.specs.Graph.{Graph, ids, root}
use Rattle.price.specs.Adding.{Adding, add_on, adding}
use Rattle.price.specs.Chosen.{backed}
use Rattle.price.specs.Extract.{table}
use Rattle.price.specs.Form.{Form, Forms, ◌then◌, form, no_form}
use Rattle.price.specs.Graphs.{Lists, least_price, listed_form}
use Rattle.price.specs.Pass.{Best, look}
use Rattle.price.specs.Rule.{Rule, cost, costs}
use Rattle.price.specs.Size.{AstSize, Capped, LeastSize, ast_size, ast_sizes, cap}

one_cap : 1 ≤ cap
unfolding cap
one_cap = omega arith

mutual
  unfolding cost ast_size add_on

  pub size_of : (f : Form) → cost AstSize f ≡ min (ast_size f) cap
  size_of (form o l fs) = sizes_of fs 1 1 (omega (arith, one_cap))

  sizes_of : (fs : Forms) (a b : ℕ) → a ≡ min b cap → add_on Capped a (costs AstSize fs) ≡ min (b + ast_sizes fs) cap
  sizes_of no_form a b e = omega arith
  sizes_of (f then fs) a b e = omega (arith, sizes_of fs (min (a + cost AstSize f) cap) (b + ast_size f) (omega (arith, size_of f)))

-- ---- the plain size, as a rule without a cap: the least of a class exists

abbrev Uncapped : Adding ℕ
Uncapped = record {
  plus = ◌+◌;
  Le = ◌≤◌;
  test = dec_le;
  total = λ p q n. omega arith;
  trans = λ p q s h k. omega arith;
  rises = λ a b p q h k. omega arith;
  left = λ a p. omega arith;
  right = λ a p. omega arith;
}

abbrev Plain : Rule ℕ
Plain = adding Uncapped (λ o l. 1)

mutual
  unfolding cost ast_size add_on

  plain_of : (f : Form) → cost Plain f ≡ ast_size f
  plain_of (form o l fs) = plains_of fs 1

  plains_of : (fs : Forms) (a : ℕ) → add_on Uncapped a (costs Plain fs) ≡ a + ast_sizes fs
  plains_of no_form a = omega arith
  plains_of (f then fs) a = omega (arith, plain_of f, plains_of fs (a + cost Plain f))

-- ---- demand 2: the size given for a class is the least AstSize of any finite form in it, capped at 2^64 - 1

pub size_least : {us : List (ℕ × ℕ)} {g : Graph} → Made us g → (i : ℕ) → i < ids g → LeastSize g (root g.roots i)
size_least {us} {g} M i lt =
    let p = least_price Plain M i lt in
    let s = least_price AstSize M i lt in
    let f = p.cheapest in
    let k = s.cheapest in
    let low : ast_size f ≤ ast_size k = omega (arith, plain_of f, plain_of k, p.at_price, p.least k s.in_class) in
    record {
      smallest = f;
      in_class = p.in_class;
      least = λ h H. omega (arith, plain_of f, plain_of h, p.at_price, p.least h H);
      best = s.best;
      entry = s.entry;
      is = omega (arith, size_of f, size_of k, s.at_price, s.least f p.in_class);
    }

-- ---- and the listed form has that size

size_fits : (a : ℕ) (ps : List ℕ) → a ≤ cap → add_on Capped a ps ≤ cap
unfolding add_on
size_fits a [] h = h
size_fits a (p ∷ ps) h = size_fits (min (a + p) cap) ps (omega arith)

pub size_listed : {us : List (ℕ × ℕ)} {g : Graph} → Made us g → (r : ℕ) (b : Best ℕ) → look r (table AstSize g) ≡ Some b
    → (h : Lists AstSize g (table AstSize g) r b.price) × (min (ast_size h.shape) cap ≡ b.price)
size_listed {us} {g} M r b e =
    let h = listed_form AstSize M r b e in
    let k = backed AstSize (class_nodes g) (class_roots g) (length (class_roots g)) r b e in
    (h, omega (arith, size_of h.shape, h.no_more, h.no_less, size_fits 1 k.1.0 one_cap, k.1.2))
