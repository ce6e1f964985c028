-- Node order, as document 01 has it ("What a graph may hold"): operator, then payload, then child count, then children left to right;
-- that is, the first word that differs decides. Proved: it is a total order.
-- Assumes nothing.
use mathlib.Core.List.{List, head-eq_of_cons-eq, tail-eq_of_cons-eq}
use Rattle.std.specs.Prelude.{◌≡◌, ℕ}
use Rattle.std.proofs.Common.{ap, sym, ◌∙◌}
use Rattle.std.proofs.lemmas.Map.Text.{is_eq-slice_cmp}
use Rattle.std.proofs.lemmas.Slice.Eq.{bytes_eq-Decides}
use Rattle.std.specs.Cmp.{IsTotalOrder}
use Rattle.std.specs.Cmp.Lexicographic.{slice_cmp}
use Rattle.std.specs.Ordering.{is_eq, nat_cmp, ordering_reverse}
use Rattle.std.specs.declared.cmp.Ordering.{Ordering}
use Rattle.std.specs.declared.cmp.Ordering.TheVariants.{Equal, Less}
use Rattle.std.proofs.lemmas.Cmp.{nat_list_cmp_total, tied_itself}
use Rattle.lists.specs.Tests.{zero_one}
use Rattle.language.specs.Term.{Term, term_path, words}

-- ---- the order

-- of two words
unfoldable pub compare : ℕ → ℕ → Ordering
compare = nat_cmp

-- of two lists of words, left to right: the first that are not equal decide, and else the lengths do
unfoldable pub compare_all : List ℕ → List ℕ → Ordering
compare_all = slice_cmp compare

-- of two nodes
unfoldable pub order : Term → Term → Ordering
order s t = compare_all (words s) (words t)

abbrev pub Before : Term → Term → Type 0
Before s t = order s t ≡ Less

-- ---- lists of words

all_total : IsTotalOrder compare_all
unfolding compare compare_all
all_total = nat_list_cmp_total

all_equal : (xs ys : List ℕ) → compare_all xs ys ≡ Equal → xs ≡ ys
unfolding compare compare_all
all_equal xs ys e = (bytes_eq-Decides xs ys).0 (sym (is_eq-slice_cmp xs ys) ∙ ap is_eq e)

-- ---- nodes: reflexive, antisymmetric, total (with the answer turned round), transitive

pub order_refl : (t : Term) → order t t ≡ Equal
unfolding order
order_refl t = tied_itself all_total (words t)

pub order_equal : (s t : Term) → order s t ≡ Equal → s ≡ t
unfolding order
order_equal s t e =
    let h = all_equal (words s) (words t) e in
    term_path (head-eq_of_cons-eq h) (head-eq_of_cons-eq (tail-eq_of_cons-eq h)) (tail-eq_of_cons-eq (tail-eq_of_cons-eq (tail-eq_of_cons-eq h)))

pub order_reversed : (s t : Term) → order t s ≡ ordering_reverse (order s t)
unfolding order
order_reversed s t = all_total.antisymm (words t) (words s)

pub order_trans : (s t u : Term) → Before s t → Before t u → Before s u
unfolding order
order_trans s t u p q = all_total.trans (words s) (words t) (words u) p q

pub before_self : (t : Term) → Before t t → ⊥
before_self t e = let h = sym e ∙ order_refl t in zero_one cc
