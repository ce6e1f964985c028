-- Rules that add, as document 01's AstSize does ("The price of a form": "added left to right"): a weight for the node, then the children's prices, one addition at a time.
-- Nothing is asked of the addition but that it never falls when a part rises and is never less than a part: it may saturate or round.
-- Assumes nothing.
use mathlib.Core.List.{List, [], ◌∷◌}
use Rattle.std.specs.Prelude.{◌⊎◌, ◌≡◌, ℕ}
use Rattle.std.proofs.Common.{inl, inr}
use Rattle.lists.specs.Members.{Mem, mem-cases, mem-nil}
use Rattle.price.specs.Rule.{Each, Rule, total_same}

pub record Adding (P : Type 0) : Type 1 where
  pub plus : P → P → P
  pub Le : P → P → Type 0
  pub test : (p q : P) → Dec (Le p q)
  pub total : (p q : P) → ¬ Le p q → Le q p
  pub trans : (p q s : P) → Le p q → Le q s → Le p s
  pub rises : (a b p q : P) → Le a b → Le p q → Le (plus a p) (plus b q)
  pub left : (a p : P) → Le a (plus a p)
  pub right : (a p : P) → Le p (plus a p)

module _ {P : Type 0} (A : Adding P) where
  unfoldable pub add_on : P → List P → P
  add_on a [] = a
  add_on a (p ∷ ps) = add_on (A.plus a p) ps

  pub adding_refl : (a : P) → A.Le a a
  adding_refl a = total_same A.Le A.test A.total a

  pub on_rises : (a b : P) (ps qs : List P) → A.Le a b → Each A.Le ps qs → A.Le (add_on a ps) (add_on b qs)
  unfolding add_on Each
  on_rises a b [] [] h k = h
  on_rises a b [] (q ∷ qs) h k = absurd k
  on_rises a b (p ∷ ps) [] h k = absurd k
  on_rises a b (p ∷ ps) (q ∷ qs) h k = on_rises (A.plus a p) (A.plus b q) ps qs (A.rises a b p q h k.0) k.1

  pub on_grows : (a : P) (ps : List P) → A.Le a (add_on a ps)
  unfolding add_on
  on_grows a [] = adding_refl a
  on_grows a (p ∷ ps) = A.trans a (A.plus a p) (add_on (A.plus a p) ps) (A.left a p) (on_grows (A.plus a p) ps)

  pub on_above : (a p : P) (ps : List P) → Mem p ps → A.Le p (add_on a ps)
  unfolding add_on
  on_above a p [] m = absurd (mem-nil m)
  on_above a p (q ∷ ps) m = go (mem-cases m) (on_above (A.plus a q) p ps)
    where
      go : (p ≡ q) ⊎ Mem p ps → (Mem p ps → A.Le p (add_on (A.plus a q) ps)) → A.Le p (add_on (A.plus a q) ps)
      go (inl e) ih = A.trans p (A.plus a q) (add_on (A.plus a q) ps) (rw e (A.right a q)) (on_grows (A.plus a q) ps)
      go (inr k) ih = ih k

  -- `weight` reads the operator and the payload
  abbrev pub adding : (ℕ → ℕ → P) → Rule P
  adding weight = record {
    of = λ o l ps. add_on (weight o l) ps;
    Le = A.Le;
    test = A.test;
    total = A.total;
    trans = A.trans;
    rises = λ o l ps qs h. on_rises (weight o l) (weight o l) ps qs (adding_refl (weight o l)) h;
    above = λ o l p ps m. on_above (weight o l) p ps m;
  }
