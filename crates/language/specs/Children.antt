-- The children of a node as ids, as `children` of src lends them: how many there are, and which stands at a place; and a node over a list of them, made one after the other.
-- Assumes nothing.
use Rattle.std.specs.Prelude.{List, ◌≡◌, ℕ, get_or, length, map, ◌+◌, ◌<◌, refl, take}
use Rattle.std.proofs.Common.{◌∙◌, ap, sym, add-one, take-suc}
use Rattle.std.proofs.Math.ListN.{get_or-map, length-map}
use Rattle.lists.specs.Reads.{at}
use Rattle.language.specs.Term.{Term, grown}
use Rattle.language.specs.declared.Id.{Id}

module _ (x : Term) (ks : List Id) (e : map (λ (k : Id). k.0) ks ≡ x.kids) where
  pub many_kids : length ks ≡ length x.kids
  many_kids = sym (length-map ks (λ (k : Id). k.0)) ∙ ap length e

  pub kid_is : (i : ℕ) → (get_or ks i (record { 0 = 0 })).0 ≡ at x.kids i
  kid_is i = sym (get_or-map (λ (k : Id). k.0) ks i (record { 0 = 0 })) ∙ ap (λ (l : List ℕ). at l i) e

-- the node over the first i numbers of a list, with one child more
pub over_more : (o p : ℕ) (ks : List ℕ) (i : ℕ) (s : Term) → i < length ks → s ≡ record { op = o; payload = p; kids = take i ks }
    → grown s (at ks i) ≡ record { op = o; payload = p; kids = take (i + 1) ks }
unfolding grown
over_more o p ks i s h e = rw (add-one i, take-suc ks i 0 h, e) refl
