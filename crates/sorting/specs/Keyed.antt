-- Ids in the node order of their keys, whatever the keys are: a lawful order, and what is arranged by it has the sorted keys.
-- Assumes nothing.
use Rattle.std.specs.Prelude.{List, map, ◌≡◌, refl, ℕ}
use Rattle.std.proofs.Common.{◌∙◌, sym}
use Rattle.std.proofs.Math.Path.{ap}
use Rattle.lists.specs.Members.{Mem, mem-map, mem-of-map}
use Rattle.lists.specs.Sorted.{Ascending, first, none_left, one_list}
use Rattle.language.specs.Ordered.{Before, before_self, order, order_equal, order_refl, order_reversed, order_trans}
use Rattle.language.specs.Sorted.{sorted, sorted_ascending, sorted_from, sorted_has}
use Rattle.language.specs.Term.{Term}
use Rattle.std.specs.declared.cmp.Ordering.{Ordering}
use Rattle.std.specs.declared.cmp.Ordering.TheVariants.{Less}
use Rattle.sorting.specs.Arranged.{Arranged, Lawful}

unfoldable pub keyed : (ℕ → Term) → ℕ → ℕ → Ordering
keyed key x y = order (key x) (key y)

module _ (key : ℕ → Term) where
  pub keyed_lawful : Lawful (keyed key)
  unfolding keyed
  keyed_lawful = record {
    self = λ x. order_refl (key x);
    back = λ x y h. order_reversed (key x) (key y) ∙ rw h refl;
    alike = λ x y z h. ap (λ (t : Term). order t (key z)) (order_equal (key x) (key y) h);
    mirror = λ x y h. order_reversed (key x) (key y) ∙ rw h refl;
    chain = λ x y z h k. order_trans (key x) (key y) (key z) h k;
  }

  keys_ascending : {zs : List ℕ} → Ascending (λ (x y : ℕ). keyed key x y ≡ Less) zs → Ascending Before (map key zs)
  unfolding keyed
  keys_ascending none_left = none_left
  keys_ascending (first {x = x} {l = zs} b a) = first {x = key x} (λ (t : Term) (m : Mem t (map key zs)). let o = mem-of-map key zs m in rw (← o.2) (b o.0 o.1)) (keys_ascending a)

  -- the keys of what is left are the keys of what there was, sorted, each once
  pub arranged_keys : (xs zs : List ℕ) → Arranged (keyed key) xs zs → map key zs ≡ sorted (map key xs)
  unfolding keyed
  arranged_keys xs zs s = one_list Before order_trans before_self (keys_ascending s.rising.ascending) (sorted_ascending (map key xs)) there_too back_too
    where
      there_too : (t : Term) → Mem t (map key zs) → Mem t (sorted (map key xs))
      there_too t m = let o = mem-of-map key zs m in sorted_has t (map key xs) (rw (← o.2) (mem-map key (s.from o.0 o.1)))

      back_too : (t : Term) → Mem t (sorted (map key xs)) → Mem t (map key zs)
      back_too t m =
          let o = mem-of-map key xs (sorted_from t (map key xs) m) in
          let u = s.has o.0 o.1 in
          let e : t ≡ key u.one = sym o.2 ∙ order_equal (key o.0) (key u.one) u.same_as in
          rw e (mem-map key u.within)
