-- Nodes sorted by node order, duplicates dropped: what document 01 asks of the nodes of a class ("The steps").
-- Proved: the list is strictly ascending and has exactly the members that went in; `one_list` of `lists` says that no other list does.
-- Assumes nothing.
use Rattle.std.specs.Prelude.{◌≡◌, refl, ◌⊎◌, List, [], ◌∷◌, ◌≤◌, suc, length}
use Rattle.std.proofs.Common.{◌∙◌, inl, inr, arith}
use Rattle.lists.specs.Members.{Mem, here, there, mem-cases, mem-nil}
use Rattle.lists.specs.Sorted.{Ascending, none_left, first}
use Rattle.std.specs.declared.cmp.Ordering.{Ordering}
use Rattle.std.specs.declared.cmp.Ordering.TheVariants.{Less, Equal, Greater}
use Rattle.language.specs.Term.{Term}
use Rattle.language.specs.Ordered.{order, Before, order_equal, order_reversed, order_trans}

-- x stands to y as the ordering says: before it, in its place, or further back, where `rest` has it
abbrev pub put_in : Ordering → Term → Term → List Term → List Term → List Term
put_in Less x y ys rest = x ∷ y ∷ ys
put_in Equal x y ys rest = y ∷ ys
put_in Greater x y ys rest = y ∷ rest

unfoldable pub insert : Term → List Term → List Term
insert x [] = x ∷ []
insert x (y ∷ ys) = put_in (order x y) x y ys (insert x ys)

unfoldable pub sorted : List Term → List Term
sorted [] = []
sorted (x ∷ xs) = insert x (sorted xs)

-- ---- members

insert_from : (x z : Term) (l : List Term) → Mem z (insert x l) → (z ≡ x) ⊎ Mem z l
unfolding insert
insert_from x z [] h = mem-cases h
insert_from x z (y ∷ ys) h = go (order x y) h (insert_from x z ys)
  where
    past : (z ≡ x) ⊎ Mem z ys → (z ≡ x) ⊎ Mem z (y ∷ ys)
    past (inl e) = inl e
    past (inr m) = inr (there m)

    tail : (z ≡ y) ⊎ Mem z (insert x ys) → (Mem z (insert x ys) → (z ≡ x) ⊎ Mem z ys) → (z ≡ x) ⊎ Mem z (y ∷ ys)
    tail (inl e) ih = inr (here e)
    tail (inr m) ih = past (ih m)

    go : (o : Ordering) → Mem z (put_in o x y ys (insert x ys)) → (Mem z (insert x ys) → (z ≡ x) ⊎ Mem z ys) → (z ≡ x) ⊎ Mem z (y ∷ ys)
    go Less m ih = mem-cases m
    go Equal m ih = inr m
    go Greater m ih = tail (mem-cases m) ih

insert_new : (x : Term) (l : List Term) → Mem x (insert x l)
unfolding insert
insert_new x [] = here refl
insert_new x (y ∷ ys) = go (order x y) refl (insert_new x ys)
  where
    go : (o : Ordering) → order x y ≡ o → Mem x (insert x ys) → Mem x (put_in o x y ys (insert x ys))
    go Less e ih = here refl
    go Equal e ih = here (order_equal x y e)
    go Greater e ih = there ih

insert_old : (x z : Term) (l : List Term) → Mem z l → Mem z (insert x l)
unfolding insert
insert_old x z [] h = absurd (mem-nil h)
insert_old x z (y ∷ ys) h = go (order x y) (mem-cases h) (insert_old x z ys)
  where
    go : (o : Ordering) → (z ≡ y) ⊎ Mem z ys → (Mem z ys → Mem z (insert x ys)) → Mem z (put_in o x y ys (insert x ys))
    go Less m ih = there h
    go Equal m ih = h
    go Greater (inl e) ih = here e
    go Greater (inr m) ih = there (ih m)

pub sorted_from : (z : Term) (xs : List Term) → Mem z (sorted xs) → Mem z xs
unfolding sorted
sorted_from z [] m = m
sorted_from z (x ∷ xs) m = go (insert_from x z (sorted xs) m) (sorted_from z xs)
  where
    go : (z ≡ x) ⊎ Mem z (sorted xs) → (Mem z (sorted xs) → Mem z xs) → Mem z (x ∷ xs)
    go (inl e) ih = here e
    go (inr k) ih = there (ih k)

pub sorted_has : (z : Term) (xs : List Term) → Mem z xs → Mem z (sorted xs)
unfolding sorted
sorted_has z [] m = m
sorted_has z (x ∷ xs) m = go (mem-cases m) (sorted_has z xs)
  where
    go : (z ≡ x) ⊎ Mem z xs → (Mem z xs → Mem z (sorted xs)) → Mem z (insert x (sorted xs))
    go (inl e) ih = rw e (insert_new x (sorted xs))
    go (inr k) ih = insert_old x z (sorted xs) (ih k)

-- ---- ascending

insert_ascending : (x : Term) {l : List Term} → Ascending Before l → Ascending Before (insert x l)
unfolding insert
insert_ascending x none_left = first (λ y m. absurd (mem-nil m)) none_left
insert_ascending x (first {x = y} {l = ys} b s) = go (order x y) refl (insert_ascending x s)
  where
    under : Before x y → (z : Term) → (z ≡ y) ⊎ Mem z ys → Before x z
    under p z (inl e) = rw e p
    under p z (inr m) = order_trans x y z p (b z m)

    over : order x y ≡ Greater → (z : Term) → (z ≡ x) ⊎ Mem z ys → Before y z
    over p z (inl e) = rw e (order_reversed x y ∙ rw p refl)
    over p z (inr m) = b z m

    go : (o : Ordering) → order x y ≡ o → Ascending Before (insert x ys) → Ascending Before (put_in o x y ys (insert x ys))
    go Less e ih = first (λ z m. under e z (mem-cases m)) (first b s)
    go Equal e ih = first b s
    go Greater e ih = first (λ z m. over e z (insert_from x z ys m)) ih

pub sorted_ascending : (xs : List Term) → Ascending Before (sorted xs)
unfolding sorted
sorted_ascending [] = none_left
sorted_ascending (x ∷ xs) = insert_ascending x (sorted_ascending xs)

-- ---- no longer than before

insert_le : (x : Term) (l : List Term) → length (insert x l) ≤ suc (length l)
unfolding insert
insert_le x [] = omega arith
insert_le x (y ∷ ys) = go (order x y) (insert_le x ys)
  where
    go : (o : Ordering) → length (insert x ys) ≤ suc (length ys) → length (put_in o x y ys (insert x ys)) ≤ suc (suc (length ys))
    go Less ih = omega arith
    go Equal ih = omega arith
    go Greater ih = omega arith

pub sorted_le : (l : List Term) → length (sorted l) ≤ length l
unfolding sorted
sorted_le [] = omega arith
sorted_le (x ∷ l) = omega (arith, insert_le x (sorted l), sorted_le l)
