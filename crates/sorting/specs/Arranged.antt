-- Sorting on plain lists, over any lawful order of ids: one list arranged from another, and what merging two such lists gives.
-- It knows nothing of words, nodes or code.
-- Assumes nothing.
use Rattle.std.specs.Prelude.{List, [], ◌++◌, ◌∷◌, ◌⊎◌, ◌≡◌, refl, ℕ}
use Rattle.std.proofs.Common.{inl, inr, ⊎_elim, ◌∙◌}
use Rattle.lists.specs.Members.{Mem, here, mem-append-cases, mem-cases, mem-left, mem-nil, mem-right, there}
use Rattle.lists.specs.Sorted.{Ascending, first, none_left}
use Rattle.std.specs.declared.cmp.Ordering.{Ordering}
use Rattle.std.specs.declared.cmp.Ordering.TheVariants.{Equal, Greater, Less}

-- a test that orders ids, of which some may be equal in it
pub record Lawful (cmp : ℕ → ℕ → Ordering) : Type 0 where
  pub self : (x : ℕ) → cmp x x ≡ Equal
  pub back : (x y : ℕ) → cmp x y ≡ Greater → cmp y x ≡ Less
  pub alike : (x y z : ℕ) → cmp x y ≡ Equal → cmp x z ≡ cmp y z
  pub mirror : (x y : ℕ) → cmp x y ≡ Equal → cmp y x ≡ Equal
  pub chain : (x y z : ℕ) → cmp x y ≡ Less → cmp y z ≡ Less → cmp x z ≡ Less

-- strictly ascending: so no two are equal
pub record Rising (cmp : ℕ → ℕ → Ordering) (xs : List ℕ) : Type 0 where
  pub ascending : Ascending (λ (x y : ℕ). cmp x y ≡ Less) xs

-- one that is equal to x is in zs
pub record Like (cmp : ℕ → ℕ → Ordering) (x : ℕ) (zs : List ℕ) : Type 0 where
  pub one : ℕ
  pub within : Mem one zs
  pub same_as : cmp x one ≡ Equal

-- zs is xs sorted, with one of those that are equal
pub record Arranged (cmp : ℕ → ℕ → Ordering) (xs zs : List ℕ) : Type 0 where
  pub rising : Rising cmp zs
  pub from : (z : ℕ) → Mem z zs → Mem z xs
  pub has : (x : ℕ) → Mem x xs → Like cmp x zs

-- zs is what merging xs and ys gives; of two that are equal the left one stays
pub data Merged (cmp : ℕ → ℕ → Ordering) : List ℕ → List ℕ → List ℕ → Type 0 where
  none : Merged cmp [] [] []
  left : {x : ℕ} {xs zs : List ℕ} → Merged cmp xs [] zs → Merged cmp (x ∷ xs) [] (x ∷ zs)
  right : {y : ℕ} {ys zs : List ℕ} → Merged cmp [] ys zs → Merged cmp [] (y ∷ ys) (y ∷ zs)
  under : {x y : ℕ} {xs ys zs : List ℕ} → cmp x y ≡ Less → Merged cmp xs (y ∷ ys) zs → Merged cmp (x ∷ xs) (y ∷ ys) (x ∷ zs)
  level : {x y : ℕ} {xs ys zs : List ℕ} → cmp x y ≡ Equal → Merged cmp xs ys zs → Merged cmp (x ∷ xs) (y ∷ ys) (x ∷ zs)
  over : {x y : ℕ} {xs ys zs : List ℕ} → cmp x y ≡ Greater → Merged cmp (x ∷ xs) ys zs → Merged cmp (x ∷ xs) (y ∷ ys) (y ∷ zs)

in_left : {z x : ℕ} {xs ys : List ℕ} → Mem z xs ⊎ Mem z ys → Mem z (x ∷ xs) ⊎ Mem z ys
in_left (inl m) = inl (there m)
in_left (inr m) = inr m

in_right : {z y : ℕ} {xs ys : List ℕ} → Mem z xs ⊎ Mem z ys → Mem z xs ⊎ Mem z (y ∷ ys)
in_right (inl m) = inl m
in_right (inr m) = inr (there m)

module _ {cmp : ℕ → ℕ → Ordering} where
  -- ---- members of a merge

  merged_from : {xs ys zs : List ℕ} → Merged cmp xs ys zs → (z : ℕ) → Mem z zs → Mem z xs ⊎ Mem z ys
  merged_from none z m = absurd (mem-nil m)
  merged_from (left d) z m = ⊎_elim (λ e. inl (here e)) (λ k. in_left (merged_from d z k)) (mem-cases m)
  merged_from (right d) z m = ⊎_elim (λ e. inr (here e)) (λ k. in_right (merged_from d z k)) (mem-cases m)
  merged_from (under c d) z m = ⊎_elim (λ e. inl (here e)) (λ k. in_left (merged_from d z k)) (mem-cases m)
  merged_from (level c d) z m = ⊎_elim (λ e. inl (here e)) (λ k. in_left (in_right (merged_from d z k))) (mem-cases m)
  merged_from (over c d) z m = ⊎_elim (λ e. inr (here e)) (λ k. in_right (merged_from d z k)) (mem-cases m)

  like_tail : {x y : ℕ} {zs : List ℕ} → Like cmp x zs → Like cmp x (y ∷ zs)
  like_tail t = record { one = t.one; within = there t.within; same_as = t.same_as }

  module _ (L : Lawful cmp) where
    like_head : {x y : ℕ} {zs : List ℕ} → x ≡ y → Like cmp x (y ∷ zs)
    like_head {x} {y} {zs} e = record { one = y; within = here refl; same_as = rw e (L.self y) }

    merged_left : {xs ys zs : List ℕ} → Merged cmp xs ys zs → (x : ℕ) → Mem x xs → Like cmp x zs
    merged_left none x m = absurd (mem-nil m)
    merged_left (left d) x m = ⊎_elim (λ e. like_head e) (λ k. like_tail (merged_left d x k)) (mem-cases m)
    merged_left (right d) x m = absurd (mem-nil m)
    merged_left (under c d) x m = ⊎_elim (λ e. like_head e) (λ k. like_tail (merged_left d x k)) (mem-cases m)
    merged_left (level c d) x m = ⊎_elim (λ e. like_head e) (λ k. like_tail (merged_left d x k)) (mem-cases m)
    merged_left (over c d) x m = like_tail (merged_left d x m)

    merged_right : {xs ys zs : List ℕ} → Merged cmp xs ys zs → (y : ℕ) → Mem y ys → Like cmp y zs
    merged_right none y m = absurd (mem-nil m)
    merged_right (left d) y m = absurd (mem-nil m)
    merged_right (right d) y m = ⊎_elim (λ e. like_head e) (λ k. like_tail (merged_right d y k)) (mem-cases m)
    merged_right (under c d) y m = like_tail (merged_right d y m)
    merged_right (level {x = a} {y = b} c d) y m = ⊎_elim (λ (e : y ≡ b). (record { one = a; within = here refl; same_as = rw e (L.mirror a b c) })) (λ k. like_tail (merged_right d y k)) (mem-cases m)
    merged_right (over c d) y m = ⊎_elim (λ e. like_head e) (λ k. like_tail (merged_right d y k)) (mem-cases m)

    -- ---- a merge of ascending lists is ascending

    -- what is below the first of an ascending list is below all of it
    below_all : {x y : ℕ} {ys : List ℕ} → cmp x y ≡ Less → ((z : ℕ) → Mem z ys → cmp y z ≡ Less) → (z : ℕ) → Mem z (y ∷ ys) → cmp x z ≡ Less
    below_all {x} {y} c b z m = ⊎_elim (λ (e : z ≡ y). rw e c) (λ k. L.chain x y z c (b z k)) (mem-cases m)

    merged_ascending : {xs ys zs : List ℕ} → Merged cmp xs ys zs → Ascending (λ (x y : ℕ). cmp x y ≡ Less) xs → Ascending (λ (x y : ℕ). cmp x y ≡ Less) ys → Ascending (λ (x y : ℕ). cmp x y ≡ Less) zs
    merged_ascending none a b = none_left
    merged_ascending (left d) (first p a) b = first (λ z m. ⊎_elim (p z) (λ k. absurd (mem-nil k)) (merged_from d z m)) (merged_ascending d a b)
    merged_ascending (right d) a (first q b) = first (λ z m. ⊎_elim (λ k. absurd (mem-nil k)) (q z) (merged_from d z m)) (merged_ascending d a b)
    merged_ascending (under c d) (first p a) (first q b) = first (λ z m. ⊎_elim (p z) (below_all c q z) (merged_from d z m)) (merged_ascending d a (first q b))
    merged_ascending (level {x = x} {y = y} c d) (first p a) (first q b) =
        first (λ z m. ⊎_elim (p z) (λ k. L.alike x y z c ∙ q z k) (merged_from d z m)) (merged_ascending d a b)
    merged_ascending (over {x = x} {y = y} c d) (first p a) (first q b) =
        first (λ z m. ⊎_elim (below_all (L.back x y c) p z) (q z) (merged_from d z m)) (merged_ascending d (first p a) b)

    -- ---- two lists arranged, and merged: their joining arranged

    like_like : {x z : ℕ} {zs : List ℕ} → cmp x z ≡ Equal → Like cmp z zs → Like cmp x zs
    like_like {x} {z} e t = record { one = t.one; within = t.within; same_as = L.alike x z t.one e ∙ t.same_as }

    pub arranged_join : (xs ys us vs zs : List ℕ) → Arranged cmp xs us → Arranged cmp ys vs → Merged cmp us vs zs → Arranged cmp (xs ++ ys) zs
    arranged_join xs ys us vs zs s t d = record {
      rising = record { ascending = merged_ascending d s.rising.ascending t.rising.ascending };
      from = λ z m. ⊎_elim (λ k. mem-left ys (s.from z k)) (λ k. mem-right xs (t.from z k)) (merged_from d z m);
      has = λ x m. ⊎_elim (λ k. (let u = s.has x k in like_like u.same_as (merged_left d u.one u.within))) (λ k. (let u = t.has x k in like_like u.same_as (merged_right d u.one u.within))) (mem-append-cases xs m);
    }

    pub arranged_one : (x : ℕ) → Arranged cmp (x ∷ []) (x ∷ [])
    arranged_one x = record {
      rising = record { ascending = first (λ z m. absurd (mem-nil m)) none_left };
      from = λ z m. m;
      has = λ z m. record { one = z; within = m; same_as = L.self z };
    }

    pub arranged_two : (x y : ℕ) (zs : List ℕ) → Merged cmp (x ∷ []) (y ∷ []) zs → Arranged cmp (x ∷ y ∷ []) zs
    arranged_two x y zs d = arranged_join (x ∷ []) (y ∷ []) (x ∷ []) (y ∷ []) zs (arranged_one x) (arranged_one y) d

  pub arranged_none : Arranged cmp [] []
  arranged_none = record { rising = record { ascending = none_left }; from = λ z m. m; has = λ z m. absurd (mem-nil m) }

-- ---- lists that are in order already

rest_all : {cmp : ℕ → ℕ → Ordering} (ys : List ℕ) → Merged cmp [] ys ys
rest_all [] = none
rest_all (y ∷ ys) = right (rest_all ys)

-- the last of the left, l, comes before the first of the right, v
pub in_order : {cmp : ℕ → ℕ → Ordering} → Lawful cmp → (us : List ℕ) (l v : ℕ) (vs : List ℕ) → Ascending (λ (x y : ℕ). cmp x y ≡ Less) (us ++ (l ∷ [])) → cmp l v ≡ Less
    → Merged cmp (us ++ (l ∷ [])) (v ∷ vs) ((us ++ (l ∷ [])) ++ (v ∷ vs))
in_order L [] l v vs a e = under e (rest_all (v ∷ vs))
in_order L (u ∷ us) l v vs (first p a) e = under (L.chain u l v (p l (mem-right us (here refl))) e) (in_order L us l v vs a e)
