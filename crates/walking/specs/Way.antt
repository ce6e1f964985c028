-- The walk that lists a cheapest form, over plain lists: a stack of classes, the top first, each a child of the one below it by chosen nodes, and none of them listed.
-- A step looks for the first child of the top that is not listed: if there is one it goes onto the stack, else the top is listed and taken off.
-- `Way` says that to finish the stack, as `visit` of Listing (price) lists, leads to a given listing; each step keeps it.
-- Assumes nothing.
use mathlib.Core.List.{List, [], ◌∷◌}
use Rattle.std.specs.Prelude.{◌≢◌, ◌⊎◌, ◌≡◌, length, Option, None, Some}
use Rattle.std.proofs.Common.{inl, inr, ◌∙◌, subst}
use Rattle.std.proofs.Math.Path.{ap, refl, sym}
use Prim.Native.Nat.{◌+◌, ◌≤◌, suc, zero, ℕ}
use native.Mathlib.Omega.{arith}
use Rattle.lists.specs.Members.{Mem, here, minus, minus_has, minus_lt, there}
use Rattle.language.specs.Term.{Term}
use Rattle.price.specs.Chosen.{Backed, Deep, Ranked, SoonerIn, in_list, sooner_in_self, sooner_in_trans}
use Rattle.price.specs.Listing.{Listing, Once, each, enter, spot, visit, with_places}
use Rattle.price.specs.Pass.{Best, Table, look}
use Rattle.price.specs.Rule.{Rule}
use Rattle.price.specs.Shown.{Extends, Fine, Visited, spot_here, spot_past, visited}
use Rattle.std.proofs.lemmas.Option.{none-some, same_Some}

-- ---- the first child that is not listed

abbrev pub or_else : ℕ → Option ℕ → Option ℕ → Option ℕ
or_else c None o = Some c
or_else c (Some p) o = o

-- the first of the classes cs that is not in the listing l
unfoldable pub unlisted : Listing → List ℕ → Option ℕ
unlisted l [] = None
unlisted l (c ∷ cs) = or_else c (spot c l) (unlisted l cs)

pub unlisted_from : (l : Listing) (cs : List ℕ) (x : ℕ) → unlisted l cs ≡ Some x → Mem x cs × (spot x l ≡ None)
unfolding unlisted
unlisted_from l [] x e = absurd (none-some _ e)
unlisted_from l (c ∷ cs) x e = go (spot c l) refl e (unlisted_from l cs x)
  where
    go : (o : Option ℕ) → spot c l ≡ o → or_else c o (unlisted l cs) ≡ Some x → (unlisted l cs ≡ Some x → Mem x cs × (spot x l ≡ None)) → Mem x (c ∷ cs) × (spot x l ≡ None)
    go None q k ih = let z : c ≡ x = same_Some _ _ k in (here (sym z), ap (λ (y : ℕ). spot y l) (sym z) ∙ q)
    go (Some p) q k ih = let h = ih k in (there h.0, h.1)

module _ {P : Type 0} (t : Table P) where
  -- ---- what listing does

  -- the class c with its chosen node b, behind its children
  abbrev pub listed_on : ℕ → ℕ → Best P → Listing → Listing
  listed_on n c b l = let k = each (visit t n) b.node.kids l in (c, with_places k b.node) ∷ k

  visit_old : (n c p : ℕ) (l : Listing) → spot c l ≡ Some p → visit t n c l ≡ l
  unfolding visit enter
  visit_old zero c p l e = refl
  visit_old (suc n) c p l e = rw e refl

  visit_new : (n c : ℕ) (b : Best P) (l : Listing) → spot c l ≡ None → look c t ≡ Some b → visit t (suc n) c l ≡ listed_on n c b l
  unfolding visit enter
  visit_new n c b l e k = rw (e, k) refl

  -- all listed: nothing to do
  each_old : (n : ℕ) (cs : List ℕ) (l : Listing) → unlisted l cs ≡ None → each (visit t n) cs l ≡ l
  unfolding each unlisted
  each_old n [] l e = refl
  each_old n (c ∷ cs) l e = go (spot c l) refl e (each_old n cs l)
    where
      go : (o : Option ℕ) → spot c l ≡ o → or_else c o (unlisted l cs) ≡ None → (unlisted l cs ≡ None → each (visit t n) cs l ≡ l) → each (visit t n) cs (visit t n c l) ≡ l
      go None q k ih = absurd (none-some _ (sym k))
      go (Some p) q k ih = rw (visit_old n c p l q) (ih k)

  -- the first that is not listed may be listed beforehand
  each_first : (n p x : ℕ) (cs : List ℕ) (l m : Listing) → unlisted l cs ≡ Some x → visit t n x l ≡ m → Extends l m → spot x m ≡ Some p → each (visit t n) cs m ≡ each (visit t n) cs l
  unfolding each unlisted
  each_first n p x [] l m e v X s = absurd (none-some _ e)
  each_first n p x (c ∷ cs) l m e v X s = go (spot c l) refl e (each_first n p x cs l m)
    where
      go : (o : Option ℕ) → spot c l ≡ o → or_else c o (unlisted l cs) ≡ Some x
          → (unlisted l cs ≡ Some x → visit t n x l ≡ m → Extends l m → spot x m ≡ Some p → each (visit t n) cs m ≡ each (visit t n) cs l)
          → each (visit t n) cs (visit t n c m) ≡ each (visit t n) cs (visit t n c l)
      go None q k ih =
          let z : c ≡ x = same_Some _ _ k in
          let a : visit t n c m ≡ m = visit_old n c p m (ap (λ (y : ℕ). spot y m) z ∙ s) in
          let d : visit t n c l ≡ m = ap (λ (y : ℕ). visit t n y l) z ∙ v in
          rw (a, d) refl
      go (Some i) q k ih = rw (visit_old n c i l q, visit_old n c i m (X.spots c i q)) (ih k v X s)

module _ {P : Type 0} (R : Rule P) (nodes : ℕ → List Term) (t : Table P) (B : Backed R nodes t) (K : Ranked R nodes t) where
  -- ---- the way on

  -- to finish the stack leads from the listing l to m; the children of the top may be listed to depth n
  unfoldable pub Way : ℕ → List ℕ → Listing → Listing → Type 0
  Way n [] l m = l ≡ m
  Way n (c ∷ st) l m = (b : Best P) × (look c t ≡ Some b) × (spot c l ≡ None) × ((d : ℕ) → Mem d b.node.kids → Deep R nodes t n d) × Way (suc n) st (listed_on t n c b l) m

  -- at the start
  pub way_start : (n r : ℕ) → Deep R nodes t n r → (k : ℕ) × (k + 1 ≡ n) × Way k (r ∷ []) [] (visit t n r [])
  unfolding Way Deep spot
  way_start zero r D = absurd D
  way_start (suc n) r D = (n, omega arith, (D.0, D.1, refl, D.2, sym (visit_new t n r D.0 [] refl D.1)))

  pub way_end : (n : ℕ) (l m : Listing) → Way n [] l m → l ≡ m
  unfolding Way
  way_end n l m W = W

  -- the same, of a stack with c on top
  pub record Top (n c : ℕ) (st : List ℕ) (l m : Listing) : Type 0 where
    pub best : Best P
    pub chosen : look c t ≡ Some best
    pub new : spot c l ≡ None
    pub deep : (d : ℕ) → Mem d best.node.kids → Deep R nodes t n d
    pub on : Way (suc n) st (listed_on t n c best l) m

  pub way_top : (n c : ℕ) (st : List ℕ) (l m : Listing) → Way n (c ∷ st) l m → Top n c st l m
  unfolding Way
  way_top n c st l m W = record { best = W.0; chosen = W.1; new = W.2; deep = W.3; on = W.4 }

  module _ (n c : ℕ) (st : List ℕ) (l m : Listing) (F : Fine R nodes t B K l) (T : Top n c st l m) where
    -- all children of the top are listed: it is listed, and taken off
    module _ (e : unlisted l T.best.node.kids ≡ None) where
      all_old : each (visit t n) T.best.node.kids l ≡ l
      all_old = each_old t n T.best.node.kids l e

      pub way_list : Way (suc n) st ((c, with_places l T.best.node) ∷ l) m
      way_list = rw all_old at T.on

      pub fine_list : Fine R nodes t B K ((c, with_places l T.best.node) ∷ l)
      unfolding Deep
      fine_list =
          let v = (visited R nodes t B K (suc n) c l (T.best, T.chosen, T.deep) F).fine in
          let q : visit t (suc n) c l ≡ (c, with_places l T.best.node) ∷ l = visit_new t n c T.best l T.new T.chosen ∙ rw all_old refl in
          rw q at v

    -- the child x of the top is the first that is not listed: it goes onto the stack
    module _ (x : ℕ) (e : unlisted l T.best.node.kids ≡ Some x) where
      kid : Mem x T.best.node.kids
      kid = (unlisted_from l T.best.node.kids x e).0

      new_kid : spot x l ≡ None
      new_kid = (unlisted_from l T.best.node.kids x e).1

      -- what listing x does, with the top's node
      module _ (k : ℕ) (q : suc k ≡ n) (D : Deep R nodes t (suc k) x) where
        after : Visited R nodes t B K l (visit t (suc k) x l) x
        after = visited R nodes t B K (suc k) x l D F

        -- the top is not listed by it
        top_new : spot c (visit t (suc k) x l) ≡ None
        top_new = is_none (spot c (visit t (suc k) x l)) refl
          where
            out : Visited R nodes t B K l (visit t (suc k) x l) x → (p : ℕ) → spot c (visit t (suc k) x l) ≡ Some p → ⊥
            out A p h = go (A.from c p h)
              where
                go : ((i : ℕ) × (spot c l ≡ Some i)) ⊎ ((c ≡ x) ⊎ SoonerIn R t c x) → ⊥
                go (inl w) = none-some _ (sym T.new ∙ w.1)
                go (inr (inl w)) = sooner_in_self R t x (subst (λ (y : ℕ). SoonerIn R t x y) w (K c T.best x T.chosen kid))
                go (inr (inr w)) = sooner_in_self R t c (sooner_in_trans R t c x c w (K c T.best x T.chosen kid))

            is_none : (o : Option ℕ) → spot c (visit t (suc k) x l) ≡ o → o ≡ None
            is_none None h = refl
            is_none (Some p) h = absurd (out after p h)

        same : each (visit t (suc k)) T.best.node.kids (visit t (suc k) x l) ≡ each (visit t (suc k)) T.best.node.kids l
        same = each_first t (suc k) after.listed.0 x T.best.node.kids l (visit t (suc k) x l) e refl after.extends after.listed.1

        below : Way (suc k) (c ∷ st) (visit t (suc k) x l) m
        unfolding Way
        below = (T.best, T.chosen, top_new, (rw q T.deep), rw (same, q) T.on)

        pub way_push_at : Way k (x ∷ c ∷ st) l m
        unfolding Way Deep
        way_push_at = (D.0, D.1, new_kid, D.2, rw (← visit_new t k x D.0 l new_kid D.1) below)

      pub way_push : (k : ℕ) × (suc k ≡ n) × Way k (x ∷ c ∷ st) l m
      unfolding Deep
      way_push = go n refl (T.deep x kid)
        where
          go : (j : ℕ) → j ≡ n → Deep R nodes t j x → (k : ℕ) × (suc k ≡ n) × Way k (x ∷ c ∷ st) l m
          go zero q D = absurd D
          go (suc k) q D = (k, q, way_push_at k q D)

-- ---- no more classes are listed than there are

-- each class once, and all in W
once_few : (l : Listing) (W : List ℕ) → Once l → ((c p : ℕ) → spot c l ≡ Some p → Mem c W) → length l ≤ length W
once_few [] W o h = omega arith
once_few (e ∷ l) W o h =
    let m : Mem e.0 W = h e.0 (length l) (spot_here e.0 e.1 l) in
    let k = once_few l (minus e.0 W) o.1 (λ c p s. minus_has e.0 c W (apart c p s) (h c p (spot_past c e.0 e.1 l (apart c p s) ∙ s))) in
    omega (arith, minus_lt e.0 W m)
  where
    apart : (c p : ℕ) → spot c l ≡ Some p → c ≢ e.0
    apart c p s q = none-some _ (sym o.0 ∙ (ap (λ (y : ℕ). spot y l) (sym q) ∙ s))

module _ {P : Type 0} (R : Rule P) (nodes : ℕ → List Term) (rs : List ℕ) (listed : (r : ℕ) (x : Term) → Mem x (nodes r) → Mem r rs) (t : Table P) (B : Backed R nodes t) (K : Ranked R nodes t) where
  pub few_listed : (l : Listing) → Fine R nodes t B K l → length l ≤ length rs
  few_listed l F = once_few l rs F.once (λ c p h. let s = F.shown c p h in in_list R nodes rs listed t B K c s.1 s.2)
