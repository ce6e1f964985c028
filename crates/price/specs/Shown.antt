-- The listing has, at its last place, one form: it is of the asked class, and at its price.
-- Assumes nothing.
use mathlib.Core.List.{List, [], ◌++◌, ◌∷◌, map}
use Rattle.std.specs.Prelude.{◌≢◌, ◌⊎◌, ◌≡◌, length, Option, None, Some}
use Rattle.std.proofs.Math.Logic.{inl}
use Rattle.std.proofs.Common.{inr, ◌∙◌, subst, sym, arith, length-append}
use Rattle.std.proofs.Math.Path.{ap, refl}
use Prim.Native.Nat.{◌<◌, suc, zero, ℕ}
use Rattle.std.proofs.Math.Decide.{ℕ_discrete}
use Rattle.lists.specs.Members.{Mem, here, mem-cases, mem-nil, there}
use Rattle.lists.specs.Tests.{when, when_no, when_yes, zero_one}
use Rattle.language.specs.Term.{Term}
use Rattle.steps.specs.Graph.{node}
use Rattle.closure.specs.Facts.{node_new, node_old}
use Rattle.price.specs.Chosen.{Backed, Deep, Ranked, SoonerIn, backed, no_circle, ranked, sooner_in_self, sooner_in_trans}
use Rattle.price.specs.Form.{Form, Forms, In, InEach, ◌then◌, form, in_each_map, in_map, no_form}
use Rattle.price.specs.Least.{Has, Least, least}
use Rattle.price.specs.Listing.{Listing, Once, StandsAt, cheapest, each, enter, entry, in_order, or_zero, spot, spot_of, visit, with_places}
use Rattle.price.specs.Pass.{Best, Table, final, look}
use Rattle.price.specs.Reads.{AtMost}
use Rattle.price.specs.Rule.{Each, Rule, cost, costs}
use Rattle.std.proofs.lemmas.Option.{none-some, same_Some}

-- ---- places

spot_nil : (c p : ℕ) → spot c [] ≡ Some p → ⊥
unfolding spot
spot_nil c p e = none-some _ e

pub spot_here : (c : ℕ) (x : Term) (l : Listing) → spot c ((c, x) ∷ l) ≡ Some (length l)
unfolding spot
spot_here c x l = when_yes (ℕ_discrete c c) (Some (length l)) (spot c l) refl

pub spot_past : (c q : ℕ) (x : Term) (l : Listing) → c ≢ q → spot c ((q, x) ∷ l) ≡ spot c l
unfolding spot
spot_past c q x l n = when_no (ℕ_discrete c q) (Some (length l)) (spot c l) n

pub entry_here : (p c : ℕ) (x : Term) (l : Listing) → p ≡ length l → entry p ((c, x) ∷ l) ≡ Some x
unfolding entry
entry_here p c x l e = when_yes (ℕ_discrete p (length l)) (Some x) (entry p l) e

pub entry_past : (p c : ℕ) (x : Term) (l : Listing) → p ≢ length l → entry p ((c, x) ∷ l) ≡ entry p l
unfolding entry
entry_past p c x l n = when_no (ℕ_discrete p (length l)) (Some x) (entry p l) n

pub entry_lt : (p : ℕ) (l : Listing) (x : Term) → entry p l ≡ Some x → p < length l
unfolding entry
entry_lt p [] x e = absurd (none-some _ e)
entry_lt p (y ∷ l) x e = go (ℕ_discrete p (length l)) e (entry_lt p l x)
  where
    go : (d : Dec (p ≡ length l)) → when d (Some y.1) (entry p l) ≡ Some x → (entry p l ≡ Some x → p < length l) → p < suc (length l)
    go (yes q) k ih = omega arith
    go (no n) k ih = let h = ih k in omega arith

-- a place counts the nodes as they are written out
pub in_order_length : (l : Listing) → length (in_order l) ≡ length l
unfolding in_order
in_order_length [] = refl
in_order_length (e ∷ l) = omega (arith, length-append (in_order l) (e.1 ∷ []), in_order_length l)

pub in_order_at : (p : ℕ) (l : Listing) (x : Term) → entry p l ≡ Some x → node (in_order l) p ≡ x
unfolding entry in_order
in_order_at p [] x e = absurd (none-some _ e)
in_order_at p (y ∷ l) x e = go (ℕ_discrete p (length l)) e (in_order_at p l x)
  where
    go : (d : Dec (p ≡ length l)) → when d (Some y.1) (entry p l) ≡ Some x → (entry p l ≡ Some x → node (in_order l) p ≡ x) → node (in_order l ++ (y.1 ∷ [])) p ≡ x
    go (yes q) k ih = let i : p ≡ length (in_order l) = omega (arith, in_order_length l) in rw i (node_new (in_order l) y.1 ∙ same_Some _ _ k)
    go (no n) k ih = node_old (in_order l) y.1 p (omega (arith, entry_lt p l x k, in_order_length l)) ∙ ih k

-- what is listed in l is listed in m, at the same place
pub record Extends (l m : Listing) : Type 0 where
  pub stands : (p : ℕ) (x : Term) → StandsAt l p x → StandsAt m p x
  pub spots : (c p : ℕ) → spot c l ≡ Some p → spot c m ≡ Some p

extends_self : (l : Listing) → Extends l l
extends_self l = record { stands = λ p x h. h; spots = λ c p h. h }

extends_trans : {k l m : Listing} → Extends k l → Extends l m → Extends k m
extends_trans a b = record { stands = λ p x h. b.stands p x (a.stands p x h); spots = λ c p h. b.spots c p (a.spots c p h) }

pub extends_more : (r : ℕ) (x : Term) (l : Listing) → spot r l ≡ None → Extends l ((r, x) ∷ l)
extends_more r x l e = record {
  stands = λ p y h. entry_past p r x l (λ i. out p y h i) ∙ h;
  spots = λ c p h. spot_past c r x l (λ i. none-some _ (sym e ∙ (sym (ap (λ q. spot q l) i) ∙ h))) ∙ h;
}
  where
    out : (p : ℕ) (y : Term) → entry p l ≡ Some y → p ≡ length l → ⊥
    out p y h i = let k = entry_lt p l y h in omega arith

-- ---- one form at a place

mutual
  unfolding In

  pub one_form : (f g : Form) (l : Listing) (p : ℕ) → In (StandsAt l) f p → In (StandsAt l) g p → f ≡ g
  one_form (form o m fs) (form o' m' gs) l p h k =
      let e : ◌≡◌ {A = Term} (record { op = o; payload = m; kids = h.0 }) (record { op = o'; payload = m'; kids = k.0 }) = same_Some _ _ (sym h.1 ∙ k.1) in
      let t = one_forms fs gs l h.0 k.0 (ap (λ x. x.kids) e) h.2 k.2 in
      λ i. form (e i).op (e i).payload (t i)

  pub one_forms : (fs gs : Forms) (l : Listing) (ps qs : List ℕ) → ps ≡ qs → InEach (StandsAt l) fs ps → InEach (StandsAt l) gs qs → fs ≡ gs
  one_forms no_form no_form l ps qs e h k = refl
  one_forms no_form (g then gs) l [] [] e h k = absurd k
  one_forms no_form (g then gs) l [] (q ∷ qs) e h k = zero_one cc
  one_forms no_form (g then gs) l (p ∷ ps) qs e h k = absurd h
  one_forms (f then fs) no_form l [] qs e h k = absurd h
  one_forms (f then fs) no_form l (p ∷ ps) [] e h k = zero_one cc
  one_forms (f then fs) no_form l (p ∷ ps) (q ∷ qs) e h k = absurd k
  one_forms (f then fs) (g then gs) l [] qs e h k = absurd h
  one_forms (f then fs) (g then gs) l (p ∷ ps) [] e h k = absurd k
  one_forms (f then fs) (g then gs) l (p ∷ ps) (q ∷ qs) e h k =
      let i : p ≡ q = cc e in
      let j : ps ≡ qs = cc e in
      let a = one_form f g l q (rw i at h.0) k.0 in
      let b = one_forms fs gs l ps qs j h.1 k.1 in
      λ d. a d then b d

-- ---- the listing

module _ {P : Type 0} (R : Rule P) (nodes : ℕ → List Term) (t : Table P) (B : Backed R nodes t) (K : Ranked R nodes t) where
  -- class c stands at place p with a form of the class, no dearer than the class
  abbrev pub Shown : Listing → ℕ → ℕ → Type 0
  Shown l c p = (f : Form) × (b : Best P) × (look c t ≡ Some b) × In (Has R nodes) f c × In (StandsAt l) f p × R.Le (cost R f) b.price

  pub record Fine (l : Listing) : Type 0 where
    pub once : Once l
    pub shown : (c p : ℕ) → spot c l ≡ Some p → Shown l c p

  abbrev Listed : Listing → ℕ → Type 0
  Listed l c = (p : ℕ) × (spot c l ≡ Some p)

  -- q is c, or goes before it
  abbrev Under : ℕ → ℕ → Type 0
  Under q c = (q ≡ c) ⊎ SoonerIn R t q c

  shown_more : {l m : Listing} → Extends l m → (c p : ℕ) → Shown l c p → Shown m c p
  shown_more {l} {m} X c p s = (s.0, s.1, s.2, s.3, in_map s.0 (StandsAt l) (StandsAt m) p X.stands s.4, s.5)

  -- the children's forms
  kids_shown : (l : Listing) → Fine l → (cs : List ℕ) (ps : List P) → ((c : ℕ) → Mem c cs → Listed l c) → Each (AtMost R t) cs ps
      → (fs : Forms) × InEach (Has R nodes) fs cs × InEach (StandsAt l) fs (map (spot_of l) cs) × Each R.Le (costs R fs) ps
  unfolding In cost Each
  kids_shown l F [] [] w h = (no_form, tt, tt, tt)
  kids_shown l F [] (p ∷ ps) w h = absurd h
  kids_shown l F (c ∷ cs) [] w h = absurd h
  kids_shown l F (c ∷ cs) (p ∷ ps) w h =
      let s = w c (here refl) in
      let f = F.shown c s.0 s.1 in
      let k = kids_shown l F cs ps (λ d m. w d (there m)) h.1 in
      let z : f.1 ≡ h.0.0 = same_Some _ _ (sym f.2 ∙ h.0.1) in
      let le : R.Le f.1.price p = rw z h.0.2 in
      let i : spot_of l c ≡ s.0 = ap or_zero s.1 in
      (f.0 then k.0, (f.3, k.1), (rw i f.4, k.2), (R.trans (cost R f.0) f.1.price p f.5 le, k.3))

  -- one more class, whose children are listed
  push_fine : (l : Listing) (r : ℕ) (b : Best P) → look r t ≡ Some b → spot r l ≡ None → ((c : ℕ) → Mem c b.node.kids → Listed l c) → Fine l → Fine ((r, with_places l b.node) ∷ l)
  unfolding In cost
  push_fine l r b e n w F = record { once = (n, F.once); shown = λ c p h. go c p h (ℕ_discrete c r) }
    where
      X : Extends l ((r, with_places l b.node) ∷ l)
      X = extends_more r (with_places l b.node) l n

      new : Shown ((r, with_places l b.node) ∷ l) r (length l)
      new =
          let h = B r b e in
          let k = kids_shown l F b.node.kids h.1.0 w h.1.1 in
          let f = form b.node.op b.node.payload k.0 in
          let le : R.Le (cost R f) b.price = rw h.1.2 at (R.rises b.node.op b.node.payload (costs R k.0) h.1.0 k.3) in (
            f,
            b,
            e,
            (b.node.kids, h.0, k.1),
            (map (spot_of l) b.node.kids, entry_here (length l) r (with_places l b.node) l refl, in_each_map k.0 (StandsAt l) (StandsAt ((r, with_places l b.node) ∷ l)) (map (spot_of l) b.node.kids) X.stands k.2),
            le,
          )

      go : (c p : ℕ) → spot c ((r, with_places l b.node) ∷ l) ≡ Some p → Dec (c ≡ r) → Shown ((r, with_places l b.node) ∷ l) c p
      go c p h (yes i) = let z : length l ≡ p = same_Some _ _ (sym (spot_here r (with_places l b.node) l) ∙ rw i at h) in rw (i, ← z) new
      go c p h (no k) = shown_more X c p (F.shown c p (sym (spot_past c r (with_places l b.node) l k) ∙ h))

  -- what listing r does to l
  pub record Visited (l m : Listing) (r : ℕ) : Type 0 where
    pub fine : Fine m
    pub extends : Extends l m
    pub listed : Listed m r
    pub from : (q p : ℕ) → spot q m ≡ Some p → Listed l q ⊎ Under q r

  pub record AllVisited (l m : Listing) (cs : List ℕ) : Type 0 where
    pub fine : Fine m
    pub extends : Extends l m
    pub listed : (c : ℕ) → Mem c cs → Listed m c
    pub from : (q p : ℕ) → spot q m ≡ Some p → Listed l q ⊎ ((c : ℕ) × Mem c cs × Under q c)

  pub each_visited : (next : ℕ → Listing → Listing) (cs : List ℕ) (l : Listing) → ((c : ℕ) → Mem c cs → (k : Listing) → Fine k → Visited k (next c k) c) → Fine l → AllVisited l (each next cs l) cs
  unfolding each
  each_visited next [] l w F = record { fine = F; extends = extends_self l; listed = λ c m. absurd (mem-nil m); from = λ q p h. inl (p, h) }
  each_visited next (c ∷ cs) l w F = both (w c (here refl) l F) (each_visited next cs (next c l) (λ d m. w d (there m)) (w c (here refl) l F).fine)
    where
      both : Visited l (next c l) c → AllVisited (next c l) (each next cs (next c l)) cs → AllVisited l (each next cs (next c l)) (c ∷ cs)
      both A Z = record { fine = Z.fine; extends = extends_trans A.extends Z.extends; listed = λ d m. find d (mem-cases m); from = λ q p h. back q (Z.from q p h) }
        where
          find : (d : ℕ) → (d ≡ c) ⊎ Mem d cs → Listed (each next cs (next c l)) d
          find d (inl e) = rw e (A.listed.0, Z.extends.spots c A.listed.0 A.listed.1)
          find d (inr m) = Z.listed d m

          first : (q : ℕ) → Listed l q ⊎ Under q c → Listed l q ⊎ ((d : ℕ) × Mem d (c ∷ cs) × Under q d)
          first q (inl h) = inl h
          first q (inr u) = inr (c, here refl, u)

          back : (q : ℕ) → Listed (next c l) q ⊎ ((d : ℕ) × Mem d cs × Under q d) → Listed l q ⊎ ((d : ℕ) × Mem d (c ∷ cs) × Under q d)
          back q (inl h) = first q (A.from q h.0 h.1)
          back q (inr h) = inr (h.0, there h.1, h.2)

  push_visited : (l m : Listing) (r : ℕ) (b : Best P) → look r t ≡ Some b → spot r l ≡ None → AllVisited l m b.node.kids → Visited l ((r, with_places m b.node) ∷ m) r
  push_visited l m r b e n A = record {
    fine = push_fine m r b e none_yet A.listed A.fine;
    extends = extends_trans A.extends (extends_more r (with_places m b.node) m none_yet);
    listed = (length m, spot_here r (with_places m b.node) m);
    from = λ q p h. go q p h (ℕ_discrete q r);
  }
    where
      below : (q c : ℕ) → Mem c b.node.kids → Under q c → SoonerIn R t q r
      below q c k (inl i) = rw i (K r b c e k)
      below q c k (inr h) = sooner_in_trans R t q c r h (K r b c e k)

      -- r is not among what its children list
      never : Listed l r ⊎ ((c : ℕ) × Mem c b.node.kids × Under r c) → ⊥
      never (inl h) = none-some _ (sym n ∙ h.1)
      never (inr h) = sooner_in_self R t r (below r h.0 h.1 h.2)

      is_none : (o : Option ℕ) → spot r m ≡ o → o ≡ None
      is_none None h = refl
      is_none (Some p) h = absurd (never (A.from r p h))

      none_yet : spot r m ≡ None
      none_yet = is_none (spot r m) refl

      old : (q : ℕ) → Listed l q ⊎ ((c : ℕ) × Mem c b.node.kids × Under q c) → Listed l q ⊎ Under q r
      old q (inl h) = inl h
      old q (inr h) = inr (inr (below q h.0 h.1 h.2))

      go : (q p : ℕ) → spot q ((r, with_places m b.node) ∷ m) ≡ Some p → Dec (q ≡ r) → Listed l q ⊎ Under q r
      go q p h (yes i) = inr (inl i)
      go q p h (no k) = old q (A.from q p (sym (spot_past q r (with_places m b.node) m k) ∙ h))

  pub visited : (n r : ℕ) (l : Listing) → Deep R nodes t n r → Fine l → Visited l (visit t n r l) r
  unfolding visit enter Deep
  visited zero r l D F = absurd D
  visited (suc n) r l D F = rw D.1 (go (spot r l) refl (λ c m k G. visited n c k (D.2 c m) G))
    where
      go : (o : Option ℕ) → spot r l ≡ o → ((c : ℕ) → Mem c D.0.node.kids → (k : Listing) → Fine k → Visited k (visit t n c k) c) → Visited l (enter r o (Some D.0) (visit t n) l) r
      go (Some p) e ih = record { fine = F; extends = extends_self l; listed = (p, e); from = λ q s h. inl (s, h) }
      go None e ih = push_visited l (each (visit t n) D.0.node.kids l) r D.0 D.1 e (each_visited (visit t n) D.0.node.kids l ih F)

module _ {P : Type 0} (R : Rule P) (nodes : ℕ → List Term) (t : Table P) where
  -- the asked class stands last
  last : (n r : ℕ) → Deep R nodes t n r → (p : ℕ) × (spot r (visit t n r []) ≡ Some p) × (suc p ≡ length (visit t n r []))
  unfolding visit enter spot Deep
  last zero r D = absurd D
  last (suc n) r D = rw D.1 (length (each (visit t n) D.0.node.kids []), spot_here r (with_places (each (visit t n) D.0.node.kids []) D.0.node) (each (visit t n) D.0.node.kids []), refl)

module _ {P : Type 0} (R : Rule P) (nodes : ℕ → List Term) (rs : List ℕ) (listed : (r : ℕ) (x : Term) → Mem x (nodes r) → Mem r rs) where
  -- the listing of class r by the table t has at its last place a form of the class, at the price of the class; no class is listed twice
  abbrev pub Shows : Table P → ℕ → P → Type 0
  Shows t r p = (f : Form) × (m : ℕ) × (suc m ≡ length (cheapest t rs r)) × In (StandsAt (cheapest t rs r)) f m × In (Has R nodes) f r × R.Le (cost R f) p × R.Le p (cost R f) × Once (cheapest t rs r)

  -- 3. so it is by every table whose choices are backed and ranked, and whose prices are least
  pub shows : (t : Table P) → Backed R nodes t → Ranked R nodes t → Least R nodes t → (r : ℕ) (b : Best P) → look r t ≡ Some b → Shows t r b.price
  shows t B K L r b e =
      let D = no_circle R nodes rs listed t B K r b e in
      let A = visited R nodes t B K (length rs) r [] D (record { once = tt; shown = λ c p h. absurd (spot_nil c p h) }) in
      let s = last R nodes t (length rs) r D in
      let w = A.fine.shown r s.0 s.1 in
      let low = L r w.0 w.3 in
      let i : w.1 ≡ b = same_Some _ _ (sym w.2 ∙ e) in
      let j : low.0 ≡ b = same_Some _ _ (sym low.1 ∙ e) in
      let le : R.Le (cost R w.0) b.price = subst (λ (z : Best P). R.Le (cost R w.0) z.price) i w.5 in
      let ge : R.Le b.price (cost R w.0) = subst (λ (z : Best P). R.Le z.price (cost R w.0)) j low.2 in
      (w.0, s.0, s.2, w.4, w.3, le, ge, A.fine.once)

  -- by the table that the passes leave
  pub final_shows : (r : ℕ) (b : Best P) → look r (final R nodes rs) ≡ Some b → Shows (final R nodes rs) r b.price
  final_shows r b e = shows (final R nodes rs) (backed R nodes rs (length rs)) (ranked R nodes rs (length rs)) (least R nodes rs listed) r b e
