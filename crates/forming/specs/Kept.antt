-- A listing seen from its end: at each place stands the node that the table chose for the class there, and its children are places of that very listing. A listing only
-- grows, and a place once given stays: so what was true when a class was listed is true of the listing that is left.
-- Assumes nothing.
use mathlib.Core.List.{List, [], ◌∷◌}
use Rattle.std.specs.Prelude.{◌≢◌, ◌⊎◌, ◌≡◌, length, Option, None, Some}
use Rattle.std.proofs.Common.{inl, inr, ◌∙◌, ap, sym, arith}
use Rattle.std.proofs.Math.Path.{refl}
use Prim.Native.Nat.{◌<◌, suc, zero, ℕ}
use Rattle.lists.specs.Members.{Mem, here, mem_at, there}
use Rattle.lists.specs.Reads.{at, map_at}
use Rattle.lists.specs.Tests.{eq_or, zero_one}
use Rattle.language.specs.Term.{Term, term_path}
use Rattle.price.specs.Chosen.{Backed, Deep, Ranked, no_circle}
use Rattle.price.specs.Listing.{Listing, cheapest, each, enter, entry, or_zero, spot, spot_of, visit, with_places}
use Rattle.price.specs.Pass.{Best, Table, look}
use Rattle.price.specs.Rule.{Rule}
use Rattle.price.specs.Shown.{Extends, Fine, Visited, each_visited, entry_here, entry_past, extends_more, visited}
use Rattle.pricing.specs.Laid.{class_at, class_here, class_past}

-- each child is listed
abbrev pub AllListed : Listing → Term → Type 0
AllListed l x = (c : ℕ) → Mem c x.kids → (q : ℕ) × (spot c l ≡ Some q)

-- their places stay
same_places : (l m : Listing) (x : Term) → Extends l m → AllListed l x → with_places m x ≡ with_places l x
same_places l m x X w = term_path refl refl (map_at (spot_of m) (spot_of l) x.kids (λ i h. go (at x.kids i) (w (at x.kids i) (mem_at x.kids i h))))
  where
    go : (c : ℕ) → (q : ℕ) × (spot c l ≡ Some q) → spot_of m c ≡ spot_of l c
    go c (q, e) = ap or_zero (X.spots c q e ∙ sym e)

module _ {P : Type 0} (t : Table P) where
  pub record AtPlace (l : Listing) (p : ℕ) : Type 0 where
    pub best : Best P
    pub chosen : look (class_at p l) t ≡ Some best
    pub stands : entry p l ≡ Some (with_places l best.node)
    pub kids : AllListed l best.node

  pub record Kept (l : Listing) : Type 0 where
    pub each : (p : ℕ) → p < length l → AtPlace l p

  -- a class more, whose children are listed
  kept_push : (l : Listing) (r : ℕ) (b : Best P) → look r t ≡ Some b → spot r l ≡ None → AllListed l b.node → Kept l → Kept ((r, with_places l b.node) ∷ l)
  kept_push l r b e n w K = record { each = λ p h. go p h (eq_or p (length l)) }
    where
      x : Term
      x = with_places l b.node

      X : Extends l ((r, x) ∷ l)
      X = extends_more r x l n

      more : (y : Term) → AllListed l y → AllListed ((r, x) ∷ l) y
      more y f c k = let s = f c k in (s.0, X.spots c s.0 s.1)

      go : (p : ℕ) → p < suc (length l) → (p ≡ length l) ⊎ (p ≢ length l) → AtPlace ((r, x) ∷ l) p
      go p h (inl q) = record {
        best = b;
        chosen = ap (λ (c : ℕ). look c t) (class_here p r x l q) ∙ e;
        stands = entry_here p r x l q ∙ ap Some (sym (same_places l ((r, x) ∷ l) b.node X w));
        kids = more b.node w;
      }
      go p h (inr q) =
          let a = K.each p (omega arith) in
          record {
            best = a.best;
            chosen = ap (λ (c : ℕ). look c t) (class_past p r x l q) ∙ a.chosen;
            stands = entry_past p r x l q ∙ (a.stands ∙ ap Some (sym (same_places l ((r, x) ∷ l) a.best.node X a.kids)));
            kids = more a.best.node a.kids;
          }

module _ {P : Type 0} (R : Rule P) (nodes : ℕ → List Term) (t : Table P) (B : Backed R nodes t) (K : Ranked R nodes t) where
  each_kept : (next : ℕ → Listing → Listing) (cs : List ℕ) (l : Listing)
      → ((c : ℕ) → Mem c cs → (k : Listing) → Fine R nodes t B K k → Visited R nodes t B K k (next c k) c × (Kept t k → Kept t (next c k)))
      → Fine R nodes t B K l → Kept t l → Kept t (each next cs l)
  unfolding each
  each_kept next [] l w F C = C
  each_kept next (c ∷ cs) l w F C = let a = w c (here refl) l F in each_kept next cs (next c l) (λ d m. w d (there m)) a.0.fine (a.1 C)

  visit_kept : (n r : ℕ) (l : Listing) → Deep R nodes t n r → Fine R nodes t B K l → Kept t l → Kept t (visit t n r l)
  unfolding visit enter Deep
  visit_kept zero r l D F C = absurd D
  visit_kept (suc n) r l D F C = rw D.1 (go (spot r l) refl (λ c m k G. (visited R nodes t B K n c k (D.2 c m) G, visit_kept n c k (D.2 c m) G)))
    where
      b : Best P
      b = D.0

      m : Listing
      m = each (visit t n) b.node.kids l

      go : (o : Option ℕ) → spot r l ≡ o
          → ((c : ℕ) → Mem c b.node.kids → (k : Listing) → Fine R nodes t B K k → Visited R nodes t B K k (visit t n c k) c × (Kept t k → Kept t (visit t n c k)))
          → Kept t (enter r o (Some b) (visit t n) l)
      go (Some p) e w = C
      go None e w =
          let q : visit t (suc n) r l ≡ (r, with_places m b.node) ∷ m = rw (e, D.1) refl in
          let f : Fine R nodes t B K ((r, with_places m b.node) ∷ m) = rw q at (visited R nodes t B K (suc n) r l D F).fine in
          let a = each_visited R nodes t B K (visit t n) b.node.kids l (λ c k i G. (w c k i G).0) F in
          kept_push t m r b D.1 f.once.0 a.listed (each_kept (visit t n) b.node.kids l w F C)

  fine_none : Fine R nodes t B K []
  unfolding spot
  fine_none = record { once = tt; shown = λ c p h. zero_one cc }

  kept_none : Kept t []
  kept_none = record { each = λ p h. absurd (omega arith) }

  -- the listing of a class that has a price
  pub cheapest_kept : (rs : List ℕ) → ((r : ℕ) (x : Term) → Mem x (nodes r) → Mem r rs) → (r : ℕ) (b : Best P) → look r t ≡ Some b → Kept t (cheapest t rs r)
  cheapest_kept rs listed r b e = visit_kept (length rs) r [] (no_circle R nodes rs listed t B K r b e) fine_none kept_none
