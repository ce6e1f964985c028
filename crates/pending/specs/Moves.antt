-- What the words mean: at depth d they stand for a plain list of ids, the last pushed first. Pushing puts ids in front of it, and the two moves
-- that take the id pushed last leave the rest.
-- Assumes nothing.
use Rattle.std.specs.Prelude.{◌≡◌, refl, List, [], ◌∷◌, ◌++◌, reverse, ℕ, suc, ◌+◌, ◌-◌, ◌<◌, ◌≤◌, length, take}
use Rattle.std.proofs.Common.{sym, ap, ◌∙◌, arith, length-take-le}
use Rattle.lists.specs.Reads.{at, reverse_last}
use Rattle.lists.specs.Tests.{zero_one}
use Rattle.pending.specs.Stack.{Entries, Stack, stretched, stack_frame, stack_determined}
use Rattle.pending.specs.Stands.{Stands, none, one, many, stands_map, stands_stretched, total, stands_length, total_le, stands_determined}
use Rattle.pending.specs.Promise.{Pushes, PushesStretch, Tops}
use Rattle.pending.specs.declared.OnTop.{OnTop}
use Rattle.pending.specs.declared.OnTop.TheVariants.{TopOne, TopMany}

pub record Pending (S : ℕ → ℕ → List ℕ → Type 0) (ps : List ℕ) (d : ℕ) (is : List ℕ) : Type 0 where
  pub entries : Entries
  pub size : length entries ≡ d
  pub stack : Stack ps entries
  pub stands : Stands S entries is

-- the ids `is` are x and then those that stand at depth d
pub record Taken (S : ℕ → ℕ → List ℕ → Type 0) (ps : List ℕ) (d x : ℕ) (is : List ℕ) : Type 0 where
  pub left : List ℕ
  pub all : is ≡ x ∷ left
  pub rest : Pending S ps d left

-- the ids `is` are the stretch of k places that ends at c, and then those that stand at depth d
pub record StretchOn (S : ℕ → ℕ → List ℕ → Type 0) (ps : List ℕ) (d c k : ℕ) (is : List ℕ) : Type 0 where
  pub xs : List ℕ
  pub left : List ℕ
  pub stretch : S c k xs
  pub all : is ≡ reverse xs ++ left
  pub rest : Pending S ps d left

module _ {S : ℕ → ℕ → List ℕ → Type 0} where
  -- ---- none, and more

  pub pending_none : (ps : List ℕ) → Pending S ps 0 []
  pending_none ps = record { entries = []; size = refl; stack = tt; stands = none }

  pub pending_one : {ps ps' : List ℕ} {d : ℕ} {is : List ℕ} (i : ℕ) → Pending S ps d is → Pushes ps d i 0 ps' → Pending S ps' (d + 1) (i ∷ is)
  pending_one i p q = record {
    entries = (i, 0) ∷ p.entries;
    size = omega (arith, p.size);
    stack = q.law p.entries p.size p.stack;
    stands = one p.stands;
  }

  pub pending_stretch : {ps ps' : List ℕ} {d r : ℕ} {is : List ℕ} (c k : ℕ) (xs : List ℕ) → (0 < k → S c k xs) → length xs ≡ k → Pending S ps d is → PushesStretch ps d c k r ps'
      → Pending S ps' r (reverse xs ++ is)
  pending_stretch c k xs h e p q =
      let l = q.law p.entries p.size p.stack in
      record { entries = stretched c k p.entries; size = l.0; stack = l.1; stands = stands_stretched c k xs h e p.stands }

  -- ---- the two moves

  pub take_one : {ps : List ℕ} {d i : ℕ} {r : OnTop ℕ} {is : List ℕ} → Pending S ps d is → 0 < d → Tops ps d r → r ≡ TopOne i → Taken S ps (d - 1) i is
  take_one {ps} {d} {i} {r} {is} p some t e = go p.entries is p.size p.stack p.stands
    where
      go : (es : Entries) (is : List ℕ) → length es ≡ d → Stack ps es → Stands S es is → Taken S ps (d - 1) i is
      go [] is l s none = absurd (omega arith)
      go (x ∷ es) is l s (one {i = j} {is = js} u) =
          let q : j ≡ i = cc (sym (t.law j 0 es (omega arith) s) ∙ e) in
          record { left = js; all = ap (λ (z : ℕ). z ∷ js) q; rest = record { entries = es; size = omega arith; stack = s.2; stands = u } }
      go (x ∷ es) is l s (many {c = c} {k = k} h u) =
          let f = sym (t.law c (suc k) es (omega arith) s) ∙ e in
          zero_one cc

  pub top_stretch : {ps : List ℕ} {d c k : ℕ} {r : OnTop ℕ} {is : List ℕ} → Pending S ps d is → 0 < d → Tops ps d r → r ≡ TopMany c k → StretchOn S ps (d - 1) c k is
  top_stretch {ps} {d} {c} {k} {r} {is} p some t e = go p.entries is p.size p.stack p.stands
    where
      go : (es : Entries) (is : List ℕ) → length es ≡ d → Stack ps es → Stands S es is → StretchOn S ps (d - 1) c k is
      go [] is l s none = absurd (omega arith)
      go (x ∷ es) is l s (one {i = j} u) =
          let f = sym (t.law j 0 es (omega arith) s) ∙ e in
          zero_one cc
      go (x ∷ es) is l s (many {c = b} {k = j} {xs = xs} {is = js} h u) =
          let f = sym (t.law b (suc j) es (omega arith) s) ∙ e in
          let bc : b ≡ c = cc f in
          let jk : suc j ≡ k = cc f in
          record { xs = xs; left = js; stretch = rw (← bc, ← jk) h; all = refl; rest = record { entries = es; size = omega arith; stack = s.2; stands = u } }

  -- the id of the last place is taken, and the stretch of one place less that ends at b is put back
  pub take_last : {ps ps' : List ℕ} {d c k r : ℕ} {is : List ℕ} (b : ℕ) (t : StretchOn S ps d c k is) → 0 < k → length t.xs ≡ k
      → (0 < k - 1 → S b (k - 1) (take (k - 1) t.xs)) → PushesStretch ps d b (k - 1) r ps' → Taken S ps' r (at t.xs (k - 1)) is
  take_last {k = k} b t some len h q = record {
    left = reverse (take (k - 1) t.xs) ++ t.left;
    all = t.all ∙ ap (λ (l : List ℕ). l ++ t.left) (reverse_last t.xs (k - 1) (omega arith));
    rest = pending_stretch b (k - 1) (take (k - 1) t.xs) h (length-take-le (k - 1) t.xs (omega arith)) t.rest q;
  }

  -- ---- what depth and words say of the ids

  pub pending_empty : {ps : List ℕ} {is : List ℕ} → Pending S ps 0 is → is ≡ []
  pending_empty {is = is} p = go p.entries is p.size p.stands
    where
      go : (es : Entries) (is : List ℕ) → length es ≡ 0 → Stands S es is → is ≡ []
      go [] is e none = refl
      go (x ∷ es) is e s = absurd (omega arith)

  pub pending_frame : {ps qs : List ℕ} {d : ℕ} {is : List ℕ} → ((i : ℕ) → i < d + d → at qs i ≡ at ps i) → Pending S ps d is → Pending S qs d is
  pending_frame {ps} {qs} h p = record {
    entries = p.entries;
    size = p.size;
    stack = stack_frame ps qs p.entries (λ i l. h i (omega (arith, p.size))) p.stack;
    stands = p.stands;
  }

  pub pending_determined : {ps : List ℕ} {d : ℕ} {is js : List ℕ} → ((c k : ℕ) (xs ys : List ℕ) → S c (suc k) xs → S c (suc k) ys → xs ≡ ys)
      → Pending S ps d is → Pending S ps d js → is ≡ js
  pending_determined {ps} f p q =
      let e = stack_determined ps p.entries q.entries (p.size ∙ sym q.size) p.stack q.stack in
      stands_determined f (rw e at p.stands) q.stands

  -- where a stretch of k places stands for k ids
  module _ (sized : (c k : ℕ) (xs : List ℕ) → S c k xs → length xs ≡ k) where
    pub pending_total : {ps : List ℕ} {d : ℕ} {is : List ℕ} (p : Pending S ps d is) → length is ≡ total p.entries
    pending_total p = stands_length sized p.stands

    pub depth_le : {ps : List ℕ} {d : ℕ} {is : List ℕ} → Pending S ps d is → d ≤ length is
    depth_le p = omega (arith, p.size, total_le p.entries, pending_total p)

pub pending_map : {S T : ℕ → ℕ → List ℕ → Type 0} {ps : List ℕ} {d : ℕ} {is : List ℕ} → ((c k : ℕ) (xs : List ℕ) → S c k xs → T c k xs) → Pending S ps d is → Pending T ps d is
pending_map f p = record { entries = p.entries; size = p.size; stack = p.stack; stands = stands_map f p.stands }
