-- The laws that every function that lends a part cites: `did_lent` where the part was lent to be written, `seen_range` where it was lent to be read.
-- Assumes nothing.
use Rattle.std.specs.Prelude.{List, ◌≡◌, ◌-◌, ◌≤◌, ℕ, length}
use Rattle.std.proofs.Common.{◌∙◌, ap, arith}
use Rattle.std.specs.declared.ops.Range.{Range}
use borrow.Rule.Slice.PartMut.{same_len_mid}
use Rattle.lists.specs.Parts.{part, part_length, with_part}
use Rattle.layout.specs.Back.{back}
use Rattle.layout.specs.Cut.{Part, Spans, lower, need, upper, upper_need}
use Rattle.layout.specs.Lent.{Lent}
use Rattle.layout.specs.View.{get, get_part, get_put, view}
use Rattle.layout.proofs.Back.{back_view}
use Rattle.layout.specs.Did.{Did, SameLoan}
use Rattle.layout.specs.declared.graph.GraphMut.{GraphMut}

module _ (n m : ℕ) (ws ys : List ℕ) (lent : need n m ≤ length ws) where
  -- what a part that was lent leaves, where P is what the callee promised of it
  pub lent_part : (k : Part) (P : List ℕ → List ℕ → Type 0) → length ys ≡ length (part ws (lower k n m) (upper k n m))
      → P (part ws (lower k n m) (upper k n m)) ys → Lent k n m P ws (with_part ws (lower k n m) (upper k n m) ys)
  lent_part k P e p =
      let l : length ys ≡ upper k n m - lower k n m = e ∙ part_length ws (lower k n m) (upper k n m) (omega (arith, upper_need k n m)) in
      let v = back_view n m ws ys lent k l in
      let g : get k (view n m (back n m k ws ys)) ≡ ys = ap (get k) v ∙ get_put k (view n m ws) ys in
      record {
        size = same_len_mid (lower k n m) (upper k n m - lower k n m) ws ys e;
        else = rw g v;
        did = rw (g, get_part k n m ws) p;
      }

-- a part that is lent by the head's range, to be read: it is the part of the view
pub seen_range : {k : Part} {n m : ℕ} {r : Range ℕ} (ws : List ℕ) → Spans k n m r → get k (view n m ws) ≡ part ws r.start r.end
seen_range {k} {n} {m} ws s = rw (s.from, s.to) (get_part k n m ws)

-- what a part that was lent by the head's range leaves
pub lent_range : {k : Part} {n m : ℕ} {r : Range ℕ} {P : List ℕ → List ℕ → Type 0} (ws ys : List ℕ)
    → Spans k n m r → need n m ≤ length ws → length ys ≡ length (part ws r.start r.end)
    → P (part ws r.start r.end) ys → Lent k n m P ws (with_part ws r.start r.end ys)
lent_range {k} {n} {m} {P = P} ws ys s h e p = rw (s.from, s.to) (lent_part n m ws ys h k P (rw (s.from, s.to) at e) (rw (s.from, s.to) at p))

-- the same, of a graph whose part was lent
pub did_lent : {k : Part} {n m : ℕ} {r : Range ℕ} {P : List ℕ → List ℕ → Type 0} {g g' : GraphMut} (ys : List ℕ)
    → Spans k n m r → need n m ≤ length g.ws.now → length ys ≡ length (part g.ws.now r.start r.end) → P (part g.ws.now r.start r.end) ys
    → SameLoan g g' → g'.h ≡ g.h → g'.ws.now ≡ with_part g.ws.now r.start r.end ys → Did (Lent k n m P) g g'
did_lent {k} {n} {m} {P = P} {g} ys s h e p l d w = record { loan = l; head = d; did = rw w (lent_range g.ws.now ys s h e p) }
