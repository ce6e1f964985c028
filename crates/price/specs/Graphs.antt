-- The price of a class of a graph that calls make: the passes end, each class then has the least price over its finite forms, and the listing shows a form at that price.
-- Assumes nothing.
use Rattle.std.specs.Prelude.{List, [], ◌∷◌, map, ◌⊎◌, ◌≡◌, refl, ◌<◌, ◌≤◌, suc, zero, ℕ, length, Some}
use Rattle.std.proofs.Common.{inl, inr, subst, arith}
use Rattle.std.proofs.Math.Decide.{ℕ_discrete}
use Rattle.lists.specs.Keeps.{length_filter, length_upto, upto}
use Rattle.lists.specs.Members.{Mem, here, there}
use Rattle.lists.specs.Reads.{lt_more}
use Rattle.language.specs.Term.{Term}
use Rattle.steps.specs.Classes.{class_nodes, class_roots, number_of_classes}
use Rattle.steps.specs.Forced.{Made}
use Rattle.steps.specs.Graph.{Graph, ids, node, root}
use Rattle.steps.specs.Machine.{grow, merge}
use Rattle.closure.specs.Facts.{node_new, node_old}
use Rattle.closure.specs.Induct.{made_keeps}
use Rattle.closure.specs.Kept.{made_good}
use Rattle.closure.specs.Listed.{NodeOf, nodes_from, nodes_has, roots_has}
use Rattle.price.specs.Ends.{end_in_time, passes_final}
use Rattle.price.specs.Extract.{FormOf, listing, quick_table, table}
use Rattle.price.specs.Form.{Form, Forms, In, InEach, ◌then◌, form, in_map, no_form}
use Rattle.price.specs.Least.{attained, least}
use Rattle.price.specs.Listing.{Once, StandsAt}
use Rattle.price.specs.Pass.{Best, Passes, Table, look}
use Rattle.price.specs.Rule.{Rule, cost}
use Rattle.price.specs.Shown.{Shows, final_shows}

-- ---- what the statements say

-- the listing of class r by the table t has, at its last place, a form of class r, at the price p; each class is listed once
pub record Lists {P : Type 0} (R : Rule P) (g : Graph) (t : Table P) (r : ℕ) (p : P) : Type 0 where
  pub shape : Form
  pub last : ℕ
  pub is_last : suc last ≡ length (listing g t r)
  pub stands : In (StandsAt (listing g t r)) shape last
  pub in_class : FormOf g shape r
  pub no_more : R.Le (cost R shape) p
  pub no_less : R.Le p (cost R shape)
  pub once : Once (listing g t r)

-- class r has a price: that of one of its forms, and none of its forms is cheaper
pub record LeastPrice {P : Type 0} (R : Rule P) (g : Graph) (r : ℕ) : Type 0 where
  pub best : Best P
  pub entry : look r (table R g) ≡ Some best
  pub cheapest : Form
  pub in_class : FormOf g cheapest r
  pub at_price : cost R cheapest ≡ best.price
  pub least : (f : Form) → FormOf g f r → R.Le best.price (cost R f)

-- ---- children are smaller ids

abbrev Falling : Graph → Type 0
Falling g = (i c : ℕ) → i < ids g → Mem c (node g.nodes i).kids → c < i

grow_falling : (g : Graph) (x : Term) → ((k : ℕ) → Mem k x.kids → k < ids g) → Falling g → Falling (grow g x)
unfolding grow
grow_falling g x kids_in F i c lt m = go (lt_more g.nodes x i lt)
  where
    go : (i < length g.nodes) ⊎ (i ≡ length g.nodes) → c < i
    go (inl h) = F i c h (rw (node_old g.nodes x i h) at m)
    go (inr e) = let k : Mem c x.kids = rw (e, node_new g.nodes x) at m in omega (arith, kids_in c k)

pub made_falling : {us : List (ℕ × ℕ)} {g : Graph} → Made us g → Falling g
unfolding merge
made_falling M = made_keeps (λ c g. Falling g) (record {
  at_fresh = λ i c lt m. absurd (omega arith);
  at_grow = λ us c g x G kids_in e F. grow_falling g x kids_in F;
  steps = record {
    at_mark = λ c g F. F;
    at_end = λ c g e F. F;
    at_merge = λ c g s l J F. F;
    at_take = λ us c g i rest G top F. F;
  };
}) M

-- ---- every class has a form

kids_formed : (g : Graph) (i : ℕ) → ((c : ℕ) → c < i → (f : Form) × FormOf g f (root g.roots c)) → (cs : List ℕ) → ((c : ℕ) → Mem c cs → c < i) → (fs : Forms) × InEach (NodeOf g) fs (map (root g.roots) cs)
unfolding In
kids_formed g i w [] h = (no_form, tt)
kids_formed g i w (c ∷ cs) h = let f = w c (h c (here refl)) in let k = kids_formed g i w cs (λ d m. h d (there m)) in (f.0 then k.0, (f.1, k.1))

formed_below : (g : Graph) → Falling g → (n i : ℕ) → i < n → i < ids g → (f : Form) × FormOf g f (root g.roots i)
unfolding In
formed_below g F zero i lt h = absurd (omega arith)
formed_below g F (suc n) i lt h =
    let x = node g.nodes i in
    let k = kids_formed g i (λ c l. formed_below g F n c (omega arith) (omega arith)) x.kids (λ c m. F i c h m) in
    (form x.op x.payload k.0, (map (root g.roots) x.kids, (i, h, refl, refl), k.1))

pub formed : {us : List (ℕ × ℕ)} {g : Graph} → Made us g → (i : ℕ) → i < ids g → (f : Form) × FormOf g f (root g.roots i)
formed {us} {g} M i h = formed_below g (made_falling M) (suc i) i (omega arith) h

-- ---- the theorems

module _ {P : Type 0} (R : Rule P) {us : List (ℕ × ℕ)} {g : Graph} (M : Made us g) where
  in_roots : (r : ℕ) (x : Term) → Mem x (class_nodes g r) → Mem r (class_roots g)
  in_roots r x m =
      let h = nodes_from g r x m in
      let S = (made_good M).shape in
      let e : root g.roots r ≡ r = rw h.2 at (S.root_root h.0) in
      let lt : r < ids g = rw h.2 at (S.root_lt h.0 h.1) in
      roots_has g r lt e

  -- 1. the passes over g end within one more than its classes
  pub passes_end : (n : ℕ) × (n ≤ suc (number_of_classes g)) × Passes R (class_nodes g) (class_roots g) n [] (table R g)
  passes_end = end_in_time R (class_nodes g) (class_roots g) in_roots

  pub quick : quick_table R g ≡ table R g
  quick = passes_final R (class_nodes g) (class_roots g) in_roots (suc (ids g)) (omega (arith, length_filter (λ (i : ℕ). ℕ_discrete (root g.roots i) i) (upto (ids g)), length_upto (ids g)))

  -- 2. every id's class has a price in the end, and it is the least over its finite forms
  pub least_price : (i : ℕ) → i < ids g → LeastPrice R g (root g.roots i)
  least_price i lt =
      let r = root g.roots i in
      let f = formed M i lt in
      let a = at_most r f.0 f.1 in
      let k = attained R (class_nodes g) (class_roots g) (length (class_roots g)) r a.0 a.1 in
      record {
        best = a.0;
        entry = a.1;
        cheapest = k.0;
        in_class = in_map k.0 (λ q x. Mem x (class_nodes g q)) (NodeOf g) r (nodes_from g) k.1;
        at_price = k.2;
        least = λ h m. low r a.0 a.1 h m;
      }
    where
      at_most : (r : ℕ) (f : Form) → FormOf g f r → (b : Best P) × (look r (table R g) ≡ Some b) × R.Le b.price (cost R f)
      at_most r f h = least R (class_nodes g) (class_roots g) in_roots r f (in_map f (NodeOf g) (λ q x. Mem x (class_nodes g q)) r (nodes_has g) h)

      low : (r : ℕ) (b : Best P) → look r (table R g) ≡ Some b → (f : Form) → FormOf g f r → R.Le b.price (cost R f)
      low r b e f h = let a = at_most r f h in let z : a.0 ≡ b = cc (a.1, e) in subst (λ (w : Best P). R.Le w.price (cost R f)) z a.2

  lists : (t : Table P) (r : ℕ) (p : P) → Shows R (class_nodes g) (class_roots g) in_roots t r p → Lists R g t r p
  lists t r p h = record {
    shape = h.0;
    last = h.1;
    is_last = h.2;
    stands = h.3;
    in_class = in_map h.0 (λ q x. Mem x (class_nodes g q)) (NodeOf g) r (nodes_from g) h.4;
    no_more = h.5;
    no_less = h.6;
    once = h.7;
  }

  -- 3. the chosen nodes run in no circle: the listing shows a cheapest form
  pub listed_form : (r : ℕ) (b : Best P) → look r (table R g) ≡ Some b → Lists R g (table R g) r b.price
  listed_form r b e = lists (table R g) r b.price (final_shows R (class_nodes g) (class_roots g) in_roots r b e)
