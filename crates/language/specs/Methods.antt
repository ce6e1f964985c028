-- What the methods of `Node` find, by `==`, `cmp` and a fold over its parts and its children, is what the definitions say.
-- Assumes nothing.
use mathlib.Core.List.{List, map}
use Rattle.std.specs.Prelude.{◌≡◌, refl, Bool, ◌&&◌, ℕ, ◌+◌, ◌≤◌, ◌<◌, get_or, length, nat_eq, set, take}
use Rattle.std.specs.Bool.{Decides}
use Rattle.std.specs.Cmp.Derive.Mapped.{lex_map, pointwise-map}
use Rattle.std.specs.Cmp.Lexicographic.{pointwise, slice_cmp}
use Rattle.std.specs.List.{fold}
use Rattle.std.specs.Ordering.{nat_cmp, ordering_then}
use Rattle.std.specs.declared.cmp.Ordering.{Ordering}
use Rattle.std.specs.declared.cmp.Ordering.TheVariants.{Equal, Greater, Less}
use Rattle.std.proofs.Common.{ap, arith, sym, ◌∙◌}
use Rattle.std.proofs.Math.ListN.{get_or-map}
use Rattle.std.proofs.lemmas.Bool.Decides.{Decides-and, Decides-eqb}
use Rattle.std.proofs.lemmas.List.{length-map}
use Rattle.std.proofs.lemmas.List.Edits.{sets}
use Rattle.std.proofs.lemmas.List.Folds.{fold-map}
use Rattle.std.proofs.lemmas.Slice.Eq.{bytes_eq-Decides}
use Rattle.lists.specs.Stores.{sets_more}
use Rattle.lists.specs.Tests.{Says, zero_one}
use Rattle.language.specs.declared.Id.{Id}
use Rattle.language.specs.declared.Node.{Node}
use Rattle.language.specs.Hashed.{hash, mixed}
use Rattle.language.specs.Ordered.{compare, compare_all, order}
use Rattle.language.specs.Struct.{Full, count_kids, node_of}
use Rattle.language.specs.Term.{Match, Term, places, term_path}

-- the ids as numbers
abbrev numbers : List Id → List ℕ
numbers ks = map (λ (k : Id). k.0) ks

says : {r : Bool} {P : Type 0} → Decides r P → Says r P
says d = record { holds = d.0; fails = λ e p. (let t = d.1 p in zero_one cc) }

then_then : (o q r : Ordering) → ordering_then (ordering_then o q) r ≡ ordering_then o (ordering_then q r)
then_then Less q r = refl
then_then Equal q r = refl
then_then Greater q r = refl

-- ---- two nodes

module _ (x y : Node) (f : Full x) (g : Full y) (h : x.count ≤ places) (k : y.count ≤ places) where
  pub matched : (r : Bool) → r ≡ (nat_eq x.op.0 y.op.0 && nat_eq x.payload y.payload && nat_eq x.count y.count) → Says r (Match (node_of x) (node_of y))
  unfolding node_of
  matched r e =
      let d = Decides-and _ _ (Decides-and _ _ (Decides-eqb x.op.0 y.op.0) (Decides-eqb x.payload y.payload)) (Decides-eqb x.count y.count) in
      rw e (says (
        λ t. let p = d.0 t in record { op = p.0.0; payload = p.0.1; count = count_kids x f h ∙ p.1 ∙ sym (count_kids y g k) },
        λ m. d.1 ((m.op, m.payload), sym (count_kids x f h) ∙ m.count ∙ count_kids y g k),
      ))

  pub ordered : (ks ls : List Id) → numbers ks ≡ (node_of x).kids → numbers ls ≡ (node_of y).kids
      → ordering_then (ordering_then (ordering_then (nat_cmp x.op.0 y.op.0) (nat_cmp x.payload y.payload)) (nat_cmp x.count y.count))
      (slice_cmp (λ (k l : Id). nat_cmp k.0 l.0) ks ls)
      ≡ order (node_of x) (node_of y)
  unfolding order compare_all compare node_of
  ordered ks ls d e =
      rw (← lex_map (λ (k : Id). k.0) nat_cmp ks ls, d, e)
      (rw (then_then (ordering_then _ _) _ _, then_then _ _ (ordering_then _ _), count_kids x f h, count_kids y g k) refl)

-- nodes that match are equal where their children are
pub equal : (s t : Term) (ks ls : List Id) → Match s t → numbers ks ≡ s.kids → numbers ls ≡ t.kids
    → (r : Bool) → r ≡ pointwise (λ (k l : Id). nat_eq k.0 l.0) ks ls → Says r (s ≡ t)
equal s t ks ls m d e r w =
    let p = bytes_eq-Decides s.kids t.kids in
    rw (w, ← pointwise-map (λ (k : Id). k.0) nat_eq ks ls, d, e) (says (λ h. term_path m.op m.payload (p.0 h), λ q. p.1 (ap (λ (u : Term). u.kids) q)))

-- ---- one node

module _ (x : Node) (f : Full x) (h : x.count ≤ places) (ks : List Id) (e : numbers ks ≡ (node_of x).kids) where
  pub hashed : fold (λ w (k : Id). mixed w k.0) (mixed (mixed (mixed 0 x.op.0) x.payload) x.count) ks ≡ hash (node_of x)
  unfolding hash node_of
  hashed = rw (← fold-map mixed (λ (k : Id). k.0) _ ks, e, count_kids x f h) refl

-- one child more stored
pub put_more : (ks : List Id) (l : List ℕ) (p i : ℕ) → i < length ks
    → set (sets l p (take i (numbers ks))) (p + i) (get_or ks i (record { 0 = 0 })).0 ≡ sets l p (take (i + 1) (numbers ks))
put_more ks l p i h =
    rw (← get_or-map (λ (k : Id). k.0) ks i (record { 0 = 0 })) (sets_more l (numbers ks) p i (simp length-map (omega arith)))
