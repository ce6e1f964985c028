-- What `put_node` promises: a node's words stand from a place on, the place behind them is answered, and every other word is as it was.
-- Assumes nothing.
use Rattle.std.specs.Prelude.{List, [], ◌∷◌, ◌++◌, ◌≡◌, refl, ◌+◌, ◌-◌, ◌≤◌, suc, ℕ, drop, length, take}
use Rattle.std.proofs.Common.{append_assoc, ◌∙◌, ap, sym, arith, drop-drop}
use Rattle.std.proofs.Math.Seq.{length-sets}
use Rattle.std.proofs.lemmas.List.Edits.{sets, sets-eq}
use Rattle.lists.specs.Sets.{sets_after, sets_before, sets_stand}
use Rattle.language.specs.Fitting.{term}
use Rattle.language.specs.Struct.{node_of}
use Rattle.language.specs.Term.{words}
use Rattle.language.specs.declared.Node.{Node}
use Rattle.language.specs.declared.fit.Fit.{Fit}

-- out' is out with the words of the node x from p on, and r is the place behind them
pub record Puts (out : List ℕ) (p : ℕ) (x : Fit) (r : ℕ) (out' : List ℕ) : Type 0 where
  pub exact : out' ≡ sets out p (words (term x))
  pub next : r ≡ p + length (words (term x))
  pub count : r ≡ p + 3 + x.node.count
  pub fits : r ≤ length out
  pub size : length out' ≡ length out
  pub before : take p out' ≡ take p out
  pub stands : take (3 + x.node.count) (drop p out') ≡ words (term x)
  pub after : drop r out' ≡ drop r out

-- the three words in front of the children
abbrev front : Node → List ℕ
front x = x.op.0 ∷ x.payload ∷ x.count ∷ []

-- they go over what stands in the three places from p on, as ys
module _ (out ys : List ℕ) (p : ℕ) (x : Node) (e : ys ≡ front x) (fits : p + 3 ≤ length out) where
  abbrev over : List ℕ
  over = take p out ++ (ys ++ drop (p + 3 - p) (drop p out))

  front_is : over ≡ sets out p (front x)
  front_is = let three : p + 3 - p ≡ 3 = omega arith in
      rw (three, e, drop-drop 3 p out) (sym (sets-eq (front x) out p fits ∙ append_assoc (take p out) (front x) (drop (p + 3) out)))

-- then the children: the words of the node
three : (out : List ℕ) (p : ℕ) (x : Fit) → sets (sets out p (front x.node)) (p + 3) (term x).kids ≡ sets out p (words (term x))
unfolding node_of
three out p x = let all : p + 3 ≡ suc (suc (suc p)) = omega arith in rw (x.many, all) refl

-- as the code writes it
pub puts : (out ys out' : List ℕ) (p n : ℕ) (x : Fit) → p + length (words (term x)) ≤ length out → n ≡ length (words (term x))
    → (d : ys ≡ front x.node) (room : p + 3 ≤ length out) → out' ≡ sets (over out ys p x.node d room) (p + 3) (term x).kids → Puts out p x (p + n) out'
puts out ys out' p n x h en d room e = record {
  exact = same;
  next = behind;
  count = omega (arith, long);
  fits = omega arith;
  size = ap length same ∙ length-sets out p (words (term x));
  before = ap (λ (l : List ℕ). take p l) same ∙ sets_before out (words (term x)) p h;
  stands = rw (← long, same) (sets_stand out (words (term x)) p h);
  after = rw (behind, same) (sets_after out (words (term x)) p h);
}
  where
    long : length (words (term x)) ≡ 3 + x.node.count
    long = omega arith

    behind : p + n ≡ p + length (words (term x))
    behind = ap (λ (k : ℕ). p + k) en

    same : out' ≡ sets out p (words (term x))
    same = e ∙ rw (front_is out ys p x.node d room) (three out p x)
