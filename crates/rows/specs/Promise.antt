-- What the functions promise: for any words what is read and what is written, and for words that hold rows what it means.
-- Assumes nothing.
use Rattle.std.specs.Prelude.{Err, Ok, Result, List, [], ◌++◌, ◌∷◌, ◌≡◌, ◌+◌, ◌<◌, ◌≤◌, ℕ, drop, length, set, take, ◌-◌}
use Rattle.broken.specs.declared.Broken.{Broken}
use Rattle.broken.specs.Words.{broken}
use Rattle.std.proofs.Common.{◌∙◌, subst, sym}
use Rattle.std.proofs.Math.Path.{refl}
use native.Mathlib.Omega.{arith}
use Rattle.std.proofs.lemmas.List.Edits.{sets}
use Rattle.lists.specs.Reads.{at}
use Rattle.lists.specs.Stores.{runs}
use Rattle.lists.specs.Tests.{zero_one}
use Rattle.language.specs.Fitting.{term}
use Rattle.language.specs.Struct.{node_of}
use Rattle.language.specs.Term.{Match, Term, term_at}
use Rattle.language.specs.declared.fit.Fit.{Fit}
use Rattle.rows.specs.Determined.{read_given, read_key, sane}
use Rattle.rows.specs.Keying.{keying, rows_key}
use Rattle.rows.specs.Read.{Sane, count_broken, count_sane, given_read, key_read, leaf_at, read}
use Rattle.rows.specs.Rows.{Rows, taken}
use Rattle.std.specs.Result.{result_unwrap_or}
use Rattle.rows.specs.Storing.{rows_store, storing}

-- ---- a read

-- a read found this node
abbrev pub IsNodeOf : Result Fit Broken → Term → Type 0
IsNodeOf r t = (x : Fit) × (r ≡ Ok x) × (term x ≡ t)

-- children behind base
pub record Reads (ws : List ℕ) (n m i base : ℕ) (r : Result Fit Broken) : Type 0 where
  pub found : (x : Fit) → r ≡ Ok x → Sane ws n m i × (term x ≡ read ws n m i base)
  pub broken : r ≡ broken → Sane ws n m i → ⊥

pub record Given (ws : List ℕ) (n m i : ℕ) (r : Result Fit Broken) : Type 0 where
  pub found : (x : Fit) → r ≡ Ok x → Sane ws n m i × (term x ≡ given_read ws n m i)
  pub broken : r ≡ broken → Sane ws n m i → ⊥
  pub sound : (ts ks : List Term) → Rows ws n m ts ks → i < length ts → IsNodeOf r (term_at ts i)

pub record Key (ws : List ℕ) (n m i : ℕ) (r : Result Fit Broken) : Type 0 where
  pub found : (x : Fit) → r ≡ Ok x → Sane ws n m i × (term x ≡ key_read ws n m i)
  pub broken : r ≡ broken → Sane ws n m i → ⊥
  pub sound : (ts ks : List Term) → Rows ws n m ts ks → i < length ts → IsNodeOf r (term_at ks i)

module _ (ws : List ℕ) (n m i base : ℕ) where
  -- where the children stand, and how many
  abbrev pub place : ℕ
  place = base + at ws (n + (n + (n + i)))

  abbrev pub many : ℕ
  many = at ws (n + (n + i))

  -- x is the node over the children that the code lends
  pub reads_done : (x : Fit) → place + many ≤ length ws → Sane ws n m i
      → term x ≡ record { op = at ws i; payload = at ws (n + i); kids = take (place + many - place) (drop place ws) } → Reads ws n m i base (Ok x)
  unfolding read
  reads_done x h s e =
      let k : place + many - place ≡ many = omega arith in
      let er : term x ≡ read ws n m i base = rw (e, k, count_sane ws n m i s) refl in
      record {
        found = λ y (q : Ok x ≡ Ok y). let same : x ≡ y = cc in (s, subst (λ z. term z ≡ read ws n m i base) same er);
        broken = λ (q : Ok x ≡ broken). zero_one cc;
      }

-- where no row is read the node without children is what a read of any words gives
leaf_read : (ws : List ℕ) (n m i base : ℕ) (l : Fit) → term l ≡ leaf_at ws n i → Reads ws n m i base broken → term l ≡ read ws n m i base
unfolding read leaf_at
leaf_read ws n m i base l el R = rw (el, count_broken ws n m i (R.broken refl)) refl

-- what the code answers on any words: the node that was read, else the one without children
pub or_leaf : (ws : List ℕ) (n m i base : ℕ) (l x : Fit) (r : Result Fit Broken) → term l ≡ leaf_at ws n i → Reads ws n m i base r → x ≡ result_unwrap_or r l
    → term x ≡ read ws n m i base
or_leaf ws n m i base l x (Ok y) el R e = rw e (R.found y refl).1
or_leaf ws n m i base l x (Err _) el R e = rw e (leaf_read ws n m i base l el R)

-- a node is found where the row is sane
sane_found : (ws : List ℕ) (n m i base : ℕ) (r : Result Fit Broken) → Reads ws n m i base r → Sane ws n m i → IsNodeOf r (read ws n m i base)
sane_found ws n m i base (Ok x) f s = (x, refl, (f.found x refl).1)
sane_found ws n m i base (Err e) f s = absurd (f.broken refl s)

pub given_found : (ws : List ℕ) (n m i : ℕ) (r : Result Fit Broken) → Reads ws n m i (n + n + n + n) r → Given ws n m i r
given_found ws n m i r f = record {
  found = f.found;
  broken = f.broken;
  sound = λ ts ks R h. let x = sane_found ws n m i (n + n + n + n) r f (sane ws n m ts ks R i h) in (x.0, x.1, x.2 ∙ read_given ws n m ts ks R i h);
}

pub key_found : (ws : List ℕ) (n m i : ℕ) (r : Result Fit Broken) → Reads ws n m i (n + n + n + n + m) r → Key ws n m i r
key_found ws n m i r f = record {
  found = f.found;
  broken = f.broken;
  sound = λ ts ks R h. let x = sane_found ws n m i (n + n + n + n + m) r f (sane ws n m ts ks R i h) in (x.0, x.1, x.2 ∙ read_key ws n m ts ks R i h);
}

-- ---- a new id

pub record Stored (ws ws' : List ℕ) (n m i p : ℕ) (t k : Term) : Type 0 where
  pub exact : ws' ≡ runs ws (storing n m i p t k)
  pub law : (ts ks : List Term) → Rows ws n m ts ks → i ≡ length ts → p ≡ taken ts (length ts) → k.op ≡ t.op → k.payload ≡ t.payload
      → Rows ws' n m (ts ++ (t ∷ [])) (ks ++ (k ∷ []))

-- as the code finds it
stored_words : (ws a b : List ℕ) (n m i p : ℕ) (x y : Fit)
    → a ≡ sets (set (set (set (set ws i x.node.op.0) (n + i) x.node.payload) (n + (n + i)) x.node.count) (n + (n + (n + i))) p) (n + n + n + n + p) (term x).kids
    → b ≡ sets a (n + n + n + n + m + p) (term y).kids → b ≡ runs ws (storing n m i p (term x) (term y))
unfolding node_of
stored_words ws a b n m i p x y ea eb = rw (eb, ea, x.many) refl

pub stored : (ws a b : List ℕ) (n m i p : ℕ) (x y : Fit) → y.node.count ≡ x.node.count → i < n → p + x.node.count ≤ m
    → a ≡ sets (set (set (set (set ws i x.node.op.0) (n + i) x.node.payload) (n + (n + i)) x.node.count) (n + (n + (n + i))) p) (n + n + n + n + p) (term x).kids
    → b ≡ sets a (n + n + n + n + m + p) (term y).kids → Stored ws b n m i p (term x) (term y)
stored ws a b n m i p x y c h l ea eb =
    record { exact = same; law = λ ts ks R ei ep eo el. rw same (rows_store ws n m ts ks R i p (term x) (term y) ei ep h (omega arith) (omega arith) (record { op = eo; payload = el; count = y.many ∙ c ∙ sym x.many })) }
  where
    same : b ≡ runs ws (storing n m i p (term x) (term y))
    same = stored_words ws a b n m i p x y ea eb

-- ---- another key

-- the count fits the node, and the places are within bounds
abbrev pub Fits : List ℕ → ℕ → ℕ → ℕ → Term → Type 0
Fits ws n m i k = (at ws (n + (n + i)) ≡ length k.kids) × (at ws (n + (n + (n + i))) + length k.kids ≤ m)

pub record Keyed (ws ws' : List ℕ) (n m i : ℕ) (k : Term) (r : Result Unit Broken) : Type 0 where
  pub done : Fits ws n m i k → (r ≡ Ok tt) × (ws' ≡ keying ws n m (at ws (n + (n + (n + i)))) k.kids)
  pub broken : (Fits ws n m i k → ⊥) → (r ≡ broken) × (ws' ≡ ws)
  pub law : (ts ks : List Term) → Rows ws n m ts ks → i < length ts → Match k (term_at ts i) → (r ≡ Ok tt) × Rows ws' n m ts (set ks i k)

module _ (ws : List ℕ) (n m i : ℕ) (k : Term) where
  pub fits : (ts ks : List Term) → Rows ws n m ts ks → i < length ts → Match k (term_at ts i) → Fits ws n m i k
  fits ts ks R h e = let g = sane ws n m ts ks R i h in let r = R.row i h in (omega (arith, e.count), omega (arith, e.count))

  keyed_broken : (Fits ws n m i k → ⊥) → Keyed ws ws n m i k broken
  keyed_broken f = record {
    done = λ g. absurd (f g);
    broken = λ _. (refl, refl);
    law = λ ts ks R h e. absurd (f (fits ts ks R h e));
  }

  keyed_done : (ws' : List ℕ) → Fits ws n m i k → ws' ≡ keying ws n m (at ws (n + (n + (n + i)))) k.kids → Keyed ws ws' n m i k (Ok tt)
  keyed_done ws' f e = record {
    done = λ _. (refl, e);
    broken = λ g. absurd (g f);
    law = λ ts ks R h q. (refl, rw (e, (R.row i h).first) (rows_key ws n m ts ks R i k h q));
  }

-- the node whose children are written
module _ (ws : List ℕ) (n m i : ℕ) (x : Fit) where
  pub rekey_broken : (at ws (n + (n + i)) ≡ x.node.count → at ws (n + (n + (n + i))) + x.node.count ≤ m → ⊥) → Keyed ws ws n m i (term x) broken
  rekey_broken h = keyed_broken ws n m i (term x) (λ g. h (omega arith) (omega arith))

  pub rekey_done : (ws' : List ℕ) → at ws (n + (n + i)) ≡ x.node.count → at ws (n + (n + (n + i))) + x.node.count ≤ m
      → ws' ≡ keying ws n m (at ws (n + (n + (n + i)))) (term x).kids → Keyed ws ws' n m i (term x) (Ok tt)
  rekey_done ws' a l w = keyed_done ws n m i (term x) ws' (omega arith, omega arith) w
