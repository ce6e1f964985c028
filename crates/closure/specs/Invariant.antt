-- The invariant of the graphs that calls make: ranges, what the table and the roots stand for, and what is still to do.
-- Assumes nothing.
use Rattle.std.specs.Prelude.{◌∷◌, ◌⊎◌, refl, ◌<◌, ℕ, List, ◌≡◌, length, Some}
use Rattle.std.proofs.Common.{inl, inr, ◌∙◌, sym}
use Rattle.std.proofs.lemmas.List.{length-map}
use Rattle.lists.specs.Reads.{get_or_map_lt, at}
use Rattle.language.specs.Term.{Match, Term, same_term}
use Rattle.steps.specs.Forced.{alike, back, then, Forced}
use Rattle.steps.specs.Graph.{Graph, canon, kept, node, root, uses}
use Rattle.closure.specs.Facts.{kept_here, kept_past}
use Rattle.lists.specs.Members.{Mem}

-- ---- the invariant

abbrev pub Same : ℕ → ℕ → Type 0
Same x y = x ≡ y

-- equal, or the two roots that a union is about to join
abbrev pub Owed : ℕ → ℕ → ℕ → ℕ → Type 0
Owed a b x y = (x ≡ y) ⊎ ((x ≡ a) × (y ≡ b))

pub record Shape (ns : List Term) (rs : List ℕ) (ps : List (List ℕ)) (pend : List ℕ) : Type 0 where
  pub rl : length rs ≡ length ns
  pub pl : length ps ≡ length ns
  pub root_lt : (i : ℕ) → i < length ns → root rs i < length ns
  pub root_root : (i : ℕ) → root rs (root rs i) ≡ root rs i
  pub kids_lt : (i c : ℕ) → i < length ns → Mem c (node ns i).kids → c < length ns
  pub pend_lt : (i : ℕ) → Mem i pend → i < length ns
  pub uses_lt : (r x : ℕ) → Mem x (uses ps r) → x < length ns
  pub linked : (i c : ℕ) → i < length ns → Mem c (node ns i).kids → Mem i (uses ps (root rs c))

-- the key k of a table entry stands for the node x, up to what is forced
pub record Stands (ns : List Term) (us : List (ℕ × ℕ)) (k x : Term) : Type 0 where
  pub match : Match k x
  pub each : (p : ℕ) → p < length k.kids → Forced ns us (at k.kids p) (at x.kids p)

pub record Sound (us : List (ℕ × ℕ)) (ns : List Term) (rs : List ℕ) (memo : List (Term × ℕ)) : Type 0 where
  pub memo_lt : (k : Term) (i : ℕ) → kept k memo ≡ Some i → i < length ns
  pub to_root : (i : ℕ) → Forced ns us i (root rs i)
  pub keys : (k : Term) (i : ℕ) → kept k memo ≡ Some i → Stands ns us k (node ns i)

-- the table leads from the node of j to an id whose root is, by N, that of j
abbrev pub Settled : (N : ℕ → ℕ → Type 0) → List Term → List ℕ → List (Term × ℕ) → ℕ → Type 0
Settled N ns rs memo j = (m : ℕ) × (kept (canon rs (node ns j)) memo ≡ Some m) × N (root rs j) (root rs m)

pub record Whole (N : ℕ → ℕ → Type 0) (us : List (ℕ × ℕ)) (ns : List Term) (rs : List ℕ) (memo : List (Term × ℕ)) (pend : List ℕ) : Type 0 where
  pub asks : (i j : ℕ) → Mem (i, j) us → N (root rs i) (root rs j)
  pub covered : (j : ℕ) → j < length ns → Mem j pend ⊎ Settled N ns rs memo j

pub record Good (N : ℕ → ℕ → Type 0) (us : List (ℕ × ℕ)) (g : Graph) : Type 0 where
  pub shape : Shape g.nodes g.roots g.parents g.pending
  pub sound : Sound us g.nodes g.roots g.memo
  pub whole : Whole N us g.nodes g.roots g.memo g.pending

-- what holds by N holds by a wider N
pub wider : (N M : ℕ → ℕ → Type 0) (us : List (ℕ × ℕ)) (g : Graph) → ((x y : ℕ) → N x y → M x y) → Good N us g → Good M us g
wider N M us g w G = record {
  shape = G.shape;
  sound = G.sound;
  whole = record { asks = λ i j m. w (root g.roots i) (root g.roots j) (G.whole.asks i j m); covered = λ j h. go j (G.whole.covered j h) };
}
  where
    go : (j : ℕ) → Mem j g.pending ⊎ Settled N g.nodes g.roots g.memo j → Mem j g.pending ⊎ Settled M g.nodes g.roots g.memo j
    go j (inl k) = inl k
    go j (inr t) = inr (t.0, t.1, w (root g.roots j) (root g.roots t.0) t.2)

-- ---- keys

pub canon_stands : (us : List (ℕ × ℕ)) (ns : List Term) (rs : List ℕ) (x : Term) → ((i : ℕ) → Forced ns us i (root rs i)) → Stands ns us (canon rs x) x
canon_stands us ns rs x to = record {
  match = record { op = refl; payload = refl; count = length-map x.kids (root rs) };
  each = λ p h. rw (get_or_map_lt (root rs) x.kids p (rw (length-map x.kids (root rs)) at h)) (back (to (at x.kids p)));
}

-- an entry set: every key that leads to the id still stands for its node
pub set_sound : (us : List (ℕ × ℕ)) (ns : List Term) (rs : List ℕ) (memo : List (Term × ℕ)) (key : Term) (i : ℕ) → i < length ns → Stands ns us key (node ns i)
    → Sound us ns rs memo → Sound us ns rs ((key, i) ∷ memo)
set_sound us ns rs memo key i i_lt st O = record {
  memo_lt = λ k m e. lt k m e (same_term k key);
  to_root = O.to_root;
  keys = λ k m e. keep k m e (same_term k key);
}
  where
    is : (k : Term) (m : ℕ) → kept k ((key, i) ∷ memo) ≡ Some m → k ≡ key → i ≡ m
    is k m e q = cc (kept_here k key i memo q, e)

    lt : (k : Term) (m : ℕ) → kept k ((key, i) ∷ memo) ≡ Some m → Dec (k ≡ key) → m < length ns
    lt k m e (yes q) = rw (is k m e q) at i_lt
    lt k m e (no n) = O.memo_lt k m (sym (kept_past k key i memo n) ∙ e)

    keep : (k : Term) (m : ℕ) → kept k ((key, i) ∷ memo) ≡ Some m → Dec (k ≡ key) → Stands ns us k (node ns m)
    keep k m e (yes q) = rw (q, ← (is k m e q)) st
    keep k m e (no n) = O.keys k m (sym (kept_past k key i memo n) ∙ e)

-- two nodes for which one key stands are forced
pub stand_forced : (us : List (ℕ × ℕ)) (ns : List Term) (k : Term) (i j : ℕ) → i < length ns → j < length ns → Stands ns us k (node ns i) → Stands ns us k (node ns j) → Forced ns us i j
stand_forced us ns k i j i_lt j_lt a b = alike i_lt j_lt
    (record { op = sym a.match.op ∙ b.match.op; payload = sym a.match.payload ∙ b.match.payload; count = sym a.match.count ∙ b.match.count })
    (λ p h. then (back (a.each p (rw a.match.count h))) (b.each p (rw a.match.count h)))
