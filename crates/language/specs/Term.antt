-- A node as a plain value, as document 01 has it ("What a graph may hold"): an operator, a payload, and a list of children, each an id.
-- Two nodes match if operator, payload and child count are equal; in a slice of words a node is operator, payload, child count, children.
-- Assumes nothing.
use Rattle.std.specs.Prelude.{◌≡◌, refl, ◌<◌, ℕ, get_or, length, set}
use Rattle.std.proofs.Common.{sym, ap}
use mathlib.Core.List.{List, [], ◌∷◌, ◌++◌, map, head-eq_of_cons-eq, tail-eq_of_cons-eq, cons≢nil}
use Rattle.std.proofs.Math.Decide.{ℕ_discrete}
use Rattle.lists.specs.Reads.{at}
use Rattle.lists.specs.Tests.{both, re_dec}
use Rattle.std.proofs.Math.ListN.{get_or-append}
use Rattle.std.proofs.Math.Seq.{get_or-append_seam}

pub record Term : Type 0 where
  pub op : ℕ
  pub payload : ℕ
  pub kids : List ℕ

-- the node at index i; past the end a leaf of operator 0
abbrev pub term_at : List Term → ℕ → Term
term_at ts i = get_or ts i (record { op = 0; payload = 0; kids = [] })

-- one node more at the end
pub term_old : (ts : List Term) (t : Term) (i : ℕ) → i < length ts → term_at (ts ++ (t ∷ [])) i ≡ term_at ts i
term_old ts t i h = get_or-append ts (t ∷ []) (record { op = 0; payload = 0; kids = [] }) i h

pub term_new : (ts : List Term) (t : Term) → term_at (ts ++ (t ∷ [])) (length ts) ≡ t
term_new ts t = get_or-append_seam ts t [] (record { op = 0; payload = 0; kids = [] })

-- how many children a node may have
abbrev pub places : ℕ
places = 8

-- every child is one of the first N ids
abbrev pub Known : Term → ℕ → Type 0
Known x N = (i : ℕ) → i < length x.kids → at x.kids i < N

pub record Match (s t : Term) : Type 0 where
  pub op : s.op ≡ t.op
  pub payload : s.payload ≡ t.payload
  pub count : length s.kids ≡ length t.kids

-- ---- in words

abbrev pub words : Term → List ℕ
words t = t.op ∷ t.payload ∷ length t.kids ∷ t.kids

-- several nodes, one after the other
unfoldable pub spell : List Term → List ℕ
spell [] = []
spell (t ∷ ts) = words t ++ spell ts

-- ---- other children

-- each child through f
abbrev pub over_kids : (ℕ → ℕ) → Term → Term
over_kids f t = record { op = t.op; payload = t.payload; kids = map f t.kids }

-- one more child
unfoldable pub grown : Term → ℕ → Term
grown t k = record { op = t.op; payload = t.payload; kids = t.kids ++ (k ∷ []) }

-- another child at place i
unfoldable pub rekid : Term → ℕ → ℕ → Term
rekid t i k = record { op = t.op; payload = t.payload; kids = set t.kids i k }

-- ---- equality, as a test that computes (the library's `List-discrete` is shut)

abbrev pub term_path : {s t : Term} → s.op ≡ t.op → s.payload ≡ t.payload → s.kids ≡ t.kids → s ≡ t
term_path o p k i = record { op = o i; payload = p i; kids = k i }

unfoldable pub same_list : Discrete (List ℕ)
same_list [] [] = yes refl
same_list [] (y ∷ ys) = no (λ e. cons≢nil (sym e))
same_list (x ∷ xs) [] = no (λ e. cons≢nil e)
same_list (x ∷ xs) (y ∷ ys) = re_dec (λ e i. e.0 i ∷ e.1 i) (λ e. (head-eq_of_cons-eq e, tail-eq_of_cons-eq e)) (both (ℕ_discrete x y) (same_list xs ys))

unfoldable pub same_term : Discrete Term
same_term s t =
    re_dec (λ e. term_path e.0 e.1.0 e.1.1) (λ e. (ap (λ (x : Term). x.op) e, (ap (λ (x : Term). x.payload) e, ap (λ (x : Term). x.kids) e)))
    (both (ℕ_discrete s.op t.op) (both (ℕ_discrete s.payload t.payload) (same_list s.kids t.kids)))
