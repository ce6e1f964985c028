-- The classes that have a node with a given operator, on any words: each id gives itself as a piece of the list, or nothing. On words that hold a clean graph the list is
-- the graph's.
-- Assumes nothing.
use Rattle.std.specs.Prelude.{Bool, false, true, ◌≡◌, refl, ◌+◌, ◌<◌, ◌≤◌, ℕ, eqb, length, set}
use Rattle.std.specs.Bool.{MatchBool}
use Rattle.std.specs.Int.{from_bool}
use Rattle.std.specs.List.{AllWithin, HoldsAt as TrueAt}
use mathlib.Core.List.{List, [], ◌∷◌, reverse}
use Rattle.std.proofs.Common.{eq-eqb, ne_eqb, ◌∙◌, sym, arith}
use Rattle.std.proofs.Math.Path.{ap}
use Rattle.std.proofs.Math.Decide.{ℕ_discrete}
use Rattle.lists.specs.Keeps.{OneOf, any}
use Rattle.lists.specs.Members.{Mem, all_members, mem-map, mem-of-map, mem_at, mem_reverse, mem_unreverse}
use Rattle.lists.specs.Reads.{at}
use Rattle.lists.specs.Tests.{Says, says_no, says_yes, when, when_no, when_yes}
use Rattle.language.specs.Struct.{node_of}
use Rattle.language.specs.Term.{Term}
use Rattle.steps.specs.Classes.{classes_for_op}
use Rattle.steps.specs.Graph.{Graph}
use Rattle.holds.specs.Holds.{HoldsAt}
use Rattle.layout.specs.View.{View, view}
use Rattle.layout.specs.declared.Head.{Head}
use Rattle.language.specs.declared.fit.Fit.{Fit}
use Rattle.language.specs.Fitting.{term}
use Rattle.rows.specs.Read.{key_read}
use Rattle.eclass.specs.ClassHeld.{op_listed}
use Rattle.eclass.specs.ClassWalk.{class_ids, class_read}
use Rattle.spelling.specs.Pieces.{Wrote, pieces, pieces_filter, wrote, wrote_none}

-- ---- the model

-- the key of id x has the operator o
pub record OpIs (rs : List ℕ) (n m o x : ℕ) : Type 0 where
  pub same : (key_read rs n m x).op ≡ o

-- a node of the class of r has it
pub record HasOp (ms rs : List ℕ) (n m o r : ℕ) : Type 0 where
  pub node : OneOf (λ (x : Term). x.op ≡ o) (class_read ms rs n m r)

unfoldable pub op_piece : List ℕ → List ℕ → ℕ → ℕ → ℕ → ℕ → List ℕ
op_piece ms rs n m o r = when (any (λ (x : Term). ℕ_discrete x.op o) (class_read ms rs n m r)) (r ∷ []) []

-- the same of words with the head h
abbrev pub HasOpIn : Head → List ℕ → ℕ → ℕ → Type 0
HasOpIn h ws o r = HasOp (view h.n h.m ws).members (view h.n h.m ws).rows h.n h.m o r

abbrev pub op_piece_in : Head → List ℕ → ℕ → ℕ → List ℕ
op_piece_in h ws o = op_piece (view h.n h.m ws).members (view h.n h.m ws).rows h.n h.m o

abbrev pub ops_in : Head → List ℕ → ℕ → List ℕ
ops_in h ws o = pieces (op_piece_in h ws o) h.ids

pub ops_are : {h : Head} {u : ℕ} {v : View} {g : Graph} → HoldsAt h u v g → g.clean ≡ true → (o : ℕ)
    → pieces (op_piece v.members v.rows h.n h.m o) h.ids ≡ classes_for_op g o
unfolding op_piece
ops_are {h = h} {v = v} H c o =
    pieces_filter (λ (r : ℕ). any (λ (x : Term). ℕ_discrete x.op o) (class_read v.members v.rows h.n h.m r)) h.ids ∙ op_listed H c o

-- ---- one id, as the code compares it

module _ (rs : List ℕ) (n m x o : ℕ) (y : Fit) (k : term y ≡ key_read rs n m x) where
  op_of : y.node.op.0 ≡ (key_read rs n m x).op
  unfolding node_of
  op_of = ap (λ (t : Term). t.op) k

  pub op_read : Says (eqb y.node.op.0 o) (OpIs rs n m o x)
  op_read = go (ℕ_discrete y.node.op.0 o)
    where
      go : Dec (y.node.op.0 ≡ o) → Says (eqb y.node.op.0 o) (OpIs rs n m o x)
      go (yes e) = rw (eq-eqb _ _ e) (says_yes (record { same = sym op_of ∙ e }))
      go (no n) = rw (ne_eqb _ _ n) (says_no (λ s. n (op_of ∙ s.same)))

-- ---- one class, as `any` goes over its members, from the last back

module _ (ms rs : List ℕ) (n m o r : ℕ) (todo : List ℕ) (e : todo ≡ class_ids ms n r) where
  pub has_any : (b : Bool)
      → MatchBool b ((k : ℕ) × (k < length (reverse todo)) × TrueAt (OpIs rs n m o) (reverse todo) k) (AllWithin (λ x. OpIs rs n m o x → ⊥) (reverse todo) 0 (length (reverse todo)))
      → Says b (HasOp ms rs n m o r)
  has_any true h =
      let k = mem_unreverse todo (mem_at (reverse todo) h.0 h.1) in
      says_yes (record { node = (key_read rs n m (at (reverse todo) h.0), mem-map (key_read rs n m) (rw (← e) k), (h.2 0).same) })
  has_any false h = says_no (λ f. go f.node.0 (mem-of-map (key_read rs n m) (class_ids ms n r) f.node.1) f.node.2)
    where
      none : (x : ℕ) → Mem x (reverse todo) → OpIs rs n m o x → ⊥
      none = all_members (λ x. OpIs rs n m o x → ⊥) (reverse todo) (λ k l. h k 0 (omega arith) l)

      go : (t : Term) → (x : ℕ) × Mem x (class_ids ms n r) × (key_read rs n m x ≡ t) → t.op ≡ o → ⊥
      go t k q = none k.0 (mem_reverse todo (rw e k.1)) (record { same = ap (λ (z : Term). z.op) k.2 ∙ q })

module _ (ms rs : List ℕ) (n m o r : ℕ) where
  -- ---- its piece

  piece_yes : HasOp ms rs n m o r → op_piece ms rs n m o r ≡ r ∷ []
  unfolding op_piece
  piece_yes h = when_yes (any (λ (x : Term). ℕ_discrete x.op o) (class_read ms rs n m r)) (r ∷ []) [] h.node

  piece_no : (HasOp ms rs n m o r → ⊥) → op_piece ms rs n m o r ≡ []
  unfolding op_piece
  piece_no h = when_no (any (λ (x : Term). ℕ_discrete x.op o) (class_read ms rs n m r)) (r ∷ []) [] (λ x. h (record { node = x }))

  module _ (b : Bool) (s : Says b (HasOp ms rs n m o r)) where
    op_one : b ≡ true → 1 ≡ length (op_piece ms rs n m o r)
    op_one e = rw (piece_yes (s.holds e)) refl

    pub op_room : b ≡ true → (len p : ℕ) → p + length (op_piece ms rs n m o r) ≤ len → p < len
    op_room e len p h = omega (arith, op_one e)

    pub op_put : b ≡ true → (out out' : List ℕ) (p : ℕ) → out' ≡ set out p r → Wrote out p (op_piece ms rs n m o r) (p + 1) out'
    op_put e out out' p q = rw (piece_yes (s.holds e)) (wrote out p (r ∷ []) (p + 1) out' q refl)

    pub op_skip : b ≡ false → (out : List ℕ) (p : ℕ) → Wrote out p (op_piece ms rs n m o r) p out
    op_skip e out p = rw (piece_no (s.fails e)) (wrote_none out p)

  -- its length, as a number of the answer
  pub op_count : (b : Bool) (k : ℕ) → Says b (HasOp ms rs n m o r) → k ≡ from_bool b → k ≡ length (op_piece ms rs n m o r)
  op_count true k s e = e ∙ op_one true s refl
  op_count false k s e = e ∙ rw (piece_no (s.fails refl)) refl
