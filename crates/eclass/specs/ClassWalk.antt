-- What the words say of one class, on any words: the ids that a walk back from the last member of its list meets, in list order, and the nodes that their key rows read
-- as. `Walk` is what a loop over such a walk keeps, whatever it makes of the ids that it has passed. On words that hold lists of members the ids are the list.
-- Assumes nothing.
use Rattle.std.specs.Prelude.{List, [], ◌++◌, ◌∷◌, map, ◌≡◌, length}
use Rattle.std.proofs.Common.{add-one, append_assoc, append-nil, ◌∙◌, sym, arith, length-append}
use Rattle.std.proofs.Math.Path.{refl, subst}
use Prim.Native.Nat.{◌+◌, ◌<◌, ◌≤◌, suc, zero, ℕ}
use Rattle.std.proofs.Math.ListN.{take}
use Rattle.std.proofs.Math.Seq.{take-length, take-suc}
use Rattle.lists.specs.Members.{Mem, here, mem-left, mem-right}
use Rattle.lists.specs.Reads.{at}
use Rattle.language.specs.Term.{Term}
use Rattle.cells.specs.Pool.{Pool, Row, row}
use Rattle.rows.specs.Read.{Sane, key_read}

-- ---- the model

-- how many members the list of r has
abbrev pub len_of : List ℕ → ℕ → ℕ → ℕ
len_of ms n r = at ms (r + n + n)

-- the k ids that end with cur, each linked to the one before it
unfoldable pub back : List ℕ → ℕ → ℕ → ℕ → List ℕ
back ms n zero cur = []
back ms n (suc k) cur = back ms n k (at ms (n + n + n + cur)) ++ (cur ∷ [])

-- the ids of the list of r, first to last
abbrev pub class_ids : List ℕ → ℕ → ℕ → List ℕ
class_ids ms n r = back ms n (len_of ms n r) (at ms r)

-- their nodes, as the key rows read
abbrev pub class_read : List ℕ → List ℕ → ℕ → ℕ → ℕ → List Term
class_read ms rs n m r = map (key_read rs n m) (class_ids ms n r)

-- every id met is one of the N ids, and its row is within bounds
pub record Fine (ms rs : List ℕ) (n m N r : ℕ) : Type 0 where
  pub all : (x : ℕ) → Mem x (class_ids ms n r) → (x < N) × Sane rs n m x

-- ---- laws of the model

pub length_back : (ms : List ℕ) (n k cur : ℕ) → length (back ms n k cur) ≡ k
unfolding back
length_back ms n zero cur = refl
length_back ms n (suc k) cur =
    length-append (back ms n k (at ms (n + n + n + cur))) (cur ∷ []) ∙ omega (arith, length_back ms n k (at ms (n + n + n + cur)))

pub back_none : (ms : List ℕ) (n k cur : ℕ) → k ≡ 0 → back ms n k cur ≡ []
unfolding back
back_none ms n k cur e = rw e refl

pub back_step : (ms : List ℕ) (n k next cur : ℕ) → k ≡ next + 1 → back ms n k cur ≡ back ms n next (at ms (n + n + n + cur)) ++ (cur ∷ [])
unfolding back
back_step ms n k next cur h = rw (h, add-one next) refl

-- ---- a walk on its way

-- the ids that are still to come are `todo`, and what is kept of those that were passed, in list order, is P
pub record Walk (ms : List ℕ) (n r : ℕ) (todo : List ℕ) (P : List ℕ → Type 0) : Type 0 where
  pub done : List ℕ
  pub whole : class_ids ms n r ≡ todo ++ done
  pub kept : P done

module _ (ms : List ℕ) (n r : ℕ) where
  pub walk_start : (P : List ℕ → Type 0) (todo : List ℕ) → todo ≡ class_ids ms n r → P [] → Walk ms n r todo P
  walk_start P todo e p = record { done = []; whole = rw e (sym (append-nil (class_ids ms n r))); kept = p }

  module _ (todo rest : List ℕ) (cur : ℕ) (step : todo ≡ rest ++ (cur ∷ [])) where
    -- the id that comes next is one of the list
    pub walk_next : (P : List ℕ → Type 0) → Walk ms n r todo P → Mem cur (class_ids ms n r)
    walk_next P w = rw (w.whole, step) (mem-left w.done (mem-right rest (here refl)))

    pub walk_more : (P Q : List ℕ → Type 0) → ((d : List ℕ) → P d → Q (cur ∷ d)) → Walk ms n r todo P → Walk ms n r rest Q
    walk_more P Q f w = record { done = cur ∷ w.done; whole = w.whole ∙ rw step (append_assoc rest (cur ∷ []) w.done); kept = f w.done w.kept }

    -- what a walk over a class that is fine meets is an id, whatever it keeps
    pub walk_low : (rs : List ℕ) (m N : ℕ) (P : List ℕ → Type 0) → Fine ms rs n m N r → Walk ms n r todo P → cur < N
    walk_low rs m N P f w = (f.all cur (walk_next P w)).0

  pub walk_end : (P : List ℕ → Type 0) (todo : List ℕ) → todo ≡ [] → Walk ms n r todo P → P (class_ids ms n r)
  walk_end P todo e w = let q : class_ids ms n r ≡ w.done = rw e at w.whole in subst P (sym q) w.kept

-- ---- on words that hold lists

module _ (ms : List ℕ) (n m a : ℕ) (xs : List ℕ) (R : Row ms n m a xs) where
  -- the first k cells, from the last of them
  back_front : (k cur : ℕ) → k ≤ length xs → ((i : ℕ) → suc i ≡ k → cur ≡ at xs i) → back ms n k cur ≡ take k xs
  unfolding back
  back_front zero cur h e = refl
  back_front (suc k) cur h e =
      let c : cur ≡ at xs k = e k refl in
      let b : back ms n k (at ms (n + n + n + cur)) ≡ take k xs = back_front k (at ms (n + n + n + cur)) (omega arith) (λ i q. rw (c, ← q) (R.link i (omega arith))) in
      rw (b, c, take-suc xs k 0 (omega arith)) refl

  pub row_walked : class_ids ms n a ≡ xs
  row_walked = rw R.size (back_front (length xs) (at ms a) (omega arith) (λ i q. R.final i q) ∙ take-length xs)

pub ids_are : (ms : List ℕ) (n m : ℕ) (L : List (List ℕ)) → Pool ms n m L → (a : ℕ) → a < n → class_ids ms n a ≡ row L a
ids_are ms n m L p a h = row_walked ms n m a (row L a) (p.rows a h)
