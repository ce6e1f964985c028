-- A list of words that is written piece by piece, one piece for each of the first k ids: what a loop that measures it and a loop that writes it keep.
-- Assumes nothing.
use mathlib.Core.List.{List, [], ◌++◌, ◌∷◌, append_assoc, append-nil, filter, flat_map}
use Rattle.std.proofs.Math.Logic.{ite}
use Rattle.std.proofs.Common.{◌∙◌, add-one, arith, length-append}
use Rattle.std.specs.Prelude.{◌≡◌, drop, length, take}
use Rattle.std.proofs.Math.Path.{ap, refl, sym}
use Prim.Native.Nat.{◌+◌, ◌<◌, ◌≤◌, suc, zero, ℕ}
use Rattle.std.proofs.Math.Decide.{dec_le}
use Rattle.std.proofs.Math.Seq.{length-sets}
use Rattle.std.proofs.lemmas.List.Edits.{sets}
use Rattle.lists.specs.Keeps.{filter_append, upto}
use Rattle.lists.specs.Members.{Mem, here, there}
use Rattle.lists.specs.Sets.{sets_after, sets_stand}
use Rattle.lists.specs.Stores.{sets_append}
use Rattle.lists.specs.Tests.{when}

-- ---- the pieces of the first k ids

unfoldable pub pieces : (ℕ → List ℕ) → ℕ → List ℕ
pieces f zero = []
pieces f (suc k) = pieces f k ++ f k

module _ (f : ℕ → List ℕ) where
  pub pieces_none : pieces f 0 ≡ []
  unfolding pieces
  pieces_none = refl

  pieces_suc : (k : ℕ) → pieces f (suc k) ≡ pieces f k ++ f k
  unfolding pieces
  pieces_suc k = refl

  pub pieces_more : (k : ℕ) → pieces f (k + 1) ≡ pieces f k ++ f k
  pieces_more k = rw (add-one k) (pieces_suc k)

  long_suc : (k : ℕ) → length (pieces f (suc k)) ≡ length (pieces f k) + length (f k)
  long_suc k = ap length (pieces_suc k) ∙ length-append (pieces f k) (f k)

  -- measured: nothing yet, and one piece more
  pub long_none : 0 ≡ length (pieces f 0)
  unfolding pieces
  long_none = refl

  pub long_more : (k t x : ℕ) → t ≡ length (pieces f k) → x ≡ length (f k) → t + x ≡ length (pieces f (k + 1))
  long_more k t x e q = rw (add-one k) (omega (arith, long_suc k))

  pub long_le : (k i : ℕ) → i ≤ k → length (pieces f i) ≤ length (pieces f k)
  long_le zero i h = let e : i ≡ 0 = omega arith in rw e (omega arith)
  long_le (suc k) i h = go (dec_le i k) (λ l. long_le k i l)
    where
      go : Dec (i ≤ k) → (i ≤ k → length (pieces f i) ≤ length (pieces f k)) → length (pieces f i) ≤ length (pieces f (suc k))
      go (yes l) ih = let a = ih l in omega (arith, long_suc k)
      go (no l) ih = let e : i ≡ suc k = omega arith in rw e (omega arith)

-- ---- words written

-- out' is out with the words xs from p on, and r is the place behind them
pub record Wrote (out : List ℕ) (p : ℕ) (xs : List ℕ) (r : ℕ) (out' : List ℕ) : Type 0 where
  pub exact : out' ≡ sets out p xs
  pub next : r ≡ p + length xs
  pub size : length out' ≡ length out

pub wrote : (out : List ℕ) (p : ℕ) (xs : List ℕ) (r : ℕ) (out' : List ℕ) → out' ≡ sets out p xs → r ≡ p + length xs → Wrote out p xs r out'
wrote out p xs r out' e n = record { exact = e; next = n; size = ap length e ∙ length-sets out p xs }

pub wrote_none : (out : List ℕ) (p : ℕ) → Wrote out p [] p out
wrote_none out p = record { exact = refl; next = omega arith; size = refl }

pub wrote_join : {out mid out' xs ys : List ℕ} {p q r : ℕ} → Wrote out p xs q mid → Wrote mid q ys r out' → Wrote out p (xs ++ ys) r out'
wrote_join {out} {mid} {out'} {xs} {ys} {p} {q} {r} a b = record {
  exact = b.exact ∙ rw (a.exact, a.next) (sym (sets_append xs ys out p));
  next = omega (arith, a.next, b.next, length-append xs ys);
  size = b.size ∙ a.size;
}

-- words written from the start: they stand there, and what lies behind them is as it was
module _ {out xs out' : List ℕ} {r : ℕ} (w : Wrote out 0 xs r out') (fits : length xs ≤ length out) where
  pub wrote_front : take (length xs) out' ≡ xs
  wrote_front = rw w.exact (sets_stand out xs 0 (omega arith))

  pub wrote_back : drop (length xs) out' ≡ drop (length xs) out
  wrote_back = let e : 0 + length xs ≡ length xs = omega arith in rw w.exact (rw e at (sets_after out xs 0 (omega arith)))

-- the loop that writes the pieces: its start, the room for one more, and one more written
module _ (f : ℕ → List ℕ) (out : List ℕ) where
  pub pieces_start : Wrote out 0 (pieces f 0) 0 out
  pieces_start = rw (pieces_none f) (wrote_none out 0)

  module _ (i p : ℕ) (mid : List ℕ) (a : Wrote out 0 (pieces f i) p mid) where
    pub pieces_room : (k : ℕ) → i < k → length (pieces f k) ≤ length out → p + length (f i) ≤ length mid
    pieces_room k h fits = omega (arith, a.next, a.size, long_suc f i, long_le f k (suc i) h)

    pub pieces_next : (r : ℕ) (out' : List ℕ) → Wrote mid p (f i) r out' → Wrote out 0 (pieces f (i + 1)) r out'
    pieces_next r out' b = rw (pieces_more f i) (wrote_join a b)

-- ---- pieces of what passes a test

module _ {P : ℕ → Type 0} (t : (r : ℕ) → Dec (P r)) where
  pub pieces_filter : (k : ℕ) → pieces (λ (r : ℕ). when (t r) (r ∷ []) []) k ≡ filter t (upto k)
  unfolding pieces upto
  pieces_filter zero = refl
  pieces_filter (suc k) = rw (pieces_filter k) (sym (filter_append t (upto k) (k ∷ [])))

  flat_append : (f : ℕ → List ℕ) (k l : List ℕ) → flat_map f (k ++ l) ≡ flat_map f k ++ flat_map f l
  unfolding flat_map
  flat_append f [] l = refl
  flat_append f (x ∷ k) l = ap (λ (z : List ℕ). f x ++ z) (flat_append f k l) ∙ sym (append_assoc (f x) (flat_map f k) (flat_map f l))

  pub pieces_flat : (f : ℕ → List ℕ) (k : ℕ) → pieces (λ (r : ℕ). when (t r) (f r) []) k ≡ flat_map f (filter t (upto k))
  unfolding pieces upto flat_map
  pieces_flat f zero = refl
  pieces_flat f (suc k) =
      rw (pieces_flat f k, filter_append t (upto k) (k ∷ []), flat_append f (filter t (upto k)) (filter t (k ∷ []))) (ap (λ (z : List ℕ). flat_map f (filter t (upto k)) ++ z) (one (t k)))
    where
      one : (d : Dec (P k)) → when d (f k) [] ≡ flat_map f (ite {C = List ℕ} d (k ∷ []) [])
      one (yes h) = sym (append-nil (f k))
      one (no h) = refl

pub flat_same : (f g : ℕ → List ℕ) (l : List ℕ) → ((r : ℕ) → Mem r l → f r ≡ g r) → flat_map f l ≡ flat_map g l
unfolding flat_map
flat_same f g [] h = refl
flat_same f g (x ∷ l) h = rw (h x (here refl), flat_same f g l (λ r m. h r (there m))) refl
