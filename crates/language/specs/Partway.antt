-- A node whose children are replaced one after the other, by a loop over them: what stands after i of them, one more, and all.
-- What a new child k has to do with the child c before it is a parameter, Q c k.
-- Assumes nothing.
use Rattle.std.specs.Prelude.{map, ◌≢◌, ◌⊎◌, ◌≡◌, ◌+◌, ◌<◌, ◌≤◌, ℕ, length, set}
use Rattle.std.proofs.Common.{inl, inr, ◌∙◌, sym, arith, ext_get_or}
use Rattle.std.proofs.lemmas.List.{length-map}
use Rattle.std.proofs.Math.ListN.{length-set}
use Rattle.std.proofs.Math.Seq.{get_or-set_other, get_or-set_same}
use Rattle.lists.specs.Reads.{at, get_or_map_lt}
use Rattle.lists.specs.Tests.{eq_or}
use Rattle.language.specs.Term.{Term, over_kids, rekid, term_path}

-- s is t with the first i children replaced
pub record Partway (Q : ℕ → ℕ → Type 0) (i : ℕ) (t s : Term) : Type 0 where
  pub op : s.op ≡ t.op
  pub payload : s.payload ≡ t.payload
  pub size : length s.kids ≡ length t.kids
  pub done : (j : ℕ) → j < i → Q (at t.kids j) (at s.kids j)
  pub rest : (j : ℕ) → i ≤ j → at s.kids j ≡ at t.kids j

module _ (Q : ℕ → ℕ → Type 0) (t : Term) where
  module _ (i : ℕ) (s : Term) (P : Partway Q i t s) where
    -- one child more
    pub partway_more : (k : ℕ) (s' : Term) → i < length t.kids → Q (at t.kids i) k → s' ≡ rekid s i k → Partway Q (i + 1) t s'
    unfolding rekid
    partway_more k s' h q e =
        rw e (record {
          op = P.op;
          payload = P.payload;
          size = length-set s.kids i k ∙ P.size;
          done = λ j l. seen j l (eq_or j i);
          rest = λ j l. get_or-set_other s.kids i j k 0 (omega arith) ∙ P.rest j (omega arith);
        })
      where
        seen : (j : ℕ) → j < i + 1 → (j ≡ i) ⊎ (j ≢ i) → Q (at t.kids j) (at (set s.kids i k) j)
        seen j l (inl w) = rw (w, get_or-set_same s.kids i k 0 (omega (arith, P.size))) q
        seen j l (inr w) = rw (get_or-set_other s.kids i j k 0 w) (P.done j (omega arith))

    -- all of them, where each new child is f of the old one
    pub partway_all : (f : ℕ → ℕ) → i ≡ length t.kids → ((c k : ℕ) → Q c k → k ≡ f c) → s ≡ over_kids f t
    partway_all f e is =
        term_path P.op P.payload
        (ext_get_or 0 s.kids (map f t.kids) (P.size ∙ sym (length-map t.kids f))
        (λ j h. is _ _ (P.done j (omega (arith, P.size))) ∙ sym (get_or_map_lt f t.kids j (omega (arith, P.size)))))

-- what is known of each new child, in other words
pub partway_as : (Q R : ℕ → ℕ → Type 0) (i : ℕ) (t s : Term) → ((j : ℕ) → j < i → Q (at t.kids j) (at s.kids j) → R (at t.kids j) (at s.kids j)) → Partway Q i t s
    → Partway R i t s
partway_as Q R i t s f P = record { op = P.op; payload = P.payload; size = P.size; done = λ j h. f j h (P.done j h); rest = P.rest }
