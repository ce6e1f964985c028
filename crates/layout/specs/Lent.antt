-- What is left when one part was lent: the length stays, nothing but the part has changed, and what the callee promised holds between the part before and after.
-- `lent_range` of proofs, Lent, is the law that a function that lends a part cites; `LentBoth` is that for the rows lent together with the sort's work area.
-- Assumes nothing.
use Rattle.std.specs.Prelude.{List, ◌≡◌, ℕ, drop, length, set}
use Rattle.std.proofs.Common.{◌∙◌, ap, subst, sym}
use Rattle.layout.specs.Cut.{Part, need}
use Rattle.layout.specs.View.{View, get, hd, put, put_head_of, put_put, put_rest_of, view, view_head, view_rest}

-- P holds between the part k before and after, and nothing else has changed
pub record Lent (k : Part) (n m : ℕ) (P : List ℕ → List ℕ → Type 0) (ws ws' : List ℕ) : Type 0 where
  pub size : length ws' ≡ length ws
  pub else : view n m ws' ≡ put k (view n m ws) (get k (view n m ws'))
  pub did : P (get k (view n m ws)) (get k (view n m ws'))

-- a word stored: what a part that is a plain array promises
abbrev pub Stored : ℕ → ℕ → List ℕ → List ℕ → Type 0
Stored i v l l' = l' ≡ set l i v

-- ---- chains

-- After a lend, over the view v that the words were known to have: the new part, and what was promised of it. In a chain v is what the lends before have made of
-- the first view: where the parts are written out, `put` and `get` compute, so that a part not yet lent is seen as it was at the start.
pub record Next (k : Part) (n m : ℕ) (P : List ℕ → List ℕ → Type 0) (v : View) (ws' : List ℕ) : Type 0 where
  pub new : List ℕ
  pub is : view n m ws' ≡ put k v new
  pub did : P (get k v) new

pub lent_next : {k : Part} {n m : ℕ} {P : List ℕ → List ℕ → Type 0} {ws ws' : List ℕ} {v : View} → Lent k n m P ws ws' → view n m ws ≡ v → Next k n m P v ws'
lent_next {k} {n} {m} {P} {ws} {ws'} t e =
    let l : List ℕ = get k (view n m ws') in
    record {
      new = l;
      is = t.else ∙ ap (λ (x : View). put k x l) e;
      did = subst (λ (x : View). P (get k x) l) e t.did;
    }

-- the head and the words past the need are as they were
pub lent_head : {k : Part} {n m : ℕ} {P : List ℕ → List ℕ → Type 0} {ws ws' : List ℕ} → Lent k n m P ws ws' → hd ws' ≡ hd ws
lent_head {k} {n} {m} {P} {ws} {ws'} t =
    sym (view_head n m ws') ∙ ap (λ (v : View). v.head) t.else ∙ put_head_of k (view n m ws) (get k (view n m ws')) ∙ view_head n m ws

pub lent_rest : {k : Part} {n m : ℕ} {P : List ℕ → List ℕ → Type 0} {ws ws' : List ℕ} → Lent k n m P ws ws' → drop (need n m) ws' ≡ drop (need n m) ws
lent_rest {k} {n} {m} {P} {ws} {ws'} t =
    sym (view_rest n m ws') ∙ ap (λ (v : View). v.rest) t.else ∙ put_rest_of k (view n m ws) (get k (view n m ws')) ∙ view_rest n m ws

-- a part lent twice is lent once
pub lent_twice : {k : Part} {n m : ℕ} {P Q R : List ℕ → List ℕ → Type 0} {ws ws1 ws2 : List ℕ}
    → ((a b c : List ℕ) → P a b → Q b c → R a c) → Lent k n m P ws ws1 → Lent k n m Q ws1 ws2 → Lent k n m R ws ws2
lent_twice {k} {n} {m} {P} {Q} {R} {ws} {ws1} {ws2} f s t =
    let l : List ℕ = get k (view n m ws2) in
    record {
      size = t.size ∙ s.size;
      else = t.else ∙ ap (λ (x : View). put k x l) s.else ∙ put_put k (view n m ws) (get k (view n m ws1)) l;
      did = f _ _ _ s.did t.did;
    }

-- what was promised may be said otherwise
pub lent_map : {k : Part} {n m : ℕ} {P Q : List ℕ → List ℕ → Type 0} {ws ws' : List ℕ}
    → ((a b : List ℕ) → P a b → Q a b) → Lent k n m P ws ws' → Lent k n m Q ws ws'
lent_map f t = record { size = t.size; else = t.else; did = f _ _ t.did }
