-- What every step inside a call leaves alone, on any words: the length, the head (a call writes it back once, at its end), the scratch part and the words past the need.
-- Assumes nothing.
use Rattle.std.specs.Prelude.{List, ◌≡◌, refl, ℕ, length}
use Rattle.std.proofs.Common.{◌∙◌, ap}
use Rattle.layout.specs.Cut.{Part}
use Rattle.layout.specs.Head.{HeadOk}
use Rattle.layout.specs.Lent.{Lent, lent_head}
use Rattle.layout.specs.View.{View, get, hd, put, put_rest_of, view}
use Rattle.layout.specs.declared.Head.{Head}

pub record Inside (n m : ℕ) (ws ws' : List ℕ) : Type 0 where
  pub size : length ws' ≡ length ws
  pub head : hd ws' ≡ hd ws
  pub rest : (view n m ws').rest ≡ (view n m ws).rest
  pub scratch : (view n m ws').scratch ≡ (view n m ws).scratch

pub inside_same : (n m : ℕ) (ws : List ℕ) → Inside n m ws ws
inside_same n m ws = record { size = refl; head = refl; rest = refl; scratch = refl }

pub inside_then : {n m : ℕ} {ws ws1 ws2 : List ℕ} → Inside n m ws ws1 → Inside n m ws1 ws2 → Inside n m ws ws2
inside_then a b = record { size = b.size ∙ a.size; head = b.head ∙ a.head; rest = b.rest ∙ a.rest; scratch = b.scratch ∙ a.scratch }

-- a part lent, which is not the scratch part: `apart` is `λ v l. refl`
pub inside_lent : {k : Part} {n m : ℕ} {P : List ℕ → List ℕ → Type 0} {ws ws' : List ℕ} → ((v : View) (l : List ℕ) → (put k v l).scratch ≡ v.scratch) → Lent k n m P ws ws' → Inside n m ws ws'
inside_lent {k} {n} {m} {P} {ws} {ws'} apart t = record {
  size = t.size;
  head = lent_head t;
  rest = ap (λ (v : View). v.rest) t.else ∙ put_rest_of k (view n m ws) (get k (view n m ws'));
  scratch = ap (λ (v : View). v.scratch) t.else ∙ apart (view n m ws) (get k (view n m ws'));
}

-- ---- the head that a step leaves

-- k has the limits of h, and numbers in range
pub record Near (len : ℕ) (h k : Head) : Type 0 where
  pub ok : HeadOk len k
  pub n_is : k.n ≡ h.n
  pub m_is : k.m ≡ h.m
