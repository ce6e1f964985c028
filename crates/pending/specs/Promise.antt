-- What each function promises: `exact`, `none` and `some` say what it does to any words, `long`, `before`, `past` and the bounds what any words
-- leave certain, `law` what it does to a stack of entries.
-- Assumes nothing.
use Rattle.std.specs.Prelude.{◌≡◌, refl, ◌≢◌, List, [], ◌∷◌, ℕ, zero, suc, ◌+◌, ◌-◌, ◌≤◌, ◌<◌, ◌^◌, length}
use Rattle.std.proofs.Common.{arith}
use Rattle.lists.specs.Reads.{at}
use Rattle.lists.specs.Stores.{puts_length, puts_miss}
use Rattle.lists.specs.Tests.{zero_one}
use Rattle.pending.specs.Stack.{Entries, Stack, pushed, stretched, stack_push}
use Rattle.pending.specs.declared.OnTop.{OnTop}
use Rattle.pending.specs.declared.OnTop.TheVariants.{TopOne, TopMany}

-- what an entry shows
abbrev pub shown : ℕ → ℕ → OnTop ℕ
shown x zero = TopOne x
shown x (suc k) = TopMany x (suc k)

-- ---- the promises

-- of `push_one` with the count 0
pub record Pushes (ps : List ℕ) (d x k : ℕ) (ps' : List ℕ) : Type 0 where
  pub exact : ps' ≡ pushed ps d x k
  pub long : length ps' ≡ length ps
  pub before : (i : ℕ) → i < d + d → at ps' i ≡ at ps i
  pub past : (i : ℕ) → d + d + 1 < i → at ps' i ≡ at ps i
  pub law : (es : Entries) → length es ≡ d → Stack ps es → Stack ps' ((x, k) ∷ es)

pub record PushesStretch (ps : List ℕ) (d c k r : ℕ) (ps' : List ℕ) : Type 0 where
  pub none : k ≡ 0 → (r ≡ d) × (ps' ≡ ps)
  pub some : 0 < k → (r ≡ d + 1) × (ps' ≡ pushed ps d c k)
  pub low : d ≤ r
  pub high : r ≤ d + 1
  pub long : length ps' ≡ length ps
  pub before : (i : ℕ) → i < d + d → at ps' i ≡ at ps i
  pub past : (i : ℕ) → d + d + 1 < i → at ps' i ≡ at ps i
  pub law : (es : Entries) → length es ≡ d → Stack ps es → (length (stretched c k es) ≡ r) × Stack ps' (stretched c k es)

pub record Tops (ps : List ℕ) (d : ℕ) (r : OnTop ℕ) : Type 0 where
  pub exact : r ≡ shown (at ps (d - 1 + (d - 1))) (at ps (d - 1 + (d - 1) + 1))
  pub one_small : (x : ℕ) → r ≡ TopOne x → x < 2 ^ 32
  pub many_small : (c k : ℕ) → r ≡ TopMany c k → (c < 2 ^ 32) × (0 < k) × (k < 2 ^ 32)
  pub law : (x k : ℕ) (es : Entries) → length es + 1 ≡ d → Stack ps ((x, k) ∷ es) → r ≡ shown x k

-- ---- the promises from what the code leaves

pub pushes : (ps : List ℕ) (d x k : ℕ) → d + d + 1 < length ps → Pushes ps d x k (pushed ps d x k)
pushes ps d x k room = record {
  exact = refl;
  long = puts_length ((d + d, x) ∷ (d + d + 1, k) ∷ []) ps;
  before = λ i h. puts_miss ((d + d, x) ∷ (d + d + 1, k) ∷ []) ps i (omega arith);
  past = λ i h. puts_miss ((d + d, x) ∷ (d + d + 1, k) ∷ []) ps i (omega arith);
  law = stack_push ps d x k room;
}

shown_one : (x k y : ℕ) → shown x k ≡ TopOne y → x ≡ y
shown_one x zero y e = cc
shown_one x (suc k) y e = zero_one cc

shown_many : (x k c n : ℕ) → shown x k ≡ TopMany c n → (x ≡ c) × (k ≡ n) × (0 < k)
shown_many x zero c n e = zero_one cc
shown_many x (suc k) c n e = (cc, cc, omega arith)

shown_some : (x k : ℕ) → k ≢ 0 → shown x k ≡ TopMany x k
shown_some x zero n = absurd (n refl)
shown_some x (suc k) n = refl

-- at b the words of the entry on top begin
module _ (ps : List ℕ) (d b : ℕ) (on : b ≡ d - 1 + (d - 1)) (small : (i : ℕ) → at ps i < 2 ^ 32) where
  tops : Tops ps d (shown (at ps b) (at ps (b + 1)))
  tops = record {
    exact = rw on refl;
    one_small = λ y f. let q = shown_one _ _ y f in omega (arith, small b);
    many_small = λ c n f. let q = shown_many _ _ c n f in omega (arith, small b, small (b + 1));
    law = λ y n es l s.
        let p : b ≡ length es + length es = omega arith in
        rw (p, s.0, s.1) refl;
  }

  pub top_one : at ps (b + 1) ≡ 0 → Tops ps d (TopOne (at ps b))
  top_one z = rw z at tops

  pub top_many : at ps (b + 1) ≢ 0 → Tops ps d (TopMany (at ps b) (at ps (b + 1)))
  top_many n = rw (shown_some (at ps b) (at ps (b + 1)) n) at tops
