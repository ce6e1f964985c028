-- Prices in the scratch part: of each class its price, in two words, and its mark, which is 0 for none and else 1 and an id that has the node that earned the price.
-- `entry` reads the words of a class; `Prices` says that the words are a table of prices, as the passes of document 01 make it (Pass of price): of each class
-- they keep what was taken last.
-- Assumes nothing.
use Rattle.std.specs.Prelude.{List, [], ◌∷◌, ◌≢◌, ◌⊎◌, ◌≡◌, refl, ◌*◌, ◌+◌, ◌/◌, ◌%◌, ◌<◌, ◌^◌, suc, zero, ℕ, length, replicate, set, Option, None, Some, IfSome}
use Rattle.std.proofs.Common.{inl, inr, ◌∙◌, ap, add-one, arith}
use Rattle.lists.specs.Reads.{at, get_or_copies}
use Rattle.lists.specs.Stores.{puts, puts_hit, puts_miss}
use Rattle.lists.specs.Tests.{eq_or}
use Rattle.steps.specs.Graph.{Graph, ids, key_of}
use Rattle.layout.specs.Cut.{scratch}
use Rattle.layout.specs.Lent.{Lent, Stored, lent_twice}
use Rattle.price.specs.Pass.{Best, Table, look}
use Rattle.price.specs.Reads.{look_here, look_past}
use Rattle.pricing.specs.declared.Entry.{Entry}

-- two words as one price
abbrev pub joined : ℕ → ℕ → ℕ
joined low high = low + high * 4294967296

-- ---- what the words say of a class

-- a mark and a price, as an entry
abbrev pub marked : ℕ → ℕ → Option Entry
marked zero price = None
marked (suc i) price = Some (record { id = record { 0 = i }; price = price })

-- the entry of class c in the scratch words ss
abbrev pub entry : ℕ → List ℕ → ℕ → Option Entry
entry n ss c = marked (at ss (2 * n + c)) (joined (at ss (2 * c)) (at ss (2 * c + 1)))

-- the mark that stands for it
abbrev pub mark : Option Entry → ℕ
mark None = 0
mark (Some e) = suc e.id.0

pub mark_is : (m price : ℕ) → mark (marked m price) ≡ m
mark_is zero price = refl
mark_is (suc i) price = refl

-- ---- what an entry says of a class of the graph g

-- e has the price of b, and its id the node of b
pub record Names (g : Graph) (e : Entry) (b : Best ℕ) : Type 0 where
  pub known : e.id.0 < ids g
  pub price_is : e.price ≡ b.price
  pub small : e.price < 2 ^ 64
  pub node_is : key_of g e.id.0 ≡ b.node

-- there is an entry if there is a best node, and it names it
abbrev pub Means : Graph → Option Entry → Option (Best ℕ) → Type 0
Means g None None = Unit {0}
Means g (Some e) (Some b) = Names g e b
Means g None (Some b) = ⊥
Means g (Some e) None = ⊥

pub named : (g : Graph) (o : Option Entry) (b : Best ℕ) → Means g o (Some b) → (e : Entry) × (o ≡ Some e) × Names g e b
named g None b M = absurd M
named g (Some e) b M = (e, refl, M)

-- the scratch words ss hold the table t, for the classes below n
pub record Prices (g : Graph) (n : ℕ) (ss : List ℕ) (t : Table ℕ) : Type 0 where
  pub each : (c : ℕ) → c < n → Means g (entry n ss c) (look c t)

-- an entry that is there has an id below n
abbrev pub IdBelow : ℕ → Option Entry → Type 0
IdBelow n r = IfSome r (λ e. e.id.0 < n)

-- ---- an entry read, and an entry written

-- r is what the words say of class c; its mark, 1 and its id, is one word
pub record EntryAt (n : ℕ) (ss : List ℕ) (c : ℕ) (r : Option Entry) : Type 0 where
  pub is : r ≡ entry n ss c
  pub low : IfSome r (λ e. e.id.0 + 1 < 2 ^ 32)

abbrev pub stores : ℕ → ℕ → Entry → List (ℕ × ℕ)
stores n c e = (2 * c, e.price % 4294967296) ∷ (2 * c + 1, e.price / 4294967296) ∷ (2 * n + c, e.id.0 + 1) ∷ []

abbrev pub Keeps : ℕ → ℕ → Entry → List ℕ → List ℕ → Type 0
Keeps n c e s s' = s' ≡ puts s (stores n c e)

-- what is read is what the table says
pub entry_as : (g : Graph) (n : ℕ) (ss : List ℕ) (t : Table ℕ) (c : ℕ) (r : Option Entry) → Prices g n ss t → c < n → EntryAt n ss c r → Means g r (look c t)
entry_as g n ss t c r P h E = rw E.is (P.each c h)

-- ---- the table at the start

pub prices_none : (g : Graph) (n k : ℕ) → Prices g n (replicate k 0) []
unfolding look
prices_none g n k = record { each = λ c h. let z : at (replicate k 0) (2 * n + c) ≡ 0 = get_or_copies k (2 * n + c) 0 in rw z tt }

-- ---- an entry more

-- a price from its two halves
halves : (p : ℕ) → joined (p % 4294967296) (p / 4294967296) ≡ p
halves p = omega arith

module _ (g : Graph) (n : ℕ) (s s' : List ℕ) (t : Table ℕ) (r : ℕ) (e : Entry) (b : Best ℕ) (P : Prices g n s t) (size : length s ≡ 6 * n) (hr : r < n)
    (N : Names g e b) (K : Keeps n r e s s') where
  low : at s' (2 * r) ≡ e.price % 4294967296
  low = rw K (puts_hit (stores n r e) s 0 (omega arith) (omega arith) (omega arith))

  high : at s' (2 * r + 1) ≡ e.price / 4294967296
  high = rw K (puts_hit (stores n r e) s 1 (omega arith) (omega arith) (omega arith))

  its_mark : at s' (2 * n + r) ≡ suc e.id.0
  its_mark = rw K (puts_hit (stores n r e) s 2 (omega arith) (omega arith) tt) ∙ add-one e.id.0

  its : entry n s' r ≡ Some e
  its = rw (its_mark, low, high, halves e.price) refl

  other : (c : ℕ) → c < n → c ≢ r → entry n s' c ≡ entry n s c
  other c h ne =
      rw (
        K,
        puts_miss (stores n r e) s (2 * n + c) (omega arith),
        puts_miss (stores n r e) s (2 * c) (omega arith),
        puts_miss (stores n r e) s (2 * c + 1) (omega arith),
      ) refl

  pub prices_more : Prices g n s' ((r, b) ∷ t)
  prices_more = record { each = λ c h. go c h (eq_or c r) }
    where
      go : (c : ℕ) → c < n → (c ≡ r) ⊎ (c ≢ r) → Means g (entry n s' c) (look c ((r, b) ∷ t))
      go c h (inl q) = rw (q, look_here r b t, its) N
      go c h (inr q) = rw (look_past c r b t q, other c h q) (P.each c h)

-- the three stores of `set_entry`
pub kept : (n m r : ℕ) (e : Entry) (lo hi : ℕ) (ws ws1 ws2 ws3 : List ℕ) → lo ≡ e.price % 4294967296 → hi ≡ e.price / 4294967296
    → Lent scratch n m (Stored (2 * r) lo) ws ws1 → Lent scratch n m (Stored (2 * r + 1) hi) ws1 ws2
    → Lent scratch n m (Stored (2 * n + r) (e.id.0 + 1)) ws2 ws3 → Lent scratch n m (Keeps n r e) ws ws3
kept n m r e lo hi ws ws1 ws2 ws3 el eh A B C =
    let AB : Lent scratch n m (λ s s2. s2 ≡ set (set s (2 * r) lo) (2 * r + 1) hi) ws ws2 =
    lent_twice (λ a b c p q. q ∙ ap (λ (l : List ℕ). set l (2 * r + 1) hi) p) A B in
    lent_twice (λ a b c p q. whole a b c p q) AB C
  where
    whole : (a b c : List ℕ) → b ≡ set (set a (2 * r) lo) (2 * r + 1) hi → c ≡ set b (2 * n + r) (e.id.0 + 1) → c ≡ puts a (stores n r e)
    whole a b c p q = rw (q, p, el, eh) refl
