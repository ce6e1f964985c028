-- The order in which the rows in front put ids, and that the words of a stretch are ids, which is what a comparison of two of them asks.
-- Assumes nothing.
use Rattle.std.specs.Prelude.{List, ◌≡◌, ◌+◌, ◌-◌, ◌<◌, ◌≤◌, ℕ, length, take}
use Rattle.std.proofs.Common.{ap, arith}
use Rattle.lists.specs.Members.{Mem}
use Rattle.lists.specs.Reads.{at}
use Rattle.language.specs.Ordered.{order}
use Rattle.language.specs.Term.{Term}
use Rattle.rows.specs.Read.{key_read}
use Rattle.rows.specs.Rows.{size}
use Rattle.sorting.specs.Arranged.{Lawful}
use Rattle.lists.specs.Parts.{take_same}
use Rattle.sorting.specs.Keyed.{keyed, keyed_lawful}
use Rattle.sorting.specs.Stretch.{stretch, stretch_from, stretch_has}
use Rattle.std.specs.declared.cmp.Ordering.{Ordering}

-- the key of an id, as the rows in front have it
abbrev pub key_of : List ℕ → ℕ → ℕ → ℕ → Term
key_of ws n m x = key_read (take (size n m) ws) n m x

abbrev pub by : List ℕ → ℕ → ℕ → ℕ → ℕ → Ordering
by ws n m = keyed (key_of ws n m)

pub by_lawful : (ws : List ℕ) (n m : ℕ) → Lawful (by ws n m)
by_lawful ws n m = keyed_lawful (key_of ws n m)

-- the order stays where the rows do
pub by_same : (us ws : List ℕ) (n m lo : ℕ) → size n m ≤ lo → length us ≡ length ws → ((j : ℕ) → j < lo → at us j ≡ at ws j) → by us n m ≡ by ws n m
by_same us ws n m lo h e b = ap (λ (l : List ℕ). keyed (λ (x : ℕ). key_read l n m x)) (take_same us ws (size n m) e (λ j k. b j (omega arith)))

-- what the code compares: x and y have the nodes u and v as their keys
pub by_nodes : (ws : List ℕ) (n m x y : ℕ) (u v : Term) (o : Ordering) → u ≡ key_of ws n m x → v ≡ key_of ws n m y → o ≡ order u v → o ≡ by ws n m x y
unfolding keyed
by_nodes ws n m x y u v o p q e = rw (← p, ← q) e

-- each of the a words from lo on is an id
pub record Below (ws : List ℕ) (n lo a : ℕ) : Type 0 where
  pub each : (p : ℕ) → p < a → at ws (lo + p) < n

module _ (ws : List ℕ) (n lo a : ℕ) (B : Below ws n lo a) where
  -- a word of the stretch
  pub below_at : (j : ℕ) → lo ≤ j → j < lo + a → at ws j < n
  below_at j h k = let e : lo + (j - lo) ≡ j = omega arith in rw e at (B.each (j - lo) (omega arith))

  -- a stretch in it
  pub below_part : (i b : ℕ) → lo ≤ i → i + b ≤ lo + a → Below ws n i b
  below_part i b h k = record { each = λ p l. below_at (i + p) (omega arith) (omega arith) }

  -- other words, which are the same there
  pub below_same : (us : List ℕ) → ((j : ℕ) → lo ≤ j → j < lo + a → at us j ≡ at ws j) → Below us n lo a
  below_same us h = record { each = λ p l. rw (h (lo + p) (omega arith) (omega arith)) (B.each p l) }

  -- other words, each of which was in the stretch
  pub below_from : (us : List ℕ) (i b : ℕ) → ((z : ℕ) → Mem z (stretch us i b) → Mem z (stretch ws lo a)) → Below us n i b
  below_from us i b f = record { each = λ p l. let o = stretch_from ws lo a (at us (i + p)) (f (at us (i + p)) (stretch_has us i b p l)) in rw o.2 (B.each o.0 o.1) }
