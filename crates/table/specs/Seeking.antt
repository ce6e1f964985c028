-- A search for a key along one bucket, from its end. What `compare` and `seek` promise: one lemma for each way out.
-- Assumes nothing.
use Rattle.std.specs.Prelude.{Bool, None, Ok, Option, Result, Some, false, true, List, ◌≡◌, ◌+◌, ◌-◌, ◌<◌, ◌≤◌, ℕ, length}
use Rattle.broken.specs.declared.Broken.{Broken}
use Rattle.broken.specs.Words.{broken}
use Rattle.std.proofs.Common.{◌∙◌, ap, sym, arith}
use Rattle.lists.specs.Reads.{at}
use Rattle.lists.specs.Tests.{Says, zero_one}
use Rattle.language.specs.Term.{Term}
use Rattle.language.specs.declared.Id.{Id}
use Rattle.cells.specs.Cursor.{Cursor, Passed, cursor_low, length_low}
use Rattle.cells.specs.Pool.{Pool, row}
use Rattle.rows.specs.Read.{Sane, key_read}
use Rattle.table.specs.Table.{Held}

-- the key row of id i is the node t, is another, or is no row
pub record Compares (rows : List ℕ) (n m i : ℕ) (t : Term) (r : Result Bool Broken) : Type 0 where
  pub same : r ≡ Ok true → key_read rows n m i ≡ t
  pub other : r ≡ Ok false → key_read rows n m i ≡ t → ⊥
  pub broken : r ≡ broken → Sane rows n m i → ⊥

module _ (rows : List ℕ) (n m i : ℕ) (t : Term) where
  pub compare_broken : (Sane rows n m i → ⊥) → Compares rows n m i t broken
  compare_broken f = record {
    same = λ (e : broken ≡ Ok true). zero_one cc;
    other = λ (e : broken ≡ Ok false). zero_one cc;
    broken = λ _. f;
  }

  pub compared : (b : Bool) → Says b (key_read rows n m i ≡ t) → Compares rows n m i t (Ok b)
  compared b s = record {
    same = λ (e : Ok b ≡ Ok true). s.holds cc;
    other = λ (e : Ok b ≡ Ok false). s.fails cc;
    broken = λ (e : Ok b ≡ broken). zero_one cc;
  }

-- ---- bucket a

pub record Sought (ts rows : List ℕ) (n m a : ℕ) (t : Term) (r : Result (Option Id) Broken) : Type 0 where
  pub inside : (x : Id) → r ≡ Ok (Some x) → x.0 < n
  pub key : (x : Id) → r ≡ Ok (Some x) → key_read rows n m x.0 ≡ t
  pub found : (x : Id) → r ≡ Ok (Some x) → (L : List (List ℕ)) → Pool ts n n L → Held L x.0
  pub none : r ≡ Ok None → (L : List (List ℕ)) → Pool ts n n L → (i : ℕ) → i < length (row L a) → key_read rows n m (at (row L a) i) ≡ t → ⊥
  pub broken : r ≡ broken → (L : List (List ℕ)) → Pool ts n n L → ((i : ℕ) → i < length (row L a) → Sane rows n m (at (row L a) i)) → ⊥

module _ (ts rows : List ℕ) (n m a : ℕ) (t : Term) where
  sought_broken : ((L : List (List ℕ)) → Pool ts n n L → ((i : ℕ) → i < length (row L a) → Sane rows n m (at (row L a) i)) → ⊥) → Sought ts rows n m a t broken
  sought_broken bad = record {
    inside = λ x (e : broken ≡ Ok (Some x)). zero_one cc;
    key = λ x (e : broken ≡ Ok (Some x)). zero_one cc;
    found = λ x (e : broken ≡ Ok (Some x)). zero_one cc;
    none = λ (e : broken ≡ Ok None). zero_one cc;
    broken = λ _. bad;
  }

  module _ (ha : a < n) where
    pub sought_long : n < at ts (a + n + n) → Sought ts rows n m a t broken
    sought_long h = sought_broken (λ L p s. length_low ts n n a ha h L p)

    -- left ids are to come, the next is cur, and none of those passed has the key t
    module _ (left cur : ℕ) (c : Cursor ts n n a left cur) (g : Passed ts n n a left (λ x. key_read rows n m x ≡ t)) where
      pub sought_end : left ≤ 0 → Sought ts rows n m a t (Ok None)
      sought_end h = record {
        inside = λ x (e : Ok None ≡ Ok (Some x)). zero_one cc;
        key = λ x (e : Ok None ≡ Ok (Some x)). zero_one cc;
        found = λ x (e : Ok None ≡ Ok (Some x)). zero_one cc;
        none = λ _ L p i l. g.none L p i (omega arith) l;
        broken = λ (e : Ok None ≡ broken). zero_one cc;
      }

      module _ (some : 0 < left) where
        pub sought_stray : n ≤ cur → Sought ts rows n m a t broken
        sought_stray h = sought_broken (λ L p s. omega (arith, cursor_low ts n n a ha left cur c some L p))

        pub sought_torn : (Sane rows n m cur → ⊥) → Sought ts rows n m a t broken
        sought_torn bad = sought_broken (λ L p s. bad (rw (c.cell L p (left - 1) (omega arith)) (s (left - 1) (omega (arith, c.short L p)))))

        pub sought_found : (x : Id) → x.0 ≡ cur → cur < n → key_read rows n m cur ≡ t → Sought ts rows n m a t (Ok (Some x))
        sought_found x w lo k = record {
          inside = λ y (e : Ok (Some x) ≡ Ok (Some y)). let z : x ≡ y = cc in rw (← z, w) lo;
          key = λ y (e : Ok (Some x) ≡ Ok (Some y)). let z : x ≡ y = cc in rw (← z, w) k;
          found = λ y (e : Ok (Some x) ≡ Ok (Some y)) L p. let z : x ≡ y = cc in
              record {
                list = a;
                place = left - 1;
                inside = omega (arith, c.short L p);
                here = sym (c.cell L p (left - 1) (omega arith)) ∙ sym w ∙ ap (λ (i : Id). i.0) z;
              };
          none = λ (e : Ok (Some x) ≡ Ok None). zero_one cc;
          broken = λ (e : Ok (Some x) ≡ broken). zero_one cc;
        }
