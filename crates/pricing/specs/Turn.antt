-- One class's turn: the best of its nodes is taken if the class has none yet, or if its price is strictly less. `accepts` promises what `accept` of Pass (price) says,
-- and `turn` what `turn` says, and whether the table has grown.
-- Assumes nothing.
use Rattle.std.specs.Prelude.{Ok, Result, Bool, cond, nat_lt, false, true, List, ◌⊎◌, ◌∷◌, ◌≡◌, Option, None, Some, MatchOption, ◌||◌}
use Rattle.broken.specs.declared.Broken.{Broken}
use Rattle.broken.specs.Words.{broken, err≢ok}
use Rattle.std.proofs.Common.{inl, inr, ◌∙◌, subst, sym}
use Rattle.std.proofs.Math.Path.{refl}
use Rattle.std.proofs.lemmas.Bool.{le-ltb, lt-ltb}
use Prim.Native.Nat.{◌*◌, ◌<◌, ◌≤◌, min, ℕ}
use Rattle.std.proofs.Math.Decide.{dec_le}
use native.Mathlib.Omega.{arith}
use Rattle.std.proofs.Math.ListN.{length}
use Rattle.lists.specs.Reads.{at}
use Rattle.lists.specs.Stores.{puts_miss}
use Rattle.lists.specs.Tests.{lt_or, when_no, when_yes}
use Rattle.steps.specs.Classes.{class_nodes}
use Rattle.steps.specs.Graph.{Graph}
use Rattle.egraph.specs.ClassReads.{Classed}
use Rattle.layout.specs.Cut.{need, scratch}
use Rattle.layout.specs.Idle.{lent_same}
use Rattle.layout.specs.Lent.{Lent, lent_map, lent_twice}
use Rattle.layout.specs.View.{view}
use Rattle.layout.proofs.Sizes.{get_length}
use Rattle.layout.specs.declared.Head.{Head}
use Rattle.price.specs.Pass.{Best, Table, accept, best, look, turn}
use Rattle.price.specs.Size.{AstSize, cap}
use Rattle.pricing.specs.Best.{BestOf, more, no_more}
use Rattle.pricing.specs.Entries.{EntryAt, Keeps, Means, Names, Prices, entry_as, prices_more, stores}
use Rattle.pricing.specs.declared.Entry.{Entry}

-- ---- what is accepted

-- b says whether what is proposed is taken, where `old` says what the class has, and `new` names what is proposed
pub record Accepts (old : Option Entry) (new : Entry) (b : Bool) : Type 0 where
  pub law : (g : Graph) (o : Option (Best ℕ)) (p : Best ℕ) → Means g old o → Names g new p
      → (r : ℕ) (t : Table ℕ) → accept AstSize r o (Some p) t ≡ cond b ((r, p) ∷ t) t

module _ (new : Entry) where
  accept_first : Accepts None new true
  unfolding accept
  accept_first = record { law = λ g o p M N. go g o p M }
    where
      go : (g : Graph) (o : Option (Best ℕ)) (p : Best ℕ) → Means g None o → (r : ℕ) (t : Table ℕ) → accept AstSize r o (Some p) t ≡ (r, p) ∷ t
      go g None p M r t = refl
      go g (Some a) p M r t = absurd M

  accept_less : (e : Entry) → Accepts (Some e) new (nat_lt new.price e.price)
  unfolding accept
  accept_less e = record { law = λ g o p M N r t. go g o p M N r t (lt_or new.price e.price) }
    where
      go : (g : Graph) (o : Option (Best ℕ)) (p : Best ℕ) → Means g (Some e) o → Names g new p → (r : ℕ) (t : Table ℕ)
          → (new.price < e.price) ⊎ (e.price ≤ new.price) → accept AstSize r o (Some p) t ≡ cond (nat_lt new.price e.price) ((r, p) ∷ t) t
      go g None p M N r t d = absurd M
      go g (Some a) p M N r t (inl l) =
          let q : min a.price cap ≤ min p.price cap → ⊥ =
          more a.price p.price (omega (arith, M.small, M.price_is)) (omega (arith, N.small, N.price_is)) (omega (arith, M.price_is, N.price_is)) in
          rw (lt-ltb _ _ l) (when_no (dec_le (min a.price cap) (min p.price cap)) t ((r, p) ∷ t) q)
      go g (Some a) p M N r t (inr l) =
          let q : min a.price cap ≤ min p.price cap =
          no_more a.price p.price (omega (arith, M.small, M.price_is)) (omega (arith, N.small, N.price_is)) (omega (arith, M.price_is, N.price_is)) in
          rw (le-ltb _ _ l) (when_yes (dec_le (min a.price cap) (min p.price cap)) t ((r, p) ∷ t) q)

  -- none yet, or a greater price
  pub accept_is : (old : Option Entry) (b : Bool) → MatchOption old (b ≡ true) (λ e. b ≡ nat_lt new.price e.price) → Accepts old new b
  accept_is None b h = rw h accept_first
  accept_is (Some e) b h = rw h (accept_less e)

-- ---- the turn

-- the scratch words past the prices and marks are as they were
abbrev pub Ahead : ℕ → List ℕ → List ℕ → Type 0
Ahead n s s' = (i : ℕ) → 3 * n ≤ i → at s' i ≡ at s i

-- nothing but prices and marks has changed
abbrev pub Scratched : ℕ → ℕ → List ℕ → List ℕ → Type 0
Scratched n m ws ws' = Lent scratch n m (Ahead n) ws ws'

pub scratched_then : {n m : ℕ} {ws ws1 ws2 : List ℕ} → Scratched n m ws ws1 → Scratched n m ws1 ws2 → Scratched n m ws ws2
scratched_then a b = lent_twice (λ x y z p q i l. q i l ∙ p i l) a b

-- where an entry was taken the table u is longer than t, else it is t
abbrev pub Grown : Bool → Table ℕ → Table ℕ → Type 0
Grown true t u = length t < length u
Grown false t u = u ≡ t

pub grown_then : (a b : Bool) (t u v : Table ℕ) → Grown a t u → Grown b u v → Grown (a || b) t v
grown_then true true t u v p q = omega arith
grown_then true false t u v p q = rw q p
grown_then false true t u v p q = rw (← p) q
grown_then false false t u v p q = q ∙ p

-- the scratch words ss hold the table u, and the answer is whether an entry was taken on the way there from t
pub record Took (g : Graph) (n : ℕ) (ss : List ℕ) (t u : Table ℕ) (r : Result Bool Broken) : Type 0 where
  pub taken : Bool
  pub is : r ≡ Ok taken
  pub prices : Prices g n ss u
  pub grown : Grown taken t u

pub record Turns (h : Head) (a : ℕ) (ws : List ℕ) (r : Result Bool Broken) (ws' : List ℕ) : Type 0 where
  pub only : Scratched h.n h.m ws ws'
  pub law : (g : Graph) (t : Table ℕ) → Classed h (view h.n h.m ws) g → Prices g h.n (view h.n h.m ws).scratch t
      → Took g h.n (view h.n h.m ws').scratch t (turn AstSize (class_nodes g) a t) r

module _ (h : Head) (a : ℕ) (ws : List ℕ) (c : Result (Option Entry) Broken) (B : BestOf h a (view h.n h.m ws) c) where
  pub turn_broken : c ≡ broken → Turns h a ws broken ws
  turn_broken e = record {
    only = lent_same ws (λ i l. refl);
    law = λ g t C P. let k = B.law g t C P in err≢ok (sym e ∙ k.1);
  }

  -- what is proposed, as the table has it
  proposed : (x : Option Entry) → c ≡ Ok x → (g : Graph) (t : Table ℕ) → Classed h (view h.n h.m ws) g → Prices g h.n (view h.n h.m ws).scratch t
      → Means g x (best AstSize t (class_nodes g a))
  proposed x is g t C P =
      let k = B.law g t C P in
      let z : k.0 ≡ x = cc (is, k.1) in
      subst (λ (x : Option Entry). Means g x (best AstSize t (class_nodes g a))) z k.2

  -- nothing is taken where the table takes nothing
  kept : ((g : Graph) (t : Table ℕ) → Classed h (view h.n h.m ws) g → Prices g h.n (view h.n h.m ws).scratch t
      → turn AstSize (class_nodes g) a t ≡ t) → Turns h a ws (Ok false) ws
  kept s = record {
    only = lent_same ws (λ i l. refl);
    law = λ g t C P. let q = s g t C P in record { taken = false; is = refl; prices = rw q P; grown = q };
  }

  pub turn_none : c ≡ Ok None → Turns h a ws (Ok false) ws
  unfolding turn accept
  turn_none is = kept (λ g t C P. go g t (best AstSize t (class_nodes g a)) (proposed None is g t C P))
    where
      go : (g : Graph) (t : Table ℕ) (p : Option (Best ℕ)) → Means g None p → accept AstSize a (look a t) p t ≡ t
      go g t None M = refl
      go g t (Some b) M = absurd M

  module _ (new : Entry) (old : Option Entry) (is : c ≡ Ok (Some new)) (ha : a < h.n) (E : EntryAt h.n (view h.n h.m ws).scratch a old)
      (b : Bool) (A : Accepts old new b) where
    pub turn_kept : b ≡ false → Turns h a ws (Ok false) ws
    unfolding turn
    turn_kept e = kept (λ g t C P. go g t P (best AstSize t (class_nodes g a)) (proposed (Some new) is g t C P))
      where
        go : (g : Graph) (t : Table ℕ) → Prices g h.n (view h.n h.m ws).scratch t → (p : Option (Best ℕ)) → Means g (Some new) p
            → accept AstSize a (look a t) p t ≡ t
        go g t P None M = absurd M
        go g t P (Some p) M = rw e at (A.law g (look a t) p (entry_as g h.n _ t a old P ha E) M a t)

    pub turn_taken : (ws' : List ℕ) → need h.n h.m ≤ length ws → b ≡ true → Lent scratch h.n h.m (Keeps h.n a new) ws ws' → Turns h a ws (Ok true) ws'
    unfolding turn
    turn_taken ws' ok e K = record {
      only = lent_map (λ s s' p i l. rw p (puts_miss (stores h.n a new) s i (omega arith))) K;
      law = λ g t C P. go g t P (best AstSize t (class_nodes g a)) (proposed (Some new) is g t C P);
    }
      where
        go : (g : Graph) (t : Table ℕ) → Prices g h.n (view h.n h.m ws).scratch t → (p : Option (Best ℕ)) → Means g (Some new) p
            → Took g h.n (view h.n h.m ws').scratch t (accept AstSize a (look a t) p t) (Ok true)
        go g t P None M = absurd M
        go g t P (Some p) M =
            let q : accept AstSize a (look a t) (Some p) t ≡ (a, p) ∷ t = rw e at (A.law g (look a t) p (entry_as g h.n _ t a old P ha E) M a t) in
            record {
              taken = true;
              is = refl;
              prices = rw q (prices_more g h.n _ _ t a new p P (get_length scratch h.n h.m ws ok) ha M K.did);
              grown = rw q (omega arith);
            }
