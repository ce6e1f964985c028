-- The nodes that the passes chose run in no circle, also where prices tie.
-- Assumes nothing.
use mathlib.Core.List.{List, [], ◌∷◌}
use Rattle.std.specs.Prelude.{◌≢◌, ◌⊎◌, ◌≡◌, Some}
use Rattle.std.proofs.Common.{inl, inr, ◌∙◌, ap, sym}
use Rattle.std.proofs.Math.Path.{refl}
use Prim.Native.Nat.{◌<◌, ◌≤◌, suc, zero, ℕ}
use Rattle.std.proofs.Math.Decide.{ℕ_discrete}
use native.Mathlib.Omega.{arith}
use Rattle.std.proofs.Math.ListN.{length}
use Rattle.lists.specs.Members.{Mem, here, mem-cases, mem-nil, minus, minus_has, minus_lt, there}
use Rattle.lists.specs.Tests.{when, when_no, when_yes}
use Rattle.language.specs.Term.{Term}
use Rattle.price.specs.Least.{each_under}
use Rattle.price.specs.Pass.{Best, Table, after, best, look, prices}
use Rattle.price.specs.Reads.{AtMost, Priced, TurnsKeep, Under, after_keeps, best_from, look_here, look_nil, look_past, priced_from, prices_from, push_under}
use Rattle.price.specs.Rule.{Each, Rule, same_le}
use Rattle.std.proofs.lemmas.Option.{none-some, same_Some}

-- when the entry of class r was taken: how many entries are older
unfoldable pub age : {P : Type 0} → ℕ → Table P → ℕ
age r [] = 0
age r (e ∷ t) = when (ℕ_discrete r e.0) (length t) (age r t)

module _ {P : Type 0} where
  age_here : (r : ℕ) (b : Best P) (t : Table P) → age r ((r, b) ∷ t) ≡ length t
  unfolding age
  age_here r b t = when_yes (ℕ_discrete r r) (length t) (age r t) refl

  pub age_past : (r q : ℕ) (b : Best P) (t : Table P) → r ≢ q → age r ((q, b) ∷ t) ≡ age r t
  unfolding age
  age_past r q b t n = when_no (ℕ_discrete r q) (length t) (age r t) n

  age_lt : (r : ℕ) (t : Table P) (b : Best P) → look r t ≡ Some b → age r t < length t
  unfolding age look
  age_lt r [] b e = absurd (none-some _ e)
  age_lt r (x ∷ t) b e = go (ℕ_discrete r x.0) e (age_lt r t b)
    where
      go : (d : Dec (r ≡ x.0)) → when d (Some x.1) (look r t) ≡ Some b → (look r t ≡ Some b → age r t < length t) → when d (length t) (age r t) < suc (length t)
      go (yes q) k ih = omega arith
      go (no n) k ih = let h = ih k in omega arith

module _ {P : Type 0} (R : Rule P) where
  -- the entry a of age m goes before the entry b of age n: it costs less, or it costs no more and is older
  abbrev pub Sooner : Best P → ℕ → Best P → ℕ → Type 0
  Sooner a m b n = (¬ R.Le b.price a.price) ⊎ (R.Le a.price b.price × (m < n))

  abbrev pub SoonerIn : Table P → ℕ → ℕ → Type 0
  SoonerIn t q r = (a : Best P) × (b : Best P) × (look q t ≡ Some a) × (look r t ≡ Some b) × Sooner a (age q t) b (age r t)

  sooner_trans : (a b c : Best P) (k m n : ℕ) → Sooner a k b m → Sooner b m c n → Sooner a k c n
  sooner_trans a b c k m n (inl h) (inl j) = inl (λ e. h (R.trans b.price c.price a.price (R.total c.price b.price j) e))
  sooner_trans a b c k m n (inl h) (inr j) = inl (λ e. h (R.trans b.price c.price a.price j.0 e))
  sooner_trans a b c k m n (inr h) (inl j) = inl (λ e. j (R.trans c.price a.price b.price e h.0))
  sooner_trans a b c k m n (inr h) (inr j) = inr (R.trans a.price b.price c.price h.0 j.0, omega (arith, h.1, j.1))

  pub sooner_in_trans : (t : Table P) (p q r : ℕ) → SoonerIn t p q → SoonerIn t q r → SoonerIn t p r
  sooner_in_trans t p q r h k = let z : h.1 ≡ k.0 = same_Some _ _ (sym h.3 ∙ k.2) in
      (h.0, k.1, h.2, k.3, sooner_trans h.0 h.1 k.1 (age p t) (age q t) (age r t) h.4 (rw z k.4))

  pub sooner_in_self : (t : Table P) (r : ℕ) → SoonerIn t r r → ⊥
  sooner_in_self t r h = go (rw (same_Some _ _ (sym h.2 ∙ h.3)) at h.4)
    where
      go : Sooner h.1 (age r t) h.1 (age r t) → ⊥
      go (inl n) = n (same_le R h.1.price)
      go (inr k) = omega (arith, k.1)

module _ {P : Type 0} (R : Rule P) (nodes : ℕ → List Term) where
  -- a chosen node is one of its class, and costs no more than it did when it was taken
  abbrev pub Backed : Table P → Type 0
  Backed t = (r : ℕ) (b : Best P) → look r t ≡ Some b → Mem b.node (nodes r) × ((ps : List P) × Each (AtMost R t) b.node.kids ps × (R.of b.node.op b.node.payload ps ≡ b.price))

  pub exact : (t : Table P) (cs : List ℕ) (ps : List P) → Each (Priced t) cs ps → Each (AtMost R t) cs ps
  unfolding Each
  exact t [] [] h = tt
  exact t [] (p ∷ ps) h = absurd h
  exact t (c ∷ cs) [] h = absurd h
  exact t (c ∷ cs) (p ∷ ps) h = ((h.0.0, h.0.1, rw h.0.2 (same_le R p)), exact t cs ps h.1)

  -- what is proposed
  pub offer : (t : Table P) (r : ℕ) (b : Best P) → best R t (nodes r) ≡ Some b → Mem b.node (nodes r) × ((ps : List P) × Each (Priced t) b.node.kids ps × (R.of b.node.op b.node.payload ps ≡ b.price))
  offer t r b e =
      let h = best_from R t (nodes r) b e in
      let k = priced_from R b.node (prices t b.node.kids) b.price h.1 in
      (h.0, (k.0, prices_from t b.node.kids k.0 k.1, k.2))

  backed_keeps : TurnsKeep R nodes Backed
  backed_keeps r b t e low B q a h = go (ℕ_discrete q r)
    where
      up : Under R t ((r, b) ∷ t)
      up = push_under R r b t low

      now : Mem b.node (nodes r) × ((ps : List P) × Each (AtMost R ((r, b) ∷ t)) b.node.kids ps × (R.of b.node.op b.node.payload ps ≡ b.price))
      now = let k = offer t r b e in
          (k.0, (k.1.0, each_under R t ((r, b) ∷ t) up b.node.kids k.1.0 (exact t b.node.kids k.1.0 k.1.1), k.1.2))

      go : Dec (q ≡ r) → Mem a.node (nodes q) × ((ps : List P) × Each (AtMost R ((r, b) ∷ t)) a.node.kids ps × (R.of a.node.op a.node.payload ps ≡ a.price))
      go (yes i) = let z : b ≡ a = same_Some _ _ (sym (look_here r b t) ∙ rw i at h) in rw (← z, i) now
      go (no n) = let k = B q a (sym (look_past q r b t n) ∙ h) in (k.0, (k.1.0, each_under R t ((r, b) ∷ t) up a.node.kids k.1.0 k.1.1, k.1.2))

  pub backed : (rs : List ℕ) (n : ℕ) → Backed (after R nodes rs n [])
  backed rs n = after_keeps R nodes Backed backed_keeps rs n [] (λ r b e. absurd (look_nil r b e))

  -- a chosen node's children go before it
  abbrev pub Ranked : Table P → Type 0
  Ranked t = (r : ℕ) (b : Best P) (c : ℕ) → look r t ≡ Some b → Mem c b.node.kids → SoonerIn R t c r

  pub priced_kid : (t : Table P) (c : ℕ) (cs : List ℕ) (ps : List P) → Each (Priced t) cs ps → Mem c cs → (b : Best P) × (look c t ≡ Some b) × Mem b.price ps
  unfolding Each
  priced_kid t c [] ps h m = absurd (mem-nil m)
  priced_kid t c (d ∷ cs) [] h m = absurd h
  priced_kid t c (d ∷ cs) (p ∷ ps) h m = go (mem-cases m) (priced_kid t c cs ps h.1)
    where
      go : (c ≡ d) ⊎ Mem c cs → (Mem c cs → (b : Best P) × (look c t ≡ Some b) × Mem b.price ps) → (b : Best P) × (look c t ≡ Some b) × Mem b.price (p ∷ ps)
      go (inl e) ih = (h.0.0, rw e h.0.1, here h.0.2)
      go (inr k) ih = let b = ih k in (b.0, b.1, there b.2)

  ranked_keeps : TurnsKeep R nodes Ranked
  ranked_keeps r b t e low K q a c h m = go (ℕ_discrete q r)
    where
      -- the new entry
      new : (d : ℕ) → Mem d b.node.kids → SoonerIn R ((r, b) ∷ t) d r
      new d k =
          let o = offer t r b e in
          let p = priced_kid t d b.node.kids o.1.0 o.1.1 k in
          let le : R.Le p.0.price b.price = rw o.1.2 at (R.above b.node.op b.node.payload p.0.price o.1.0 p.2) in
          let n : d ≢ r = λ i. low p.0 (sym (ap (λ z. look z t) i) ∙ p.1) le in
          let lt : age d ((r, b) ∷ t) < age r ((r, b) ∷ t) = omega (arith, age_past d r b t n, age_here r b t, age_lt d t p.0 p.1) in
          (p.0, b, look_past d r b t n ∙ p.1, look_here r b t, inr (le, lt))

      -- an older one, whose child c has got the new entry
      cheaper : (z : Best P) → SoonerIn R t r q → look q t ≡ Some z → ¬ R.Le z.price b.price
      cheaper z k i le = past (rw (same_Some _ _ (sym k.3 ∙ i)) at k.4)
        where
          past : Sooner R k.0 (age r t) z (age q t) → ⊥
          past (inl n) = n (R.trans z.price b.price k.0.price le (R.total k.0.price b.price (low k.0 k.2)))
          past (inr j) = low k.0 k.2 (R.trans k.0.price z.price b.price j.0 le)

      old : q ≢ r → look q t ≡ Some a → Dec (c ≡ r) → SoonerIn R t c q → SoonerIn R ((r, b) ∷ t) c q
      old n i (yes j) k = rw j (b, a, look_here r b t, look_past q r b t n ∙ i, inl (cheaper a (rw j at k) i))
      old n i (no l) k = (k.0, k.1, look_past c r b t l ∙ k.2, look_past q r b t n ∙ k.3, rw (age_past c r b t l, age_past q r b t n) k.4)

      go : Dec (q ≡ r) → SoonerIn R ((r, b) ∷ t) c q
      go (yes i) = let z : b ≡ a = same_Some _ _ (sym (look_here r b t) ∙ rw i at h) in rw i (new c (rw z m))
      go (no n) = let i : look q t ≡ Some a = sym (look_past q r b t n) ∙ h in old n i (ℕ_discrete c r) (K q a c i m)

  pub ranked : (rs : List ℕ) (n : ℕ) → Ranked (after R nodes rs n [])
  ranked rs n = after_keeps R nodes Ranked ranked_keeps rs n [] (λ r b c e m. absurd (look_nil r b e))

  -- from r, by chosen nodes, every way down has at most n classes
  unfoldable pub Deep : Table P → ℕ → ℕ → Type 0
  Deep t zero r = ⊥
  Deep t (suc n) r = (b : Best P) × (look r t ≡ Some b) × ((c : ℕ) → Mem c b.node.kids → Deep t n c)

  deep : (t : Table P) → Ranked t → (n : ℕ) (W : List ℕ) → length W ≤ n → (r : ℕ) → Mem r W → ((q : ℕ) → SoonerIn R t q r → Mem q W) → (b : Best P) → look r t ≡ Some b → Deep t n r
  unfolding Deep
  deep t K zero [] le r m low b e = absurd (mem-nil m)
  deep t K zero (w ∷ W) le r m low b e = absurd (omega arith)
  deep t K (suc n) W le r m low b e = (
    b,
    e,
    λ c k.
        let p = K r b c e k in
        let lt : length (minus r W) < length W = minus_lt r W m in
        deep t K n (minus r W) (omega arith) c (minus_has r c W (λ i. sooner_in_self R t r (rw i at p)) (low c p))
        (λ q s. let z = sooner_in_trans R t q c r s p in minus_has r q W (λ i. sooner_in_self R t r (rw i at z)) (low q z)) p.0 p.2,
  )

  module _ (rs : List ℕ) (listed : (r : ℕ) (x : Term) → Mem x (nodes r) → Mem r rs) (t : Table P) (B : Backed t) (K : Ranked t) where
    -- what has a price is a class
    pub in_list : (q : ℕ) (a : Best P) → look q t ≡ Some a → Mem q rs
    in_list q a k = listed q a.node (B q a k).0

    -- 3. no circle
    pub no_circle : (r : ℕ) (b : Best P) → look r t ≡ Some b → Deep t (length rs) r
    no_circle r b e = deep t K (length rs) rs (omega arith) r (in_list r b e) (λ q h. in_list q h.0 h.2) b e
