-- What `look`, `prices`, `best` and `accept` say; and how to prove something of every table that passes make.
-- Assumes nothing.
use mathlib.Core.List.{List, [], ◌∷◌, cons≢nil}
use Rattle.std.specs.Prelude.{◌≢◌, ◌⊎◌, Option, None, Some}
use Rattle.std.proofs.Common.{inl, inr, ◌∙◌, sym}
use Rattle.std.proofs.Math.Path.{◌≡◌, ap, refl}
use Prim.Native.Nat.{suc, zero, ℕ}
use Rattle.std.proofs.Math.Decide.{ℕ_discrete}
use Rattle.lists.specs.Members.{Mem, here, mem-cases, mem-nil, there}
use Rattle.lists.specs.Tests.{when, when_no, when_yes}
use Rattle.language.specs.Term.{Term}
use Rattle.price.specs.Pass.{Best, Table, accept, after, best, better, look, pass, priced, prices, turn, with_price}
use Rattle.price.specs.Rule.{Each, Rule, same_le}
use Rattle.std.proofs.lemmas.Option.{none-some, same_Some}

module _ {P : Type 0} where
  pub look_nil : (r : ℕ) (b : Best P) → look r [] ≡ Some b → ⊥
  unfolding look
  look_nil r b e = none-some _ e

  pub look_here : (r : ℕ) (b : Best P) (t : Table P) → look r ((r, b) ∷ t) ≡ Some b
  unfolding look
  look_here r b t = when_yes (ℕ_discrete r r) (Some b) (look r t) refl

  pub look_past : (r q : ℕ) (b : Best P) (t : Table P) → r ≢ q → look r ((q, b) ∷ t) ≡ look r t
  unfolding look
  look_past r q b t n = when_no (ℕ_discrete r q) (Some b) (look r t) n

  -- class c has the price p
  abbrev pub Priced : Table P → ℕ → P → Type 0
  Priced t c p = (b : Best P) × (look c t ≡ Some b) × (b.price ≡ p)

  pub prices_from : (t : Table P) (cs : List ℕ) (ps : List P) → prices t cs ≡ Some ps → Each (Priced t) cs ps
  unfolding prices with_price Each
  prices_from t [] [] e = tt
  prices_from t [] (p ∷ ps) e = absurd (cons≢nil (sym (same_Some _ _ e)))
  prices_from t (c ∷ cs) ps e = go (look c t) (prices t cs) ps refl refl e (prices_from t cs)
    where
      go : (o : Option (Best P)) (m : Option (List P)) (qs : List P) → look c t ≡ o → prices t cs ≡ m → with_price o m ≡ Some qs
          → ((ss : List P) → prices t cs ≡ Some ss → Each (Priced t) cs ss) → Each (Priced t) (c ∷ cs) qs
      go None m qs a k e ih = absurd (none-some _ e)
      go (Some b) None qs a k e ih = absurd (none-some _ e)
      go (Some b) (Some ss) [] a k e ih = absurd (cons≢nil (same_Some _ _ e))
      go (Some b) (Some ss) (q ∷ qs) a k e ih = ((b, a, cc e), ih qs (k ∙ ap Some (cc e)))

module _ {P : Type 0} (R : Rule P) where
  -- class r has a price, at most p
  abbrev pub AtMost : Table P → ℕ → P → Type 0
  AtMost t r p = (b : Best P) × (look r t ≡ Some b) × R.Le b.price p

  abbrev pub Under : Table P → Table P → Type 0
  Under t u = (r : ℕ) (p : P) → AtMost t r p → AtMost u r p

  pub prices_low : (t : Table P) (cs : List ℕ) (ps : List P) → Each (AtMost t) cs ps → (qs : List P) × (prices t cs ≡ Some qs) × Each R.Le qs ps
  unfolding prices with_price Each
  prices_low t [] [] h = ([], refl, tt)
  prices_low t [] (p ∷ ps) h = absurd h
  prices_low t (c ∷ cs) [] h = absurd h
  prices_low t (c ∷ cs) (p ∷ ps) h =
      let k = prices_low t cs ps h.1 in
      let b = h.0.0 in
      (b.price ∷ k.0, rw (h.0.1, k.1) refl, (h.0.2, k.2))

  pub priced_from : (x : Term) (o : Option (List P)) (p : P) → priced R x o ≡ Some p → (ps : List P) × (o ≡ Some ps) × (R.of x.op x.payload ps ≡ p)
  unfolding priced
  priced_from x None p e = absurd (none-some _ e)
  priced_from x (Some ps) p e = (ps, refl, same_Some _ _ e)

  -- b is one of the nodes xs, at its price
  abbrev pub IsOf : Table P → List Term → Best P → Type 0
  IsOf t xs b = Mem b.node xs × (priced R b.node (prices t b.node.kids) ≡ Some b.price)

  pub best_from : (t : Table P) (xs : List Term) (b : Best P) → best R t xs ≡ Some b → IsOf t xs b
  unfolding best better
  best_from t [] b e = absurd (none-some _ e)
  best_from t (x ∷ xs) b e = go (priced R x (prices t x.kids)) (best R t xs) refl e (best_from t xs b)
    where
      past : IsOf t xs b → IsOf t (x ∷ xs) b
      past h = (there h.0, h.1)

      first : (p : P) → priced R x (prices t x.kids) ≡ Some p → ◌≡◌ {A = Best P} (record { price = p; node = x }) b
          → IsOf t (x ∷ xs) b
      first p k q = rw (← q) (here refl, k)

      pick : (p : P) (a : Best P) (d : Dec (R.Le p a.price)) → priced R x (prices t x.kids) ≡ Some p
          → when d (Some (record { price = p; node = x })) (Some a) ≡ Some b → (Some a ≡ Some b → IsOf t xs b)
          → IsOf t (x ∷ xs) b
      pick p a (yes h) k q ih = first p k (same_Some _ _ q)
      pick p a (no n) k q ih = past (ih q)

      go : (o : Option P) (m : Option (Best P)) → priced R x (prices t x.kids) ≡ o → better R x o m ≡ Some b
          → (m ≡ Some b → IsOf t xs b)
          → IsOf t (x ∷ xs) b
      go None m k q ih = past (ih q)
      go (Some p) None k q ih = first p k (same_Some _ _ q)
      go (Some p) (Some a) k q ih = pick p a (R.test p a.price) k q ih

  -- and none is cheaper
  pub best_low : (t : Table P) (xs : List Term) (x : Term) (p : P) → Mem x xs → priced R x (prices t x.kids) ≡ Some p → (b : Best P) × (best R t xs ≡ Some b) × R.Le b.price p
  unfolding best better
  best_low t [] x p m e = absurd (mem-nil m)
  best_low t (y ∷ ys) x p m e = go (priced R y (prices t y.kids)) (best R t ys) refl (mem-cases m) (λ k. best_low t ys x p k e)
    where
      pick : (q : P) (a : Best P) (d : Dec (R.Le q a.price)) → R.Le q p ⊎ R.Le a.price p
          → (b : Best P) × (when d (Some (record { price = q; node = y })) (Some a) ≡ Some b) × R.Le b.price p
      pick q a (yes h) (inl k) = (record { price = q; node = y }, refl, k)
      pick q a (yes h) (inr k) = (record { price = q; node = y }, refl, R.trans q a.price p h k)
      pick q a (no n) (inl k) = (a, refl, R.trans a.price q p (R.total q a.price n) k)
      pick q a (no n) (inr k) = (a, refl, k)

      same : (q : P) → priced R y (prices t y.kids) ≡ Some q → x ≡ y → R.Le q p
      same q k i = let z : p ≡ q = same_Some _ _ (sym e ∙ (ap (λ n. priced R n (prices t n.kids)) i ∙ k)) in rw z (same_le R q)

      go : (o : Option P) (m : Option (Best P)) → priced R y (prices t y.kids) ≡ o → (x ≡ y) ⊎ Mem x ys → (Mem x ys → (b : Best P) × (m ≡ Some b) × R.Le b.price p)
          → (b : Best P) × (better R y o m ≡ Some b) × R.Le b.price p
      go None m k (inl i) ih = absurd (none-some _ (sym k ∙ (sym (ap (λ n. priced R n (prices t n.kids)) i) ∙ e)))
      go None m k (inr h) ih = ih h
      go (Some q) None k (inl i) ih = (record { price = q; node = y }, refl, same q k i)
      go (Some q) None k (inr h) ih = absurd (none-some _ (ih h).1)
      go (Some q) (Some a) k (inl i) ih = pick q a (R.test q a.price) (inl (same q k i))
      go (Some q) (Some a) k (inr h) ih = let b = ih h in pick q a (R.test q a.price) (inr (rw (same_Some _ _ b.1) b.2))

  -- ---- what is taken is strictly less than what was there

  abbrev pub Lower : Table P → ℕ → Best P → Type 0
  Lower t r b = (a : Best P) → look r t ≡ Some a → ¬ R.Le a.price b.price

  pub push_under : (r : ℕ) (b : Best P) (t : Table P) → Lower t r b → Under t ((r, b) ∷ t)
  push_under r b t low q p h = go (ℕ_discrete q r)
    where
      go : Dec (q ≡ r) → AtMost ((r, b) ∷ t) q p
      go (yes e) = let a = h.0 in let k : R.Le b.price a.price = R.total a.price b.price (low a (rw e at h.1)) in
          rw e (b, look_here r b t, R.trans b.price a.price p k h.2)
      go (no n) = (h.0, look_past q r b t n ∙ h.1, h.2)

module _ {P : Type 0} (R : Rule P) (nodes : ℕ → List Term) where
  -- Q is kept by what a turn takes
  abbrev pub TurnsKeep : (Table P → Type 0) → Type 0
  TurnsKeep Q = (r : ℕ) (b : Best P) (t : Table P) → best R t (nodes r) ≡ Some b → Lower R t r b → Q t → Q ((r, b) ∷ t)

  module _ (Q : Table P → Type 0) (K : TurnsKeep Q) where
    accept_keeps : (r : ℕ) (t : Table P) (o m : Option (Best P)) → look r t ≡ o → best R t (nodes r) ≡ m → Q t → Q (accept R r o m t)
    unfolding accept
    accept_keeps r t o None e k h = h
    accept_keeps r t None (Some b) e k h = K r b t k (λ a q. absurd (none-some _ (sym e ∙ q))) h
    accept_keeps r t (Some a) (Some b) e k h = go (R.test a.price b.price)
      where
        go : (d : Dec (R.Le a.price b.price)) → Q (when d t ((r, b) ∷ t))
        go (yes l) = h
        go (no n) = K r b t k (λ c q. rw (same_Some _ _ (sym q ∙ e)) n) h

    pub turn_keeps : (r : ℕ) (t : Table P) → Q t → Q (turn R nodes r t)
    unfolding turn
    turn_keeps r t h = accept_keeps r t (look r t) (best R t (nodes r)) refl refl h

    pub pass_keeps : (rs : List ℕ) (t : Table P) → Q t → Q (pass R nodes rs t)
    unfolding pass
    pass_keeps [] t h = h
    pass_keeps (r ∷ rs) t h = pass_keeps rs (turn R nodes r t) (turn_keeps r t h)

    pub after_keeps : (rs : List ℕ) (n : ℕ) (t : Table P) → Q t → Q (after R nodes rs n t)
    unfolding after
    after_keeps rs zero t h = h
    after_keeps rs (suc n) t h = pass_keeps rs (after R nodes rs n t) (after_keeps rs n t h)

  pub turn_under : (r : ℕ) (t : Table P) → Under R t (turn R nodes r t)
  turn_under r t = turn_keeps (Under R t) (λ q b u k low h s p m. push_under R q b u low s p (h s p m)) r t (λ s p m. m)

  pub pass_under : (rs : List ℕ) (t : Table P) → Under R t (pass R nodes rs t)
  pass_under rs t = pass_keeps (Under R t) (λ q b u k low h s p m. push_under R q b u low s p (h s p m)) rs t (λ s p m. m)

  -- after its turn a class costs at most what was proposed
  pub turn_low : (r : ℕ) (t : Table P) (b : Best P) → best R t (nodes r) ≡ Some b → AtMost R (turn R nodes r t) r b.price
  unfolding turn accept
  turn_low r t b e = rw e (go (look r t) refl)
    where
      pick : (a : Best P) (d : Dec (R.Le a.price b.price)) → look r t ≡ Some a → AtMost R (when d t ((r, b) ∷ t)) r b.price
      pick a (yes l) k = (a, k, l)
      pick a (no n) k = (b, look_here r b t, same_le R b.price)

      go : (o : Option (Best P)) → look r t ≡ o → AtMost R (accept R r o (Some b) t) r b.price
      go None k = (b, look_here r b t, same_le R b.price)
      go (Some a) k = pick a (R.test a.price b.price) k
