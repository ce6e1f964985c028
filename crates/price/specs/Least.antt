-- After as many passes as there are classes every class has the least price of its forms, and a further pass changes nothing.
-- Assumes nothing.
use mathlib.Core.List.{List, [], ◌∷◌}
use Rattle.std.specs.Prelude.{◌⊎◌, ◌≡◌, Option, None, Some}
use Rattle.std.proofs.Common.{inl, inr, ◌∙◌, sym, arith}
use Rattle.std.proofs.Math.Path.{ap, refl}
use Prim.Native.Nat.{◌<◌, ◌≤◌, suc, zero, ℕ}
use Rattle.std.proofs.Math.Decide.{ℕ_discrete}
use Rattle.std.proofs.Math.ListN.{length}
use Rattle.lists.specs.Members.{Mem, here, mem-cases, mem-nil, minus, minus_has, minus_lt, minus_not, there}
use Rattle.lists.specs.Tests.{when_yes}
use Rattle.language.specs.Term.{Term}
use Rattle.price.specs.Form.{Form, Forms, In, InEach, ◌then◌, form, in_map, no_form}
use Rattle.price.specs.Pass.{Best, Table, accept, after, best, final, look, pass, priced, prices, turn}
use Rattle.price.specs.Reads.{AtMost, Priced, TurnsKeep, Under, after_keeps, best_from, best_low, look_here, look_nil, look_past, pass_under, priced_from, prices_from, prices_low, turn_low, turn_under}
use Rattle.price.specs.Rule.{Each, Rule, cost, costs, same_le}
use Rattle.std.proofs.lemmas.Option.{same_Some}

-- ---- forms

module _ {P : Type 0} (R : Rule P) where
  pub each_low : (t : Table P) (H : ℕ → Term → Type 0) → ((f : Form) (c : ℕ) → In H f c → AtMost R t c (cost R f)) → (fs : Forms) (cs : List ℕ) → InEach H fs cs → Each (AtMost R t) cs (costs R fs)
  unfolding In cost Each
  each_low t H w no_form [] h = tt
  each_low t H w no_form (c ∷ cs) h = absurd h
  each_low t H w (f then fs) [] h = absurd h
  each_low t H w (f then fs) (c ∷ cs) h = (w f c h.0, each_low t H w fs cs h.1)

  pub each_under : (t u : Table P) → Under R t u → (cs : List ℕ) (ps : List P) → Each (AtMost R t) cs ps → Each (AtMost R u) cs ps
  unfolding Each
  each_under t u w [] [] h = tt
  each_under t u w [] (p ∷ ps) h = absurd h
  each_under t u w (c ∷ cs) [] h = absurd h
  each_under t u w (c ∷ cs) (p ∷ ps) h = (w c p h.0, each_under t u w cs ps h.1)

-- ---- a form, and a class r: some form in it of class r, no dearer, has r nowhere below its head; or r is nowhere in it

module _ {P : Type 0} (R : Rule P) (H : ℕ → Term → Type 0) where
  abbrev pub Within : List ℕ → ℕ → Term → Type 0
  Within W r x = H r x × Mem r W

  abbrev Slim : List ℕ → ℕ → P → Type 0
  Slim W r p = (x : Term) × (fs : Forms) × H r x × InEach (Within (minus r W)) fs x.kids × R.Le (R.of x.op x.payload (costs R fs)) p

  class_of : (f : Form) (W : List ℕ) (c : ℕ) → In (Within W) f c → Mem c W
  unfolding In
  class_of (form o l fs) W c h = h.1.1

  module _ (W : List ℕ) (r : ℕ) where
    mutual
      unfolding In cost

      inner : (f : Form) (c : ℕ) → In (Within W) f c → Slim W r (cost R f) ⊎ In (Within (minus r W)) f c
      inner (form o l fs) c h = go (inner_each fs h.0 h.2) (ℕ_discrete c r)
        where
          go : ((p : P) × Mem p (costs R fs) × Slim W r p) ⊎ InEach (Within (minus r W)) fs h.0 → Dec (c ≡ r)
              → Slim W r (cost R (form o l fs)) ⊎ In (Within (minus r W)) (form o l fs) c
          go (inl k) d = let s = k.2 in
              inl (s.0, s.1, s.2, s.3, R.trans (R.of s.0.op s.0.payload (costs R s.1)) k.0 (R.of o l (costs R fs)) s.4 (R.above o l k.0 (costs R fs) k.1))
          go (inr k) (yes e) = inl (record { op = o; payload = l; kids = h.0 }, fs, rw (← e) h.1.0, k, same_le R (R.of o l (costs R fs)))
          go (inr k) (no n) = inr (h.0, (h.1.0, minus_has r c W n h.1.1), k)

      inner_each : (fs : Forms) (cs : List ℕ) → InEach (Within W) fs cs → ((p : P) × Mem p (costs R fs) × Slim W r p) ⊎ InEach (Within (minus r W)) fs cs
      inner_each no_form [] h = inr tt
      inner_each no_form (c ∷ cs) h = absurd h
      inner_each (f then fs) [] h = absurd h
      inner_each (f then fs) (c ∷ cs) h = go (inner f c h.0) (inner_each fs cs h.1)
        where
          go : Slim W r (cost R f) ⊎ In (Within (minus r W)) f c → ((p : P) × Mem p (costs R fs) × Slim W r p) ⊎ InEach (Within (minus r W)) fs cs
              → ((p : P) × Mem p (cost R f ∷ costs R fs) × Slim W r p) ⊎ (In (Within (minus r W)) f c × InEach (Within (minus r W)) fs cs)
          go (inl k) m = inl (cost R f, here refl, k)
          go (inr k) (inl m) = inl (m.0, there m.1, m.2)
          go (inr k) (inr m) = inr (k, m)

    slim : (f : Form) → In (Within W) f r → Slim W r (cost R f)
    slim f h = go (inner f r h)
      where
        go : Slim W r (cost R f) ⊎ In (Within (minus r W)) f r → Slim W r (cost R f)
        go (inl k) = k
        go (inr k) = absurd (minus_not r W (class_of f (minus r W) r k))

-- ---- the passes

module _ {P : Type 0} (R : Rule P) (nodes : ℕ → List Term) where
  abbrev pub Has : ℕ → Term → Type 0
  Has r x = Mem x (nodes r)

  -- every price is the price of a form
  abbrev pub Attained : Table P → Type 0
  Attained t = (r : ℕ) (b : Best P) → look r t ≡ Some b → (f : Form) × In Has f r × (cost R f ≡ b.price)

  -- and no form is cheaper
  abbrev pub Least : Table P → Type 0
  Least t = (r : ℕ) (f : Form) → In Has f r → AtMost R t r (cost R f)

  forms_of : (t : Table P) → Attained t → (cs : List ℕ) (ps : List P) → Each (Priced t) cs ps → (fs : Forms) × InEach Has fs cs × (costs R fs ≡ ps)
  unfolding In cost Each
  forms_of t A [] [] h = (no_form, tt, refl)
  forms_of t A [] (p ∷ ps) h = absurd h
  forms_of t A (c ∷ cs) [] h = absurd h
  forms_of t A (c ∷ cs) (p ∷ ps) h =
      let f = A c h.0.0 h.0.1 in
      let k = forms_of t A cs ps h.1 in
      let e : cost R f.0 ≡ p = f.2 ∙ h.0.2 in
      (f.0 then k.0, (f.1, k.1), λ i. e i ∷ k.2 i)

  pub proposed : (t : Table P) → Attained t → (r : ℕ) (b : Best P) → best R t (nodes r) ≡ Some b → (f : Form) × In Has f r × (cost R f ≡ b.price)
  unfolding In cost
  proposed t A r b e =
      let h = best_from R t (nodes r) b e in
      let k = priced_from R b.node (prices t b.node.kids) b.price h.1 in
      let fs = forms_of t A b.node.kids k.0 (prices_from t b.node.kids k.0 k.1) in
      (form b.node.op b.node.payload fs.0, (b.node.kids, h.0, fs.1), ap (R.of b.node.op b.node.payload) fs.2 ∙ k.2)

  attained_keeps : TurnsKeep R nodes Attained
  attained_keeps r b t e low A q a h = go (ℕ_discrete q r)
    where
      go : Dec (q ≡ r) → (f : Form) × In Has f q × (cost R f ≡ a.price)
      go (yes i) = let z : b ≡ a = same_Some _ _ (sym (look_here r b t) ∙ rw i at h) in rw (← z, i) (proposed t A r b e)
      go (no n) = A q a (sym (look_past q r b t n) ∙ h)

  pub attained : (rs : List ℕ) (n : ℕ) → Attained (after R nodes rs n [])
  attained rs n = after_keeps R nodes Attained attained_keeps rs n [] (λ r b e. absurd (look_nil r b e))

  pass_low : (rs : List ℕ) (t : Table P) (r : ℕ) (x : Term) (ps : List P) → Mem r rs → Mem x (nodes r) → Each (AtMost R t) x.kids ps → AtMost R (pass R nodes rs t) r (R.of x.op x.payload ps)
  unfolding pass priced
  pass_low [] t r x ps m k h = absurd (mem-nil m)
  pass_low (q ∷ rs) t r x ps m k h = go (mem-cases m) (λ n. pass_low rs (turn R nodes q t) r x ps n k (each_under R t (turn R nodes q t) (turn_under R nodes q t) x.kids ps h))
    where
      due : AtMost R (turn R nodes r t) r (R.of x.op x.payload ps)
      due =
          let p = prices_low R t x.kids ps h in
          let b = best_low R t (nodes r) x (R.of x.op x.payload p.0) k (ap (priced R x) p.1) in
          let s = turn_low R nodes r t b.0 b.1 in
          let c = s.0.price in
          let le : R.Le b.0.price (R.of x.op x.payload ps) = R.trans b.0.price (R.of x.op x.payload p.0) (R.of x.op x.payload ps) b.2 (R.rises x.op x.payload p.0 ps p.2) in
          (s.0, s.1, R.trans c b.0.price (R.of x.op x.payload ps) s.2 le)

      go : (r ≡ q) ⊎ Mem r rs → (Mem r rs → AtMost R (pass R nodes rs (turn R nodes q t)) r (R.of x.op x.payload ps)) → AtMost R (pass R nodes rs (turn R nodes q t)) r (R.of x.op x.payload ps)
      go (inl e) ih = rw (← e) (pass_under R nodes rs (turn R nodes r t) r (R.of x.op x.payload ps) due)
      go (inr n) ih = ih n

  module _ (rs : List ℕ) (listed : (r : ℕ) (x : Term) → Mem x (nodes r) → Mem r rs) where
    -- n passes price a form whose classes are n at most
    reach : (n : ℕ) (W : List ℕ) → length W ≤ n → (f : Form) (r : ℕ) → In (Within R Has W) f r → AtMost R (after R nodes rs n []) r (cost R f)
    unfolding after
    reach zero [] le f r h = absurd (mem-nil (class_of R Has f [] r h))
    reach zero (w ∷ W) le f r h = absurd (omega arith)
    reach (suc n) W le f r h =
        let s = slim R Has W r f h in
        let t = after R nodes rs n [] in
        let lt : length (minus r W) < length W = minus_lt r W (class_of R Has f W r h) in
        let k = each_low R t (Within R Has (minus r W)) (λ g c. reach n (minus r W) (omega arith) g c) s.1 s.0.kids s.3 in
        let a = pass_low rs t r s.0 (costs R s.1) (listed r s.0 s.2) s.2 k in
        (a.0, a.1, R.trans a.0.price (R.of s.0.op s.0.payload (costs R s.1)) (cost R f) a.2 s.4)

    -- 2. no form is cheaper
    pub least : Least (final R nodes rs)
    least r f h = reach (length rs) rs (omega arith) f r (in_map f Has (Within R Has rs) r (λ q x m. (m, listed q x m)) h)

    turn_still : (r : ℕ) → turn R nodes r (final R nodes rs) ≡ final R nodes rs
    unfolding turn accept
    turn_still r = go (best R (final R nodes rs) (nodes r)) refl
      where
        go : (o : Option (Best P)) → best R (final R nodes rs) (nodes r) ≡ o → accept R r (look r (final R nodes rs)) o (final R nodes rs) ≡ final R nodes rs
        go None e = refl
        go (Some b) e =
            let f = proposed (final R nodes rs) (attained rs (length rs)) r b e in
            let a = least r f.0 f.1 in
            let le : R.Le a.0.price b.price = rw f.2 at a.2 in
            rw a.1 (when_yes (R.test a.0.price b.price) (final R nodes rs) ((r, b) ∷ (final R nodes rs)) le)

    pass_still : (qs : List ℕ) → pass R nodes qs (final R nodes rs) ≡ final R nodes rs
    unfolding pass
    pass_still [] = refl
    pass_still (q ∷ qs) = rw (turn_still q) (pass_still qs)

    -- 1. and a further pass changes nothing
    pub still : pass R nodes rs (final R nodes rs) ≡ final R nodes rs
    still = pass_still rs
