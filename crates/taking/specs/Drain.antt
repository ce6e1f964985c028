-- Entries taken until none is pending. What `drain_within` promises, the invariant of its loop, and one law for each way out.
-- Assumes nothing.
use Rattle.std.specs.Prelude.{Bool, Err, None, Ok, Option, Result, Some, false, true, List, [], ◌⊎◌, ◌≡◌, refl, ◌+◌, ◌-◌, ◌<◌, ◌≤◌, ℕ, length}
use Rattle.broken.specs.declared.Broken.{Broken}
use Rattle.broken.specs.Words.{broken}
use Rattle.std.proofs.Common.{inl, inr, ap, subst, sym, arith}
use Rattle.lists.specs.Tests.{zero_one}
use Rattle.closure.specs.Closed.{step_unclean}
use Rattle.steps.specs.Graph.{Graph}
use Rattle.steps.specs.Machine.{Rebuild, done, marked, more, step}
use Rattle.closure.specs.Invariant.{Good, Same}
use Rattle.closure.specs.Slots.{Keyed, step_keyed}
use Rattle.closure.specs.Taking.{step_good}
use Rattle.holds.specs.Holds.{HoldsAt}
use Rattle.holds.specs.Inside.{Inside, inside_same, inside_then}
use Rattle.layout.specs.Head.{HeadOk}
use Rattle.layout.specs.View.{View, view}
use Rattle.layout.specs.declared.Head.{Head}
use Rattle.taking.specs.Entry.{EntrySays, Open}
use Rattle.taking.specs.declared.Drained.{Drained}
use Rattle.uniting.specs.Says.{United, answered}
use Rattle.uniting.specs.Near.{NearIds, inside_near, near_then, view_near}
use Rattle.std.specs.Int.{from_bool}

-- what a drain answers, with the head that is left
pub record DrainedTo : Type 0 where
  pub head : Head
  pub yes : ℕ
  pub taken : ℕ

-- the answer of a drain with the head that is left, where it was not refused
abbrev pub drained : Head → Result Drained Broken → Result DrainedTo Broken
drained k (Ok d) = Ok (record { head = k; yes = d.yes; taken = d.taken })
drained k (Err e) = Err e

-- a graph that a rebuild may start from: unclean, or with nothing pending
pub record Startable (us : List (ℕ × ℕ)) (g : Graph) : Type 0 where
  pub good : Good Same us g
  pub keyed : Keyed g.nodes g.roots g.memo
  pub soft : (g.clean ≡ false) ⊎ (g.pending ≡ [])

-- the graph that is left, with nothing pending: z is the rebuilt graph, once it is marked clean
pub record Emptied (us : List (ℕ × ℕ)) (u : ℕ) (z : Graph) (y t : ℕ) (v : View) (r : Result DrainedTo Broken) : Type 0 where
  pub head : Head
  pub answer : r ≡ Ok (record { head = head; yes = y; taken = t })
  pub graph : Graph
  pub rebuilt : z ≡ marked graph true
  pub start : Startable us graph
  pub empty : graph.pending ≡ []
  pub holds : HoldsAt head u v graph

pub record DrainSays (h : Head) (fuel : ℕ) (ws : List ℕ) (r : Result DrainedTo Broken) (ws' : List ℕ) : Type 0 where
  pub inside : Inside h.n h.m ws ws'
  pub range : (d : DrainedTo) → r ≡ Ok d → NearIds (length ws) h d.head
  pub sound : (g : Graph) (u : ℕ) (us : List (ℕ × ℕ)) → HoldsAt h u (view h.n h.m ws) g → Startable us g
      → (y t : ℕ) (z : Graph) → Rebuild g y t z → t < fuel → Emptied us u z y t (view h.n h.m ws') r

-- ---- the invariant

-- a graph on the way of the rebuild: `yes` and `taken` so far, and the rest of the rebuild
pub record Reached (us : List (ℕ × ℕ)) (u : ℕ) (z : Graph) (y t : ℕ) (k : Head) (v : View) (yes taken : ℕ) : Type 0 where
  pub graph : Graph
  pub holds : HoldsAt k u v graph
  pub start : Startable us graph
  pub yes_left : ℕ
  pub left : ℕ
  pub rest : Rebuild graph yes_left left z
  pub yes_is : yes + yes_left ≡ y
  pub taken_is : taken + left ≡ t

pub record Going (h : Head) (fuel : ℕ) (ws₀ : List ℕ) (k : Head) (ws : List ℕ) (left yes taken : ℕ) : Type 0 where
  pub inside : Inside h.n h.m ws₀ ws
  pub near : NearIds (length ws₀) h k
  pub spent : taken + left ≡ fuel
  pub few : yes ≤ taken
  pub sound : (g : Graph) (u : ℕ) (us : List (ℕ × ℕ)) → HoldsAt h u (view h.n h.m ws₀) g → Startable us g
      → (y t : ℕ) (z : Graph) → Rebuild g y t z → t < fuel → Reached us u z y t k (view h.n h.m ws) yes taken

pub going_start : (h : Head) (fuel : ℕ) (ws : List ℕ) → HeadOk (length ws) h → Going h fuel ws h ws fuel 0 0
going_start h fuel ws ok = record {
  inside = inside_same h.n h.m ws;
  near = record { near = record { ok = ok; n_is = refl; m_is = refl }; ids_is = refl; places_is = refl };
  spent = omega arith;
  few = omega arith;
  sound = λ g u us H S y t z R l. record { graph = g; holds = H; start = S; yes_left = y; left = t; rest = R; yes_is = omega arith; taken_is = omega arith };
}

count_low : (b : Bool) → from_bool b ≤ 1
count_low true = omega arith
count_low false = omega arith

-- a graph with an entry left is open
opened : {us : List (ℕ × ℕ)} {g : Graph} → Startable us g → (g.pending ≡ [] → ⊥) → Open us g
opened {us} {g} S ne = go S.soft
  where
    go : (g.clean ≡ false) ⊎ (g.pending ≡ []) → Open us g
    go (inl e) = record { good = S.good; keyed = S.keyed; unclean = e }
    go (inr e) = absurd (ne e)

after : {us : List (ℕ × ℕ)} {g : Graph} → Open us g → (g.pending ≡ [] → ⊥) → Startable us (step g g.pending).graph
after {us} {g} O ne = record {
  good = step_good us g g.pending refl O.good;
  keyed = step_keyed us g g.pending refl ne O.good O.keyed;
  soft = inl (step_unclean g g.pending O.unclean);
}

module _ (h : Head) (fuel : ℕ) (ws₀ : List ℕ) (k : Head) (ws : List ℕ) (left yes taken : ℕ) (G : Going h fuel ws₀ k ws left yes taken) where
  pub drain_spent : left ≡ 0 → DrainSays h fuel ws₀ broken ws
  drain_spent e = record {
    inside = G.inside;
    range = λ d q. zero_one cc;
    sound = λ g u us H S y t z R l. absurd (let r = (G.sound g u us H S y t z R l).taken_is in let s = G.spent in omega arith);
  }

  module _ (ws1 : List ℕ) (r : Result (Option United) Broken) (E : EntrySays k ws r ws1) where
    inside1 : Inside h.n h.m ws₀ ws1
    inside1 = inside_then G.inside (inside_near G.near E.inside)

    seen : (u : ℕ) (g : Graph) → HoldsAt k u (view h.n h.m ws) g → HoldsAt k u (view k.n k.m ws) g
    seen u g H = subst (λ (v : View). HoldsAt k u v g) (sym (view_near G.near ws)) H

    -- nothing is pending: what is reached is the end
    at_end : (us : List (ℕ × ℕ)) (u : ℕ) (g z : Graph) (yl tl : ℕ) → HoldsAt k u (view h.n h.m ws) g → Startable us g → Rebuild g yl tl z → r ≡ Ok None
        → (yl ≡ 0) × (tl ≡ 0) × (z ≡ marked g true) × (g.pending ≡ []) × HoldsAt k u (view h.n h.m ws1) g
    at_end us u g z yl tl H S (done e) f =
        (refl, refl, refl, e, subst (λ (w : List ℕ). HoldsAt k u (view h.n h.m w) g) (sym (E.none g u (seen u g H) e).1) H)
    at_end us u g z yl tl H S (more ne R) f =
        let s = E.some g u us (seen u g H) (opened S ne) ne in
        let q = s.1 in
        zero_one cc

    abbrev pub all : DrainedTo
    all = record { head = k; yes = yes; taken = taken }

    pub drain_done : r ≡ Ok None → DrainSays h fuel ws₀ (Ok all) ws1
    drain_done e = record {
      inside = inside1;
      range = λ d q. let z : all ≡ d = cc in subst (λ (x : DrainedTo). NearIds (length ws₀) h x.head) z G.near;
      sound = λ g u us H S y t z R l.
          let p = G.sound g u us H S y t z R l in
          let a = at_end us u p.graph z p.yes_left p.left p.holds p.start p.rest e in
          let ey : yes ≡ y = omega (arith, p.yes_is, a.0) in
          let et : taken ≡ t = omega (arith, p.taken_is, a.1) in
          record { head = k; answer = λ i. Ok (record { head = k; yes = ey i; taken = et i }); graph = p.graph; rebuilt = a.2; start = p.start; empty = a.3; holds = a.4 };
    }

    -- never broken on words that hold a graph
    never_broken : {A : Type 0} (us : List (ℕ × ℕ)) (u : ℕ) (g z : Graph) (yl tl : ℕ) → HoldsAt k u (view h.n h.m ws) g → Startable us g → Rebuild g yl tl z → r ≡ broken → A
    never_broken us u g z yl tl H S (done e) f = let q = (E.none g u (seen u g H) e).0 in zero_one cc
    never_broken us u g z yl tl H S (more ne R) f =
        let s = E.some g u us (seen u g H) (opened S ne) ne in
        let q = s.1 in
        zero_one cc

    pub drain_broken : r ≡ broken → DrainSays h fuel ws₀ broken ws1
    drain_broken e = record {
      inside = inside1;
      range = λ d q. zero_one cc;
      sound = λ g u us H S y t z R l.
          let p = G.sound g u us H S y t z R l in
          never_broken us u p.graph z p.yes_left p.left p.holds p.start p.rest e;
    }

    -- one entry more
    module _ (s : United) (e : r ≡ Ok (Some s)) where
      abbrev d : ℕ
      d = from_bool s.joined

      stepped : (us : List (ℕ × ℕ)) (u : ℕ) (g z : Graph) (y t yl tl : ℕ) → HoldsAt k u (view h.n h.m ws) g → Startable us g → Rebuild g yl tl z
          → yes + yl ≡ y → taken + tl ≡ t → Reached us u z y t s.head (view h.n h.m ws1) (yes + d) (taken + 1)
      stepped us u g z y t yl tl H S (done q) ey et =
          let f = (E.none g u (seen u g H) q).0 in
          zero_one cc
      stepped us u g z y t yl tl H S (more {y = y'} {t = t'} ne R) ey et =
          let O = opened S ne in
          let a = E.some g u us (seen u g H) O ne in
          let f = a.1 in
          let same : answered (step g g.pending).answer a.0 ≡ s = cc in
          let p : a.0 ≡ s.head = ap (λ (x : United). x.head) same in
          let q : from_bool (step g g.pending).answer ≡ d = ap (λ (x : United). from_bool x.joined) same in
          record {
            graph = (step g g.pending).graph;
            holds = subst (λ (v : View). HoldsAt s.head u v (step g g.pending).graph) (view_near G.near ws1)
                (subst (λ (x : Head). HoldsAt x u (view k.n k.m ws1) (step g g.pending).graph) p a.2);
            start = after O ne;
            yes_left = y';
            left = t';
            rest = R;
            yes_is = omega arith;
            taken_is = omega arith;
          }

      pub going_on : 0 < left → Going h fuel ws₀ s.head ws1 (left - 1) (yes + from_bool s.joined) (taken + 1)
      going_on some =
          let b = E.range s e in
          let low : d ≤ 1 = count_low s.joined in
          record {
            inside = inside1;
            near = near_then G.near (subst (λ (n : ℕ). NearIds n k s.head) G.inside.size b);
            spent = omega (arith, G.spent);
            few = omega (arith, G.few);
            sound = λ g u us H S y t z R l.
                let p = G.sound g u us H S y t z R l in
                stepped us u p.graph z y t p.yes_left p.left p.holds p.start p.rest p.yes_is p.taken_is;
          }
