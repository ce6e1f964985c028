-- One entry of pending, taken and closed: the machine's `step`. What `one_entry` promises.
-- Assumes nothing.
use Rattle.std.specs.Prelude.{Err, None, Ok, Option, Result, Some, Bool, false, List, [], ◌∷◌, ◌≢◌, ◌≡◌, refl, ℕ, length}
use Rattle.broken.specs.declared.Broken.{Broken}
use Rattle.broken.specs.Words.{broken}
use Rattle.std.proofs.Common.{ap, sym}
use Rattle.std.proofs.Math.Path.{subst}
use Rattle.lists.specs.Tests.{zero_one}
use Rattle.steps.specs.Graph.{Graph}
use Rattle.steps.specs.Machine.{popped, step}
use Rattle.closure.specs.Invariant.{Good, Same}
use Rattle.closure.specs.Slots.{Keyed}
use Rattle.closure.specs.Taking.{top_lt}
use Rattle.holds.specs.Holds.{HoldsAt}
use Rattle.holds.specs.Inside.{Inside, inside_then}
use Rattle.layout.specs.View.{View, view}
use Rattle.layout.specs.declared.Head.{Head}
use Rattle.taking.specs.Close.{CloseSays, closing}
use Rattle.taking.specs.Rekey.{Ripe}
use Rattle.taking.specs.Take.{TakeSays, Taken, entry}
use Rattle.uniting.specs.Says.{United, answered, told}
use Rattle.uniting.specs.Near.{NearIds, inside_near, near_then, view_near}

-- what a rebuild keeps: the invariant of closure, a table that leads from a live key to an id that has it, and an unclean graph
pub record Open (us : List (ℕ × ℕ)) (g : Graph) : Type 0 where
  pub good : Good Same us g
  pub keyed : Keyed g.nodes g.roots g.memo
  pub unclean : g.clean ≡ false

-- an answer of `one_entry` with the head that is left, where it was not refused
abbrev pub closed : Head → Result (Option Bool) Broken → Result (Option United) Broken
closed k (Ok (Some b)) = Ok (Some (answered b k))
closed k (Ok None) = Ok None
closed k (Err e) = Err e

pub record EntrySays (h : Head) (ws : List ℕ) (r : Result (Option United) Broken) (ws' : List ℕ) : Type 0 where
  pub inside : Inside h.n h.m ws ws'
  pub range : (s : United) → r ≡ Ok (Some s) → NearIds (length ws) h s.head
  pub none : (g : Graph) (u : ℕ) → HoldsAt h u (view h.n h.m ws) g → g.pending ≡ [] → (r ≡ Ok None) × (ws' ≡ ws)
  pub some : (g : Graph) (u : ℕ) (us : List (ℕ × ℕ)) → HoldsAt h u (view h.n h.m ws) g → Open us g → g.pending ≢ []
      → (s : Head) × (r ≡ Ok (Some (answered (step g g.pending).answer s))) × HoldsAt s u (view h.n h.m ws') (step g g.pending).graph

-- ---- the ways out

module _ (h : Head) (ws ws1 : List ℕ) (r1 : Result (Option Taken) Broken) (T : TakeSays h ws r1 ws1) where
  -- where something is pending, the first is taken
  module _ (g : Graph) (u : ℕ) (us : List (ℕ × ℕ)) (H : HoldsAt h u (view h.n h.m ws) g) (O : Open us g) where
    first : (i : ℕ) (rest : List ℕ) → g.pending ≡ i ∷ rest → (k : Head) × (r1 ≡ Ok (Some (entry i k))) × HoldsAt k u (view h.n h.m ws1) (popped g rest)
    first i rest e = T.some g u H i rest e (top_lt us g i rest O.good e)

    taken_some : {A : Type 0} → g.pending ≢ [] → ((x : Taken) → r1 ≡ Ok (Some x) → A) → A
    taken_some {A} ne f = go g.pending refl
      where
        go : (l : List ℕ) → g.pending ≡ l → A
        go [] e = absurd (ne e)
        go (i ∷ rest) e = let t = first i rest e in f (entry i t.0) t.1

  pub entry_none : r1 ≡ Ok None → EntrySays h ws (Ok None) ws1
  entry_none e = record {
    inside = T.inside;
    range = λ s f. zero_one cc;
    none = λ g u H p. (refl, (T.none g u H p).1);
    some = λ g u us H O ne. taken_some g u us H O ne (λ x f. zero_one cc);
  }

  pub entry_broken : r1 ≡ broken → EntrySays h ws broken ws1
  entry_broken e = record {
    inside = T.inside;
    range = λ s f. zero_one cc;
    none = λ g u H p. let f = (T.none g u H p).0 in zero_one cc;
    some = λ g u us H O ne. taken_some g u us H O ne (λ x f. zero_one cc);
  }

  module _ (x : Taken) (e1 : r1 ≡ Ok (Some x)) where
    abbrev k : Head
    k = x.head

    near : NearIds (length ws) h k
    near = (T.range x e1).1

    -- the id and its entry are as the graph has them
    ready : (g : Graph) (u : ℕ) (us : List (ℕ × ℕ)) → HoldsAt h u (view h.n h.m ws) g → Open us g → (i : ℕ) (rest : List ℕ) → g.pending ≡ i ∷ rest
        → (i ≡ x.id.0) × HoldsAt k u (view k.n k.m ws1) (popped g rest)
    ready g u us H O i rest e =
        let t = first g u us H O i rest e in
        let f = t.1 in
        let same : entry i t.0 ≡ x = cc in (
          ap (λ (y : Taken). y.id.0) same,
          subst (λ (v : View). HoldsAt k u v (popped g rest)) (sym (view_near near ws1)) (subst (λ (s : Taken). HoldsAt s.head u (view h.n h.m ws1) (popped g rest)) same t.2),
        )

    ripe : (g : Graph) (us : List (ℕ × ℕ)) → Open us g → (i : ℕ) (rest : List ℕ) → g.pending ≡ i ∷ rest → Ripe (popped g rest) i
    ripe g us O i rest e =
        let low = top_lt us g i rest O.good e in
        record { low = low; unclean = O.unclean; kids = λ c m. O.good.shape.kids_lt i c low m; own = λ s l f. O.keyed s i l f }

    module _ (ws2 : List ℕ) (r2 : Result United Broken) (C : CloseSays x.head x.id.0 ws1 r2 ws2) where
      inside2 : Inside h.n h.m ws ws2
      inside2 = inside_then T.inside (inside_near near C.inside)

      near2 : {s : Head} → NearIds (length ws1) k s → NearIds (length ws) h s
      near2 {s} N = near_then near (subst (λ (n : ℕ). NearIds n k s) T.inside.size N)

      none2 : {A : Type 0} (g : Graph) (u : ℕ) → HoldsAt h u (view h.n h.m ws) g → g.pending ≡ [] → A
      none2 g u H p = let f = (T.none g u H p).0 in zero_one cc

      closes_at : (g : Graph) (u : ℕ) (us : List (ℕ × ℕ)) → HoldsAt h u (view h.n h.m ws) g → Open us g → (i : ℕ) (rest : List ℕ) → g.pending ≡ i ∷ rest
          → (s : Head) × (r2 ≡ told (step g (i ∷ rest)).answer s) × HoldsAt s u (view h.n h.m ws2) (step g (i ∷ rest)).graph
      unfolding step
      closes_at g u us H O i rest e =
          let a = ready g u us H O i rest e in
          let C' = subst (λ (j : ℕ). CloseSays k j ws1 r2 ws2) (sym a.0) C in
          let c = C'.sound (popped g rest) u a.1 (ripe g us O i rest e) in
          (c.0, c.1, subst (λ (v : View). HoldsAt c.0 u v (closing (popped g rest) i).graph) (view_near near ws2) c.2)

      closes : (g : Graph) (u : ℕ) (us : List (ℕ × ℕ)) → HoldsAt h u (view h.n h.m ws) g → Open us g → g.pending ≢ []
          → (s : Head) × (r2 ≡ told (step g g.pending).answer s) × HoldsAt s u (view h.n h.m ws2) (step g g.pending).graph
      closes g u us H O ne = go g.pending refl
        where
          go : (l : List ℕ) → g.pending ≡ l → (s : Head) × (r2 ≡ told (step g l).answer s) × HoldsAt s u (view h.n h.m ws2) (step g l).graph
          go [] e = absurd (ne e)
          go (i ∷ rest) e = closes_at g u us H O i rest e

      pub entry_torn : r2 ≡ broken → EntrySays h ws broken ws2
      entry_torn f = record {
        inside = inside2;
        range = λ s q. zero_one cc;
        none = λ g u H p. none2 g u H p;
        some = λ g u us H O ne. let c = (closes g u us H O ne).1 in zero_one cc;
      }

      pub entry_done : (s : United) → r2 ≡ Ok s → EntrySays h ws (Ok (Some s)) ws2
      entry_done s f = record {
        inside = inside2;
        range = λ t q. let z : s ≡ t = cc in subst (λ (y : United). NearIds (length ws) h y.head) z (near2 (C.range s f));
        none = λ g u H p. none2 g u H p;
        some = λ g u us H O ne.
            let c = closes g u us H O ne in
            let b = c.1 in
            let z : s ≡ answered (step g g.pending).answer c.0 = cc in
            (c.0, ap (λ (y : United). Ok (Some y)) z, c.2);
      }
