-- One entry closed: its key is set in the table, and if the key had an id before, the two are united. The machine's `close`.
-- Assumes nothing.
use Rattle.std.specs.Prelude.{None, Ok, Result, Some, false, List, ◌≡◌, refl, ℕ, length, Option}
use Rattle.broken.specs.declared.Broken.{Broken}
use Rattle.broken.specs.Words.{broken}
use Rattle.std.proofs.Common.{◌∙◌, ap, sym}
use Rattle.std.proofs.Math.Path.{subst}
use Rattle.lists.specs.Tests.{zero_one}
use Rattle.language.specs.declared.Id.{Id}
use Rattle.steps.specs.Graph.{Graph, kept, key_of}
use Rattle.steps.specs.Machine.{Joined, close, keyed}
use Rattle.holds.specs.Holds.{HoldsAt}
use Rattle.holds.specs.Inside.{Inside, inside_then}
use Rattle.layout.specs.Head.{HeadOk}
use Rattle.layout.specs.View.{view}
use Rattle.layout.specs.declared.Head.{Head}
use Rattle.taking.specs.Rekey.{RekeySays, Ripe}
use Rattle.uniting.specs.Near.{NearIds}
use Rattle.uniting.specs.Says.{UniteSays, United, told}
use Rattle.language.specs.Told.{told_none, told_not, told_some}

-- the entry of id i in the graph g
abbrev pub closing : Graph → ℕ → Joined
closing g i = close (keyed g (key_of g i) i) (kept (key_of g i) g.memo) i

pub record CloseSays (h : Head) (i : ℕ) (ws : List ℕ) (r : Result United Broken) (ws' : List ℕ) : Type 0 where
  pub inside : Inside h.n h.m ws ws'
  pub range : (s : United) → r ≡ Ok s → NearIds (length ws) h s.head
  pub sound : (g : Graph) (u : ℕ) → HoldsAt h u (view h.n h.m ws) g → Ripe g i
      → (k : Head) × (r ≡ told (closing g i).answer k) × HoldsAt k u (view h.n h.m ws') (closing g i).graph

near_same : (len : ℕ) (h : Head) → HeadOk len h → NearIds len h h
near_same len h ok = record { near = record { ok = ok; n_is = refl; m_is = refl }; ids_is = refl; places_is = refl }

close_none : (g : Graph) (i : ℕ) → close g None i ≡ record { graph = g; answer = false }
unfolding close
close_none g i = refl

module _ (h : Head) (i : ℕ) (ws ws1 : List ℕ) (ok : HeadOk (length ws) h) (r1 : Result (Option Id) Broken) (K : RekeySays h i ws r1 ws1) where
  pub close_broken : r1 ≡ broken → CloseSays h i ws broken ws1
  close_broken e = record {
    inside = K.inside;
    range = λ s q. zero_one cc;
    sound = λ g u H R. told_not (kept (key_of g i) g.memo) (sym e ∙ (K.sound g u H R).0);
  }

  abbrev pub alone : United
  alone = record { head = h; joined = false }

  pub close_new : r1 ≡ Ok None → CloseSays h i ws (Ok alone) ws1
  close_new e = record {
    inside = K.inside;
    range = λ s q. let z : alone ≡ s = cc in subst (λ (t : United). NearIds (length ws) h t.head) z (near_same (length ws) h ok);
    sound = λ g u H R.
        let s = K.sound g u H R in
        let f = told_none (kept (key_of g i) g.memo) (sym e ∙ s.0) in
        let c : closing g i ≡ record { graph = keyed g (key_of g i) i; answer = false } = ap (λ (o : Option ℕ). close (keyed g (key_of g i) i) o i) f ∙ close_none (keyed g (key_of g i) i) i in
        subst (λ (t : Joined). (k : Head) × (Ok alone ≡ told t.answer k) × HoldsAt k u (view h.n h.m ws1) t.graph) (sym c) (h, refl, s.1);
  }

  module _ (x : Id) (e : r1 ≡ Ok (Some x)) where
    module _ (ws2 : List ℕ) (r2 : Result United Broken) (U : UniteSays h x.0 i ws1 r2 ws2) where
      joined : (g : Graph) (u : ℕ) → HoldsAt h u (view h.n h.m ws) g → Ripe g i
          → (k : Head) × (r2 ≡ told (closing g i).answer k) × HoldsAt k u (view h.n h.m ws2) (closing g i).graph
      unfolding close
      joined g u H R =
          let s = K.sound g u H R in
          let f = told_some (kept (key_of g i) g.memo) x (sym e ∙ s.0) in
          let j = U.sound (keyed g (key_of g i) i) u s.1 in
          subst (λ (o : Option ℕ). (k : Head) × (r2 ≡ told (close (keyed g (key_of g i) i) o i).answer k) × HoldsAt k u (view h.n h.m ws2) (close (keyed g (key_of g i) i) o i).graph) (sym f) j

      pub close_old : CloseSays h i ws r2 ws2
      close_old = record {
        inside = inside_then K.inside U.inside;
        range = λ s q. subst (λ (n : ℕ). NearIds n h s.head) K.inside.size (U.range s q);
        sound = joined;
      }
