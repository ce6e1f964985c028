-- The ways out of `probe`.
-- Assumes nothing.
use Rattle.std.specs.Prelude.{None, Ok, Option, Result, Some, List, ◌≡◌, refl, ◌<◌, ◌≤◌, ℕ}
use Rattle.broken.specs.declared.Broken.{Broken}
use Rattle.broken.specs.Words.{broken}
use Rattle.std.proofs.Common.{◌∙◌, ap, subst, sym, arith}
use Rattle.holds.specs.HoldsLaws.{root_again}
use Rattle.lists.specs.Tests.{zero_one}
use Rattle.language.specs.Fitting.{term}
use Rattle.language.specs.declared.Id.{Id}
use Rattle.language.specs.declared.fit.Fit.{Fit}
use Rattle.steps.specs.Graph.{Graph, canon, ids}
use Rattle.closure.specs.Tables.{canon_live}
use Rattle.adding.specs.Says.{Probes, kept_for}
use Rattle.adding.specs.declared.Probed.{Probed}
use Rattle.growing.specs.Roots.{Rooted, WithRoots}
use Rattle.holds.specs.Holds.{HoldsAt}
use Rattle.holds.specs.NodesLaws.{Asks, nodes_ask}
use Rattle.layout.specs.View.{view}
use Rattle.layout.specs.declared.Head.{Head}
use Rattle.table.specs.Asking.{Answers}
use Rattle.std.proofs.lemmas.Option.{none-some}

module _ (h : Head) (x : Fit) (ws : List ℕ) where
  -- on words that hold no graph
  probe_broken : ((g : Graph) (u : ℕ) → HoldsAt h u (view h.n h.m ws) g → ⊥) → Probes h x ws broken
  probe_broken never = record {
    key = λ p (q : broken ≡ Ok p). zero_one cc;
    inside = λ p i (q : broken ≡ Ok p) s. zero_one cc;
    found = λ g u i H q. absurd (never g u H);
    absent = λ g u H q. absurd (never g u H);
  }

  module _ (w : Result Fit Broken) (W : WithRoots ws h x w) where
    pub probe_lost : w ≡ broken → Probes h x ws broken
    probe_lost e = probe_broken (λ g u H. let f = (W.sound g u H).1 in zero_one cc)

    module _ (y : Fit) (e : w ≡ Ok y) (a : Result (Option Id) Broken) (A : Answers (view h.n h.m ws).table (view h.n h.m ws).rows h.n h.m (term y) a) where
      -- on words that hold a graph
      key_is : (g : Graph) (u : ℕ) → HoldsAt h u (view h.n h.m ws) g → term y ≡ canon g.roots (term x)
      key_is g u H = let k = W.sound g u H in let same : y ≡ k.0 = cc (e, k.1) in rw same k.2

      asks : (g : Graph) (u : ℕ) → HoldsAt h u (view h.n h.m ws) g → Asks (canon g.roots (term x)) g.memo (ids g) a
      asks g u H =
          let live = canon_live g.roots (term x) (root_again H.forest) in
          nodes_ask _ _ _ _ _ _ _ H.nodes (canon g.roots (term x)) a live (rw (key_is g u H) at A)

      pub probe_far : (i : Id) → a ≡ Ok (Some i) → h.ids ≤ i.0 → Probes h x ws broken
      probe_far i t far = probe_broken (λ g u H. omega (arith, (asks g u H).inside i t, H.ids_are))

      module _ (o : Option Id) (t : a ≡ Ok o) where
        hit : (g : Graph) (u i : ℕ) → HoldsAt h u (view h.n h.m ws) g → kept_for g (term x) ≡ Some i → (b : Option Id) → o ≡ b → b ≡ Some (record { 0 = i })
        hit g u i H q (Some j) s =
            let f = (asks g u H).found j (t ∙ ap Ok s) in
            let z : j.0 ≡ i = cc (f, q) in
            (λ k. Some (record { 0 = z k }))
        hit g u i H q None s = absurd (none-some _ (sym ((asks g u H).absent (t ∙ ap Ok s)) ∙ q))

        miss : (g : Graph) (u : ℕ) → HoldsAt h u (view h.n h.m ws) g → kept_for g (term x) ≡ None → (b : Option Id) → o ≡ b → b ≡ None
        miss g u H q (Some j) s = absurd (none-some _ (sym q ∙ (asks g u H).found j (t ∙ ap Ok s)))
        miss g u H q None s = refl

        probe_done : ((i : Id) → o ≡ Some i → i.0 < h.ids) → Probes h x ws (Ok (record { seen = o; key = y }))
        probe_done near = record {
          key = λ p q. let same : record { seen = o; key = y } ≡ p = cc in subst (λ (z : Probed). Rooted h x z.key) same (W.found y e);
          inside = λ p i q s. let same : record { seen = o; key = y } ≡ p = cc in near i (subst (λ (z : Probed). z.seen ≡ Some i) (sym same) s);
          found = λ g u i H q. (record { seen = o; key = y }, refl, hit g u i H q o refl);
          absent = λ g u H q. (record { seen = o; key = y }, refl, miss g u H q o refl, key_is g u H);
        }

      pub probe_seen : (i : Id) → a ≡ Ok (Some i) → i.0 < h.ids → Probes h x ws (Ok (record { seen = Some i; key = y }))
      probe_seen i t near = probe_done (Some i) t (λ j q. let same : i ≡ j = cc in rw (← same) near)

      pub probe_none : (o : Option Id) → a ≡ Ok o → o ≡ None → Probes h x ws (Ok (record { seen = o; key = y }))
      probe_none o t none = probe_done o t (λ j q. absurd (none-some _ (sym none ∙ q)))
