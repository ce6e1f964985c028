-- The ways out of `give`.
-- Assumes nothing.
use Rattle.std.specs.Prelude.{Err, None, Ok, Option, Result, Some, List, ◌≡◌, refl, ℕ}
use Rattle.broken.specs.declared.Broken.{Broken}
use Rattle.broken.specs.Words.{broken}
use Rattle.std.proofs.Common.{inl, inr, ◌∙◌, ap, subst, sym, arith}
use Rattle.lists.specs.Tests.{zero_one}
use Rattle.language.specs.Fitting.{term}
use Rattle.language.specs.Term.{Term}
use Rattle.language.specs.declared.Id.{Id}
use Rattle.language.specs.declared.fit.Fit.{Fit}
use Rattle.steps.specs.Graph.{Graph, canon}
use Rattle.adding.specs.Says.{Full, Gives, New, Old, Probes, Room, kept_for}
use Rattle.adding.specs.declared.GiveError.TheVariants.{BrokenWords, NoRoom}
use Rattle.adding.specs.declared.Probed.{Probed}
use Rattle.growing.specs.Grow.{Addable, Grows}
use Rattle.holds.specs.Holds.{HoldsAt}
use Rattle.holds.specs.Inside.{inside_same}
use Rattle.layout.specs.View.{view}
use Rattle.layout.specs.declared.Head.{Head}
use Rattle.std.proofs.lemmas.Option.{none-some}

full_room : (h : Head) (x : Term) → Full h x → Room h x → ⊥
full_room h x (inl a) r = omega arith
full_room h x (inr a) r = omega arith

module _ (h : Head) (x : Fit) (ws : List ℕ) where
  module _ (r : Result Probed Broken) (P : Probes h x ws r) where
    -- no graph has these words
    pub no_graph : r ≡ broken → (g : Graph) → HoldsAt h h.places (view h.n h.m ws) g → (o : Option ℕ) → kept_for g (term x) ≡ o → ⊥
    no_graph e g H (Some i) q = let f = (P.found g h.places i H q).1 in zero_one cc
    no_graph e g H None q = let f = (P.absent g h.places H q).1 in zero_one cc

    pub give_lost : r ≡ broken → Gives h (term x) ws (Err BrokenWords) ws
    give_lost e = record {
      inside = inside_same h.n h.m ws;
      old = λ i k q. zero_one cc;
      full = λ q. zero_one cc;
      new = λ i k q. zero_one cc;
      found = λ g i H q. absurd (no_graph e g H (Some i) q);
      shut = λ g H q f. absurd (no_graph e g H None q);
      grown = λ g H q f. absurd (no_graph e g H None q);
    }

    module _ (p : Probed) (e : r ≡ Ok p) where
      -- what was seen, on words that hold a graph
      pub hit : (g : Graph) (i : ℕ) → HoldsAt h h.places (view h.n h.m ws) g → kept_for g (term x) ≡ Some i → p.seen ≡ Some (record { 0 = i })
      hit g i H q =
          let w = P.found g h.places i H q in
          let same : w.0 ≡ p = cc (e, w.1) in
          subst (λ (z : Probed). z.seen ≡ Some (record { 0 = i })) same w.2

      pub miss : (g : Graph) → HoldsAt h h.places (view h.n h.m ws) g → kept_for g (term x) ≡ None → (p.seen ≡ None) × (term p.key ≡ canon g.roots (term x))
      miss g H q =
          let w = P.absent g h.places H q in
          let same : w.0 ≡ p = cc (e, w.1) in
          subst (λ (z : Probed). (z.seen ≡ None) × (term z.key ≡ canon g.roots (term x))) same (w.2, w.3)

      pub give_old : (y : Id) → p.seen ≡ Some y → Gives h (term x) ws (Ok (Old y h)) ws
      give_old y s = record {
        inside = inside_same h.n h.m ws;
        old = λ i k q. let z : y ≡ i = cc in (P.inside p i e (s ∙ ap Some z), cc, refl);
        full = λ q. zero_one cc;
        new = λ i k q. zero_one cc;
        found = λ g i H q. let z : y ≡ record { 0 = i } = cc (s, hit g i H q) in ap (λ (i : Id). Ok (Old i h)) z;
        shut = λ g H q f. absurd (none-some _ (sym (miss g H q).0 ∙ s));
        grown = λ g H q f. absurd (none-some _ (sym (miss g H q).0 ∙ s));
      }

      module _ (s : p.seen ≡ None) where
        not_found : (g : Graph) (i : ℕ) → HoldsAt h h.places (view h.n h.m ws) g → kept_for g (term x) ≡ Some i → ⊥
        not_found g i H q = let f = hit g i H q in zero_one cc

        pub give_full : Full h (term x) → Gives h (term x) ws (Err NoRoom) ws
        give_full f = record {
          inside = inside_same h.n h.m ws;
          old = λ i k q. zero_one cc;
          full = λ q. (f, refl);
          new = λ i k q. zero_one cc;
          found = λ g i H q. absurd (not_found g i H q);
          shut = λ g H q _. refl;
          grown = λ g H q r. absurd (full_room h (term x) f r);
        }

        module _ (room : Room h (term x)) (ws' : List ℕ) (t : Result Head Broken) (G : Grows h (term x) (term p.key) t ws ws') where
          addable : (g : Graph) → HoldsAt h h.places (view h.n h.m ws) g → kept_for g (term x) ≡ None → Addable h (term x) (term p.key) (view h.n h.m ws) g
          addable g H q = let k = (miss g H q).1 in record { holds = H; key = k; new = rw k q }

          pub give_new : (k : Head) → t ≡ Ok k → Gives h (term x) ws (Ok (New (record { 0 = h.ids }) k)) ws'
          give_new k b = record {
            inside = G.inside;
            old = λ i j q. zero_one cc;
            full = λ q. zero_one cc;
            new = λ i j q.
                let z : k ≡ j = cc in
                let y : record { 0 = h.ids } ≡ i = cc in
                let a = G.range j (b ∙ ap Ok z) in
                (sym (ap (λ (i : Id). i.0) y), a.0, a.1);
            found = λ g i H q. absurd (not_found g i H q);
            shut = λ g H q f. absurd (full_room h (term x) f room);
            grown = λ g H q _.
                let w = G.sound g (addable g H q) in
                let z : k ≡ w.0 = cc (b, w.1) in
                (w.0, ap (λ (j : Head). Ok (New (record { 0 = h.ids }) j)) z, w.2);
          }
