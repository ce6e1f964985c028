-- A rebuild, put together from its steps: on words that hold a graph a rebuild may start from, its answer and the graph it leaves are those of the machine's
-- `Rebuild`. On any words it ends, and leaves alone what every step inside a call leaves alone.
-- Assumes nothing.
use Rattle.std.specs.Prelude.{Ok, Result, true, List, ◌≡◌, ℕ, length}
use Rattle.broken.specs.declared.Broken.{Broken}
use Rattle.broken.specs.Words.{apart, broken, err≢ok}
use Rattle.std.proofs.Common.{◌∙◌, ap, subst, sym}
use Rattle.lists.specs.Tests.{zero_one}
use Rattle.steps.specs.Graph.{Graph}
use Rattle.steps.specs.Machine.{Rebuild, marked}
use Rattle.holds.specs.Holds.{HoldsAt}
use Rattle.holds.specs.Inside.{Inside, Near, inside_then}
use Rattle.layout.specs.View.{View, view}
use Rattle.layout.specs.declared.Head.{Head}
use Rattle.rechilding.specs.All.{RechildsAll}
use Rattle.rechilding.specs.Rechild.{Fit}
use Rattle.taking.specs.Drain.{DrainedTo, Startable}
use Rattle.taking.specs.Enough.{DrainsAll}
use Rattle.tidying.specs.Says.{Tidies}
use Rattle.uniting.specs.Near.{NearIds, inside_near, near_then, view_near}
use Rattle.holds.specs.HoldsLaws.{marked_head}

-- ---- the end of a rebuild

pub record FinishSays (h : Head) (ws : List ℕ) (r : Result Head Broken) (ws' : List ℕ) : Type 0 where
  pub inside : Inside h.n h.m ws ws'
  pub range : (k : Head) → r ≡ Ok k → NearIds (length ws) h k
  pub sound : (g : Graph) (u : ℕ) → HoldsAt h u (view h.n h.m ws) g → Fit g
      → (r ≡ Ok (marked_head h true)) × HoldsAt (marked_head h true) u (view h.n h.m ws') (marked g true)

module _ (h : Head) (ws ws1 : List ℕ) (c : Result Unit Broken) (C : RechildsAll h ws c ws1) where
  pub finish_broken : c ≡ broken → FinishSays h ws broken ws1
  finish_broken e = record {
    inside = C.inside;
    range = λ k f. zero_one cc;
    sound = λ g u H F. apart e (C.sound g u H F).0;
  }

  pub finish_done : (r : Result Head Broken) (ws2 : List ℕ) → Tidies h ws1 r ws2 → FinishSays h ws r ws2
  finish_done r ws2 T = record {
    inside = inside_then C.inside T.inside;
    range = λ k e.
        let is : k ≡ marked_head h true = T.exact k e in
        record {
          near = subst (λ (n : ℕ). Near n h k) C.inside.size (T.range k e);
          ids_is = ap (λ (s : Head). s.ids) is;
          places_is = ap (λ (s : Head). s.places) is;
        };
    sound = λ g u H F. let a = (C.sound g u H F).1 in T.sound g u a.holds a.keys;
  }

-- ---- the whole

-- the words hold the graph that a rebuild of g leaves, and the answer has its yes answers and entries
pub record Rebuilt (u : ℕ) (g : Graph) (v : View) (r : Result DrainedTo Broken) : Type 0 where
  pub head : Head
  pub yeses : ℕ
  pub entries : ℕ
  pub answer : r ≡ Ok (record { head = head; yes = yeses; taken = entries })
  pub graph : Graph
  pub rebuild : Rebuild g yeses entries graph
  pub holds : HoldsAt head u v graph

pub record RebuildSays (h : Head) (ws : List ℕ) (r : Result DrainedTo Broken) (ws' : List ℕ) : Type 0 where
  pub inside : Inside h.n h.m ws ws'
  pub range : (d : DrainedTo) → r ≡ Ok d → NearIds (length ws) h d.head
  pub sound : (g : Graph) (u : ℕ) (us : List (ℕ × ℕ)) → HoldsAt h u (view h.n h.m ws) g → Startable us g → Rebuilt u g (view h.n h.m ws') r

fit : {us : List (ℕ × ℕ)} {g : Graph} → Startable us g → Fit g
fit S = record { kids = S.good.shape.kids_lt; keyed = S.keyed }

module _ (h : Head) (ws ws1 : List ℕ) (q : Result DrainedTo Broken) (D : DrainsAll h ws q ws1) where
  pub rebuild_broken : q ≡ broken → RebuildSays h ws broken ws1
  rebuild_broken e = record {
    inside = D.inside;
    range = λ d f. err≢ok f;
    sound = λ g u us H S. let R = D.sound g u us H S in err≢ok (sym e ∙ R.answer);
  }

  module _ (d : DrainedTo) (e : q ≡ Ok d) where
    abbrev k : Head
    k = d.head

    near : NearIds (length ws) h k
    near = D.range d e

    module _ (ws2 : List ℕ) (r : Result Head Broken) (F : FinishSays d.head ws1 r ws2) where
      inside2 : Inside h.n h.m ws ws2
      inside2 = inside_then D.inside (inside_near near F.inside)

      -- both, on words that hold a graph
      ended : (g : Graph) (u : ℕ) (us : List (ℕ × ℕ)) → HoldsAt h u (view h.n h.m ws) g → Startable us g
          → (r ≡ Ok (marked_head k true)) × (z : Graph) × Rebuild g d.yes d.taken z × HoldsAt (marked_head k true) u (view h.n h.m ws2) z
      ended g u us H S =
          let R = D.sound g u us H S in
          let a = sym e ∙ R.answer in
          let same : ◌≡◌ {A = DrainedTo} (record { head = R.head; yes = R.yeses; taken = R.entries }) d = cc in
          let ek : R.head ≡ k = ap (λ (x : DrainedTo). x.head) same in
          let ey : R.yeses ≡ d.yes = ap (λ (x : DrainedTo). x.yes) same in
          let et : R.entries ≡ d.taken = ap (λ (x : DrainedTo). x.taken) same in
          let K = subst (λ (s : Head). HoldsAt s u (view h.n h.m ws1) R.graph) ek R.holds in
          let a = F.sound R.graph u (subst (λ (v : View). HoldsAt k u v R.graph) (sym (view_near near ws1)) K) (fit R.start) in (
            a.0,
            marked R.graph true,
            subst (λ (n : ℕ). Rebuild g d.yes n (marked R.graph true)) et (subst (λ (n : ℕ). Rebuild g n R.entries (marked R.graph true)) ey R.rebuild),
            subst (λ (v : View). HoldsAt (marked_head k true) u v (marked R.graph true)) (view_near near ws2) a.1,
          )

      pub rebuild_torn : r ≡ broken → RebuildSays h ws broken ws2
      rebuild_torn f = record {
        inside = inside2;
        range = λ s q. err≢ok q;
        sound = λ g u us H S. let p = (ended g u us H S).0 in zero_one cc;
      }

      abbrev pub ending : Head → DrainedTo
      ending s = record { head = s; yes = d.yes; taken = d.taken }

      pub rebuild_done : (s : Head) → r ≡ Ok s → RebuildSays h ws (Ok (ending s)) ws2
      rebuild_done s f = record {
        inside = inside2;
        range = λ x q.
            let z : ending s ≡ x = cc in
            subst (λ (y : DrainedTo). NearIds (length ws) h y.head) z (near_then near (subst (λ (n : ℕ). NearIds n k s) D.inside.size (F.range s f)));
        sound = λ g u us H S.
            let p = ended g u us H S in
            let o = p.0 in
            let z : s ≡ marked_head k true = cc in
            record {
              head = marked_head k true;
              yeses = d.yes;
              entries = d.taken;
              answer = ap (λ (x : Head). Ok (ending x)) z;
              graph = p.1;
              rebuild = p.2;
              holds = p.3;
            };
      }
