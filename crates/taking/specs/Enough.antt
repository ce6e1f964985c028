-- How many entries a rebuild takes, at most: a number that the head tells, so that the loop ends on any words and is never cut short on words that hold a graph.
-- Assumes nothing.
use Rattle.std.specs.Prelude.{Ok, Result, true, List, [], ◌≡◌, refl, ◌*◌, ◌+◌, ◌<◌, ◌≤◌, ℕ, length}
use Rattle.broken.specs.declared.Broken.{Broken}
use Rattle.std.proofs.Common.{subst, mul-le-mul, mul-le-mul_left, arith}
use Rattle.steps.specs.Classes.{number_of_classes}
use Rattle.steps.specs.Graph.{Graph, root}
use Rattle.steps.specs.Machine.{Rebuild, done, marked, more}
use Rattle.closure.specs.Ends.{measure, rebuild_ends, step_measure}
use Rattle.closure.specs.Invariant.{Good, Same}
use Rattle.closure.specs.Sums.{sizes}
use Rattle.closure.specs.Taking.{step_good}
use Rattle.holds.specs.Holds.{HoldsAt}
use Rattle.holds.specs.Inside.{Inside}
use Rattle.layout.specs.View.{View, view}
use Rattle.layout.specs.declared.Head.{Head}
use Rattle.taking.specs.Drain.{DrainSays, DrainedTo, Emptied, Startable}
use Rattle.taking.specs.Sizes.{parents_pending, parents_size}
use Rattle.uniting.specs.Near.{NearIds}

-- an entry of pending stands for as many ids as there are places, or for one; and each merge pushes no more than all places
abbrev pub enough : Head → ℕ
enough h = h.depth * (h.places + 1) + h.classes * h.places + 1

rebuild_measure : (us : List (ℕ × ℕ)) {g z : Graph} {y t : ℕ} → Rebuild g y t z → Good Same us g → t ≤ measure g
rebuild_measure us (done e) G = omega arith
rebuild_measure us (more {g = g} {t = t} ne R) G = omega (arith, rebuild_measure us R (step_good us g g.pending refl G), step_measure us g g.pending refl ne G)

classes_are : {h : Head} {u : ℕ} {v : View} {g : Graph} → HoldsAt h u v g → h.classes ≡ number_of_classes g
unfolding root
classes_are {h} {u} {v} {g} H = rw (← H.ids_are) H.forest.count

measure_low : {h : Head} {u : ℕ} {v : View} {g : Graph} → HoldsAt h u v g → measure g < enough h
measure_low {h} {u} {v} {g} H =
    let p : length g.pending ≤ h.depth * (u + 1) = parents_pending H.parents in
    let l : u + 1 ≤ h.places + 1 = omega (arith, H.linked) in
    let a : h.depth * (u + 1) ≤ h.depth * (h.places + 1) = mul-le-mul_left h.depth l in
    let c : number_of_classes g ≤ h.classes = omega (arith, classes_are H) in
    let s : sizes g.parents ≤ h.places = omega (arith, parents_size H.parents, H.linked) in
    let b : number_of_classes g * sizes g.parents ≤ h.classes * h.places = mul-le-mul c s in
    omega arith

-- ---- what `drain` promises

-- the graph g is rebuilt, but for the mark
pub record Rebuilds (us : List (ℕ × ℕ)) (u : ℕ) (g : Graph) (v : View) (r : Result DrainedTo Broken) : Type 0 where
  pub head : Head
  pub yeses : ℕ
  pub entries : ℕ
  pub answer : r ≡ Ok (record { head = head; yes = yeses; taken = entries })
  pub graph : Graph
  pub rebuild : Rebuild g yeses entries (marked graph true)
  pub start : Startable us graph
  pub empty : graph.pending ≡ []
  pub holds : HoldsAt head u v graph

pub record DrainsAll (h : Head) (ws : List ℕ) (r : Result DrainedTo Broken) (ws' : List ℕ) : Type 0 where
  pub inside : Inside h.n h.m ws ws'
  pub range : (d : DrainedTo) → r ≡ Ok d → NearIds (length ws) h d.head
  pub sound : (g : Graph) (u : ℕ) (us : List (ℕ × ℕ)) → HoldsAt h u (view h.n h.m ws) g → Startable us g → Rebuilds us u g (view h.n h.m ws') r

rebuilds : {us : List (ℕ × ℕ)} {u : ℕ} {g z : Graph} {y t : ℕ} {v : View} {r : Result DrainedTo Broken} → Rebuild g y t z → Emptied us u z y t v r → Rebuilds us u g v r
rebuilds {us} {u} {g} {z} {y} {t} {v} {r} R E = record {
  head = E.head;
  yeses = y;
  entries = t;
  answer = E.answer;
  graph = E.graph;
  rebuild = subst (λ (x : Graph). Rebuild g y t x) E.rebuilt R;
  start = E.start;
  empty = E.empty;
  holds = E.holds;
}

pub drains_all : (h : Head) (ws : List ℕ) (r : Result DrainedTo Broken) (ws' : List ℕ) (fuel : ℕ) → fuel ≡ enough h → DrainSays h fuel ws r ws' → DrainsAll h ws r ws'
drains_all h ws r ws' fuel e D = record {
  inside = D.inside;
  range = D.range;
  sound = λ g u us H S.
      let b = measure_low H in
      let q = rebuild_ends S.good in
      let l = rebuild_measure us q.3 S.good in
      rebuilds q.3 (D.sound g u us H S q.0 q.1 q.2 q.3 (omega arith));
}
