-- The passes until one takes nothing: `find_costs` promises that the scratch part then holds the table in the end (`table AstSize g` of price), and that it never runs
-- out of rounds on words that hold a clean graph.
-- Assumes nothing.
use Rattle.std.specs.Prelude.{Ok, Result, true, List, [], ◌≡◌, refl, ◌*◌, ◌+◌, ◌<◌, ◌≤◌, suc, ℕ, length, Bool, false}
use Rattle.broken.specs.declared.Broken.{Broken}
use Rattle.broken.specs.Words.{apart, broken, err≢ok}
use Rattle.std.proofs.Common.{◌∙◌, ap, sym, arith}
use Rattle.std.proofs.Math.Decide.{ℕ_discrete}
use Rattle.lists.specs.Keeps.{length_filter, length_upto, upto}
use Rattle.steps.specs.Classes.{class_nodes, class_roots}
use Rattle.steps.specs.Graph.{Graph, ids, root}
use Rattle.egraph.specs.ClassReads.{AtRest, NodeCount, classed_ids, classed_lent, classed_listed}
use Rattle.layout.specs.Idle.{lent_same}
use Rattle.layout.specs.View.{view}
use Rattle.layout.specs.declared.Head.{Head}
use Rattle.price.specs.Ends.{end_in_time}
use Rattle.price.specs.Extract.{table}
use Rattle.price.specs.Pass.{Passes as Run, Table, done, more, pass}
use Rattle.price.specs.Size.{AstSize}
use Rattle.pricing.specs.Entries.{Prices, prices_none}
use Rattle.pricing.specs.Pass.{Passes, took_grown}
use Rattle.pricing.specs.Turn.{Scratched, Took, scratched_then}

pub record FindsCosts (h : Head) (ws : List ℕ) (r : Result Unit Broken) (ws' : List ℕ) : Type 0 where
  pub only : Scratched h.n h.m ws ws'
  pub law : (g : Graph) → AtRest h (view h.n h.m ws) g → (r ≡ Ok tt) × Prices g h.n (view h.n h.m ws').scratch (table AstSize g)

-- the scratch words ss hold a table from which the passes still run `left` times, i of them being done
pub record OnWay (g : Graph) (n i : ℕ) (ss : List ℕ) : Type 0 where
  pub now : Table ℕ
  pub prices : Prices g n ss now
  pub left : ℕ
  pub bound : left + i ≤ suc (ids g)
  pub run : Run AstSize (class_nodes g) (class_roots g) left now (table AstSize g)

pub record Finding (h : Head) (i : ℕ) (ws ws' : List ℕ) : Type 0 where
  pub only : Scratched h.n h.m ws ws'
  pub law : (g : Graph) → AtRest h (view h.n h.m ws) g → OnWay g h.n i (view h.n h.m ws').scratch

module _ (h : Head) (ws : List ℕ) where
  -- there is no number of nodes: no clean graph's words
  pub costs_long : (r : Result ℕ Broken) → NodeCount h (view h.n h.m ws) r → r ≡ broken → FindsCosts h ws broken ws
  costs_long r T e = record { only = lent_same ws (λ i l. refl); law = λ g R. apart e (T.sound g R.classes) }

  pub finding_start : Finding h 0 ws ws
  finding_start = record {
    only = lent_same ws (λ i l. refl);
    law = λ g R. first g (rw R.clear (prices_none g h.n (6 * h.n))) (end_in_time AstSize (class_nodes g) (class_roots g) (classed_listed R.classes));
  }
    where
      first : (g : Graph) → Prices g h.n (view h.n h.m ws).scratch []
          → (n : ℕ) × (n ≤ suc (length (class_roots g))) × Run AstSize (class_nodes g) (class_roots g) n [] (table AstSize g)
          → OnWay g h.n 0 (view h.n h.m ws).scratch
      first g P (n, le, R) = record {
        now = [];
        prices = P;
        left = n;
        bound = omega (arith, length_filter (λ (i : ℕ). ℕ_discrete (root g.roots i) i) (upto (ids g)), length_upto (ids g));
        run = R;
      }

  module _ (i : ℕ) (ws1 ws2 : List ℕ) (A : Finding h i ws ws1) (r : Result Bool Broken) (B : Passes h ws1 r ws2) where
    -- the next pass, on the way to the table of g
    took : (g : Graph) → AtRest h (view h.n h.m ws) g → (W : OnWay g h.n i (view h.n h.m ws1).scratch)
        → Took g h.n (view h.n h.m ws2).scratch W.now (pass AstSize (class_nodes g) (class_roots g) W.now) r
    took g R W = B.law g W.now (classed_lent A.only R.classes) W.prices

    pub costs_broken : r ≡ broken → FindsCosts h ws broken ws2
    costs_broken e = record {
      only = scratched_then A.only B.only;
      law = λ g R. let T = took g R (A.law g R) in err≢ok (sym e ∙ T.is);
    }

    -- nothing taken: the table is as it was, and the passes end there
    pub costs_done : r ≡ Ok false → FindsCosts h ws (Ok tt) ws2
    costs_done e = record {
      only = scratched_then A.only B.only;
      law = λ g R. (refl, last g (A.law g R) (took g R (A.law g R)));
    }
      where
        ended : (g : Graph) {n : ℕ} {t u : Table ℕ} → Run AstSize (class_nodes g) (class_roots g) n t u → pass AstSize (class_nodes g) (class_roots g) t ≡ t → u ≡ t
        ended g (done q) s = refl
        ended g (more q R) s = absurd (q s)

        last : (g : Graph) (W : OnWay g h.n i (view h.n h.m ws1).scratch)
            → Took g h.n (view h.n h.m ws2).scratch W.now (pass AstSize (class_nodes g) (class_roots g) W.now) r
            → Prices g h.n (view h.n h.m ws2).scratch (table AstSize g)
        last g W T =
            let s = took_grown e T in
            rw (ended g W.run s, ← s) T.prices

    pub finding_more : r ≡ Ok true → Finding h (i + 1) ws ws2
    finding_more e = record {
      only = scratched_then A.only B.only;
      law = λ g R. let W = A.law g R in next g W.now W.left W.bound W.run (took g R W);
    }
      where
        next : (g : Graph) (t : Table ℕ) (left : ℕ) → left + i ≤ suc (ids g) → Run AstSize (class_nodes g) (class_roots g) left t (table AstSize g)
            → Took g h.n (view h.n h.m ws2).scratch t (pass AstSize (class_nodes g) (class_roots g) t) r
            → OnWay g h.n (i + 1) (view h.n h.m ws2).scratch
        next g t left b R T = go R b refl
          where
            longer : pass AstSize (class_nodes g) (class_roots g) t ≡ t → ⊥
            longer q = omega (arith, took_grown e T, ap length q)

            go : {n : ℕ} {u : Table ℕ} → Run AstSize (class_nodes g) (class_roots g) n t u → n + i ≤ suc (ids g) → u ≡ table AstSize g → OnWay g h.n (i + 1) (view h.n h.m ws2).scratch
            go (done q) b z = absurd (longer q)
            go (more {n = m} q S) b z = record {
              now = pass AstSize (class_nodes g) (class_roots g) t;
              prices = T.prices;
              left = m;
              bound = omega arith;
              run = rw (← z) S;
            }

  -- no rounds left: not on words that hold a clean graph
  pub costs_out : (i : ℕ) (ws' : List ℕ) → h.ids < i → Finding h i ws ws' → FindsCosts h ws broken ws'
  costs_out i ws' l A = record { only = A.only; law = λ g R. let W = A.law g R in absurd (some g W.run (omega (arith, W.bound, classed_ids R.classes))) }
    where
      some : (g : Graph) {n : ℕ} {t u : Table ℕ} → Run AstSize (class_nodes g) (class_roots g) n t u → n ≤ 0 → ⊥
      some g (done q) z = omega arith
      some g (more q R) z = omega arith
