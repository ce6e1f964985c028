-- The three demands, in their order, of words that runs of calls can have left (`Reached`). Of such words `Leads cs g` names the graph g that the definitions' own steps
-- for the accepted calls cs lead to: there is one (`reached`), and only one (`leads_one`). The records are those of specs, Demands.
-- Assumes nothing.
use Rattle.egraph.specs.declared.Refusal.{Refusal}
use Rattle.language.specs.declared.Id.{Id}
use Rattle.std.specs.Prelude.{Result, Bool, true, List, [], ◌++◌, ◌∷◌, ◌↔◌, ◌≡◌, ◌<◌, ℕ, length}
use Rattle.std.proofs.Common.{◌∙◌, ap, subst, sym, arith}
use Rattle.language.specs.Term.{Term}
use Rattle.steps.specs.Forced.{Forced}
use Rattle.steps.specs.Graph.{Graph}
use Rattle.steps.specs.Machine.{Rebuild}
use Rattle.closure.specs.Closed.{again}
use Rattle.closure.specs.Ends.{ends}
use Rattle.egraph.specs.Answers.{count_says, id_says, flag, flag_says, yes_with}
use Rattle.egraph.specs.Reads.{CleanSays, FindSays}
use Rattle.egraph.specs.Rebuilds.{RebuildSays}
use Rattle.theorems.specs.Course.{words_again, words_demand_3, words_sound}
use Rattle.theorems.specs.Demands.{Answers, Refuses, SameAnswers, answers, refuses, same_answers}
use Rattle.theorems.specs.Held
use Rattle.theorems.specs.Reached.{Call, Leads, Reached, did_add, did_rebuild, did_union, nodes_of, rebuilt, unions_of}
use Rattle.theorems.proofs.Behind.{behind, reached}

-- ---- demand 1. Bad limits, short tables, unknown ids, too many children, no room and a graph not rebuilt are refused by number. A refused call changes no word of a
-- ---- graph that these calls made.

pub demand_1 : {n m : ℕ} {cs : List Call} {ws : List ℕ} {g : Graph} → Reached n m cs ws → Leads cs g → Refuses n m g ws
demand_1 {n} {m} {cs} {ws} {g} R L = let B = behind R L in refuses n m (unions_of cs) ws g B.run (B.n_is, B.m_is)

-- ---- demand 2. Roots, yes-or-no answers, rebuild counts, class contents and sizes equal the Rust's on every input in the range.

-- of the graph that the definitions' steps for the same accepted calls lead to
pub demand_2 : {n m : ℕ} {cs : List Call} {ws : List ℕ} {g : Graph} → Reached n m cs ws → Leads cs g → Answers g ws
demand_2 {cs = cs} {ws = ws} {g = g} R L = answers (unions_of cs) ws g (behind R L).run

-- ---- demand 3. From fresh, after any accepted adds, unions and rebuilds: when a rebuild has ended and no node or union has come since, two ids have one root exactly when
-- ---- the requested unions force them equal (equality's laws, and congruence of nodes alike in operator, payload and child count).

pub demand_3 : {n m : ℕ} {cs : List Call} {ws : List ℕ} → Reached n m cs ws → rebuilt cs ≡ true → (i j : ℕ) → i < length (nodes_of cs) → j < length (nodes_of cs)
    → (r r' : Result Id Refusal) → FindSays ws i r → FindSays ws j r' → (id_says r ≡ id_says r') ↔ Forced (nodes_of cs) (unions_of cs) i j
demand_3 {cs = cs} {ws = ws} R e i j hi hj r r' s t =
    let l = reached R in
    let B = l.2 in
    subst (λ (ns : List Term). (id_says r ≡ id_says r') ↔ Forced ns (unions_of cs) i j) B.nodes
    (words_demand_3 (unions_of cs) ws l.0 B.run (B.clean ∙ e) i j r r' s t (omega (arith, ap length B.nodes)) (omega (arith, ap length B.nodes)))

-- ---- demand 3, on. Before a rebuild, one root still means forced equal.

pub demand_3_before : {n m : ℕ} {cs : List Call} {ws : List ℕ} → Reached n m cs ws → (i j : ℕ) → i < length (nodes_of cs) → j < length (nodes_of cs)
    → (r r' : Result Id Refusal) → FindSays ws i r → FindSays ws j r' → id_says r ≡ id_says r' → Forced (nodes_of cs) (unions_of cs) i j
demand_3_before {cs = cs} {ws = ws} R i j hi hj r r' s t q =
    let l = reached R in
    let B = l.2 in
    subst (λ (ns : List Term). Forced ns (unions_of cs) i j) B.nodes
    (words_sound (unions_of cs) ws l.0 B.run i j r r' s t (omega (arith, ap length B.nodes)) (omega (arith, ap length B.nodes)) q)

-- and `clean` says which of the two it is
pub demand_3_clean : {n m : ℕ} {cs : List Call} {ws : List ℕ} → Reached n m cs ws → (r : Result Bool Refusal) → CleanSays ws r → flag_says r ≡ yes_with (flag (rebuilt cs))
demand_3_clean {cs = cs} {ws = ws} R r s = let l = reached R in Held.clean_held (unions_of cs) ws l.0 l.2.run r s ∙ ap (λ (b : Bool). yes_with (flag b)) l.2.clean

-- ---- demand 3, on. Another rebuild then returns 0 and alters no answer.

-- two runs under the same limits whose accepted calls lead to one graph, as the same calls do, are answered alike by every call
pub one_run : {n m : ℕ} {cs ds : List Call} {ws ws' : List ℕ} (g : Graph) → Reached n m cs ws → Reached n m ds ws' → Leads cs g → Leads ds g → SameAnswers ws ws'
one_run {cs = cs} {ds = ds} {ws = ws} {ws' = ws'} g R S L K =
    let A = behind R L in
    let B = behind S K in
    same_answers (unions_of cs) (unions_of ds) ws ws' g A.run B.run (B.n_is ∙ sym A.n_is, B.m_is ∙ sym A.m_is)

-- the definitions' steps for the calls ds, from a graph that two runs lead to
leads_on : (ds cs cs' : List Call) → ((g : Graph) → Leads cs g → Leads cs' g) → (h : Graph) → Leads (ds ++ cs) h → Leads (ds ++ cs') h
leads_on [] cs cs' f h l = f h l
leads_on (did_add x i ∷ ds) cs cs' f h l = (l.0, leads_on ds cs cs' f l.0 l.1, l.2)
leads_on (did_union i j ∷ ds) cs cs' f h l = (l.0, leads_on ds cs cs' f l.0 l.1, l.2)
leads_on (did_rebuild ∷ ds) cs cs' f h l = (l.0, leads_on ds cs cs' f l.0 l.1, l.2)

module _ {n m : ℕ} {cs : List Call} {ws : List ℕ} (R : Reached n m cs ws) (e : rebuilt cs ≡ true) where
  pub demand_3_again : (r : Result ℕ Refusal) (ws' : List ℕ) → RebuildSays ws r ws' → count_says r ≡ yes_with (0 ∷ [])
  demand_3_again r ws' s = let l = reached R in (words_again (unions_of cs) ws l.0 l.2.run (l.2.clean ∙ e) r ws' s).0

  -- whatever calls ds are accepted later, none at first: with or without another rebuild before them every call is answered alike
  pub demand_3_alters_nothing : (ds : List Call) (w w' : List ℕ) → Reached n m (ds ++ cs) w → Reached n m (ds ++ (did_rebuild ∷ cs)) w' → SameAnswers w w'
  demand_3_alters_nothing ds w w' S T = let l = reached S in one_run l.0 S T l.1 (leads_on ds cs (did_rebuild ∷ cs) once_more l.0 l.1)
    where
      once_more : (g : Graph) → Leads cs g → Leads (did_rebuild ∷ cs) g
      once_more g L =
          let B = behind R L in
          let E = ends B.run.made in
          (g, L, (E.0, E.1, subst (λ (z : Graph). Rebuild g E.0 E.1 z) (again B.run.made (B.clean ∙ e) E.3).2 E.3))
