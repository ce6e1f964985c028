-- The sentence that the whole rests on: behind words that a run of calls can have left stands a graph. It is the one that the definitions' steps for the accepted calls
-- lead to, the words hold it, calls made it with the unions asked for, its nodes are those that got an id, and it is clean where a rebuild has ended and no node or union
-- has come since. Here is what each call does to it; `reached` and `behind` of proofs, Behind, are of whole runs.
-- Assumes nothing.
use Rattle.language.specs.declared.Id.{Id}
use Rattle.std.specs.Prelude.{Err, Ok, Result, Bool, false, true, List, [], ◌++◌, ◌∷◌, ◌≢◌, ◌⊎◌, ◌≡◌, refl, ◌+◌, ◌<◌, ◌≤◌, ℕ, length, Option, None, Some}
use Rattle.std.proofs.Common.{inl, inr, ◌∙◌, ap, subst, sym, arith}
use Rattle.std.proofs.Math.Decide.{dec_lt, ℕ_discrete}
use Rattle.lists.specs.Reads.{at}
use Rattle.lists.specs.Tests.{lt_or, when, when_no, when_yes}
use Rattle.language.specs.Struct.{node_of}
use Rattle.language.specs.Term.{Term}
use Rattle.language.specs.declared.Node.{Node}
use Rattle.steps.specs.Forced.{Made}
use Rattle.steps.specs.Graph.{Graph, ids, root, uses}
use Rattle.steps.specs.Machine
use Rattle.steps.specs.Machine.{Rebuild, close, done, fresh, grow, merge, more, step, taken, union_by}
use Rattle.closure.specs.Closed.{grow_unclean, one_outcome, rebuilt_clean, union_unclean}
use Rattle.closure.specs.Ends.{ends}
use Rattle.closure.specs.Kept.{made_good}
use Rattle.adding.specs.Says.{kept_for}
use Rattle.egraph.specs.Adds.{AddingSays, add_new, add_old, uncanonical_new, uncanonical_old}
use Rattle.egraph.specs.Answers.{Answer, id_says, count_says, flag, head_of, never, no_by, number_of, flag_says, yes_with}
use Rattle.egraph.specs.Rebuilds.{RebuildSays}
use Rattle.egraph.specs.Setup.{Limits, SetupSays}
use Rattle.egraph.specs.Unions.{UnionSays}
use Rattle.egraph.specs.declared.Refusal.{Refusal}
use Rattle.egraph.specs.declared.Refusal.TheVariants.{BadHead, BadLimits, BrokenWords, NoRoom, NotRebuilt, TooFewWords, TooLong, TooManyChildren, UnknownId}
use Rattle.layout.specs.Cut.{need}
use Rattle.layout.specs.declared.Head.{Head}
use Rattle.rows.specs.Rows
use Rattle.theorems.specs.Course.{Run, run_setup}
use Rattle.theorems.specs.Held.{Goes, Refused, adding_ends, rebuild_held, union_ends}
use Rattle.theorems.specs.Outcomes.{limits_or}
use Rattle.theorems.specs.Reached.{Call, Leads, after_add, after_rebuild, after_union, child_places, did_add, did_rebuild, did_union, nodes_of, rebuilt, unions_of}

pub record Behind (n m : ℕ) (cs : List Call) (ws : List ℕ) (g : Graph) : Type 0 where
  pub run : Run (unions_of cs) ws g
  pub n_is : (head_of ws).n ≡ n
  pub m_is : (head_of ws).m ≡ m
  pub nodes : g.nodes ≡ nodes_of cs
  pub clean : g.clean ≡ rebuilt cs

-- the places in use, as the head has them
places_sum : (ts : List Term) → Rows.taken ts (length ts) ≡ child_places ts
places_sum [] = refl
places_sum (t ∷ ts) = ap (λ (k : ℕ). length t.kids + k) (places_sum ts)

pub places_are : {us : List (ℕ × ℕ)} {ws : List ℕ} {g : Graph} → Run us ws g → (head_of ws).places ≡ child_places g.nodes
places_are {g = g} C = C.holds.at_rest.places_are ∙ places_sum g.nodes

-- ---- the accepted calls lead to one graph

pub leads_one : (cs : List Call) (g h : Graph) → Leads cs g → Leads cs h → g ≡ h
leads_one [] g h l k = l ∙ sym k
leads_one (did_add x i ∷ cs) g h l k = l.2 ∙ ap (λ (z : Graph). (Machine.add z x).graph) (leads_one cs l.0 k.0 l.1 k.1) ∙ sym k.2
leads_one (did_union i j ∷ cs) g h l k = l.2 ∙ ap (λ (z : Graph). (Machine.union z i j).graph) (leads_one cs l.0 k.0 l.1 k.1) ∙ sym k.2
leads_one (did_rebuild ∷ cs) g h l k =
    let e = leads_one cs l.0 k.0 l.1 k.1 in
    (one_outcome (subst (λ (z : Graph). Rebuild z l.2.0 l.2.1 g) e l.2.2) k.2.2).2

-- ---- unions and rebuilds store no node

union_by_nodes : (g : Graph) (a b : ℕ) (d : Dec (a ≡ b)) (e : Dec (length (uses g.parents a) < length (uses g.parents b))) → (union_by g a b d e).graph.nodes ≡ g.nodes
unfolding union_by merge
union_by_nodes g a b (yes p) e = refl
union_by_nodes g a b (no p) (no q) = refl
union_by_nodes g a b (no p) (yes q) = refl

union_nodes : (g : Graph) (i j : ℕ) → (Machine.union g i j).graph.nodes ≡ g.nodes
unfolding Machine.union
union_nodes g i j =
    let a = root g.roots i in let b = root g.roots j in
    union_by_nodes g a b (ℕ_discrete a b) (dec_lt (length (uses g.parents a)) (length (uses g.parents b)))

close_nodes : (g : Graph) (o : Option ℕ) (i : ℕ) → (close g o i).graph.nodes ≡ g.nodes
unfolding close
close_nodes g None i = refl
close_nodes g (Some k) i = union_nodes g k i

step_nodes : (g : Graph) (p : List ℕ) → (step g p).graph.nodes ≡ g.nodes
unfolding step
step_nodes g [] = refl
step_nodes g (i ∷ rest) = close_nodes (taken g i rest) _ i

rebuild_nodes : {g h : Graph} {y t : ℕ} → Rebuild g y t h → h.nodes ≡ g.nodes
rebuild_nodes (done e) = refl
rebuild_nodes (more {g = g} n r) = rebuild_nodes r ∙ step_nodes g g.pending

-- ---- an add of a node that the table has, and of another one

add_same : (g : Graph) (x : Term) (i : ℕ) → kept_for g x ≡ Some i → (Machine.add g x).graph ≡ g
unfolding Machine.add Machine.add_uncanonical Machine.add_by
add_same g x i e = rw e refl

add_grows : (g : Graph) (x : Term) → kept_for g x ≡ None → (Machine.add g x).graph ≡ grow g x
unfolding Machine.add Machine.add_uncanonical Machine.add_by
add_grows g x e = rw e refl

grow_nodes : (g : Graph) (x : Term) → (grow g x).nodes ≡ g.nodes ++ (x ∷ [])
unfolding grow
grow_nodes g x = refl

-- what is answered for a node that was there is an id, and for a new one the next
pub record Ids (g : Graph) (x : Term) (id : ℕ) : Type 0 where
  pub old : (i : ℕ) → kept_for g x ≡ Some i → id < ids g
  pub new : kept_for g x ≡ None → id ≡ ids g

module _ {us : List (ℕ × ℕ)} {g : Graph} (M : Made us g) (x : Term) where
  pub uncanonical_ids : Ids g x (Machine.add_uncanonical g x).id
  uncanonical_ids = record {
    old = λ i e. rw (uncanonical_old g x i e) ((made_good M).sound.memo_lt _ i e);
    new = λ e. uncanonical_new g x e;
  }

  pub add_ids : Ids g x (Machine.add g x).id
  add_ids = record {
    old = λ i e. rw (add_old g x i e) ((made_good M).shape.root_lt i ((made_good M).sound.memo_lt _ i e));
    new = λ e. add_new g x (made_good M).shape.rl e;
  }

-- ---- the graph behind the words

abbrev pub Led : ℕ → ℕ → List Call → List ℕ → Type 0
Led n m cs ws = (g : Graph) × Leads cs g × Behind n m cs ws g

-- a refused call: the words are as they were
pub stays : {n m : ℕ} {cs : List Call} {ws ws' : List ℕ} → Led n m cs ws → ws' ≡ ws → Led n m cs ws'
stays {n} {m} {cs} l e = subst (Led n m cs) (sym e) l

-- ---- setup

-- success is no refusal
not_no : {vs : List ℕ} {k : ℕ} → ◌≡◌ {A = Answer} (yes_with vs) (no_by k) → 0 < k → ⊥
not_no e p = let z = ap (λ (a : Answer). a.number) e in omega arith

pub led_setup : (n m : ℕ) (ws ws' : List ℕ) → SetupSays ws n m (Ok tt) ws' → Led n m [] ws'
led_setup n m ws ws' s = go (limits_or n m) (lt_or (length ws) (need n m))
  where
    go : (Limits n m → ⊥) ⊎ Limits n m → (length ws < need n m) ⊎ (need n m ≤ length ws) → Led n m [] ws'
    go (inl b) d = absurd (not_no (s.no b).0 (omega arith))
    go (inr l) (inl b) = absurd (not_no ((s.on l).no b).0 (omega arith))
    go (inr l) (inr h) =
        let o = (s.on l).on h in (
          fresh,
          refl,
          record {
            run = run_setup ws n m (Ok tt) ws' s l h;
            n_is = ap (λ (k : Head). k.n) o.limits;
            m_is = ap (λ (k : Head). k.m) o.limits;
            nodes = refl;
            clean = refl;
          },
        )

some_number : (q : Refusal) → 0 < number_of q
some_number BadLimits = omega arith
some_number TooFewWords = omega arith
some_number BadHead = omega arith
some_number UnknownId = omega arith
some_number TooManyChildren = omega arith
some_number NoRoom = omega arith
some_number NotRebuilt = omega arith
some_number TooLong = omega arith
some_number BrokenWords = omega arith

pub setup_stays : (n m : ℕ) (q : Refusal) (ws ws' : List ℕ) → SetupSays ws n m (Err q) ws' → ws' ≡ ws
setup_stays n m q ws ws' s = go (limits_or n m) (lt_or (length ws) (need n m))
  where
    go : (Limits n m → ⊥) ⊎ Limits n m → (length ws < need n m) ⊎ (need n m ≤ length ws) → ws' ≡ ws
    go (inl b) d = (s.no b).1
    go (inr l) (inl b) = ((s.on l).no b).1
    go (inr l) (inr h) = absurd (not_no (sym ((s.on l).on h).done) (some_number q))

-- ---- the other calls

module _ {n m : ℕ} {cs : List Call} {ws : List ℕ} (l : Led n m cs ws) where
  -- the answered id says whether the node is new: w is what is so of the graph with it, and v of the graph before
  add_then : {A : Type 0} (f : Graph → A) (w v : A) (x : Term) (i : ℕ) → Ids l.0 x i → f (grow l.0 x) ≡ w → f l.0 ≡ v
      → f (Machine.add l.0 x).graph ≡ when (ℕ_discrete i (length (nodes_of cs))) w v
  add_then f w v x i I p q = go (kept_for l.0 x) refl
    where
      go : (o : Option ℕ) → kept_for l.0 x ≡ o → f (Machine.add l.0 x).graph ≡ when (ℕ_discrete i (length (nodes_of cs))) w v
      go (Some k) e =
          let z : i ≢ length (nodes_of cs) = λ a. omega (arith, I.old k e, ap length l.2.nodes) in
          ap f (add_same l.0 x k e) ∙ q ∙ sym (when_no (ℕ_discrete i (length (nodes_of cs))) w v z)
      go None e =
          let z : i ≡ length (nodes_of cs) = I.new e ∙ ap length l.2.nodes in
          ap f (add_grows l.0 x e) ∙ p ∙ sym (when_yes (ℕ_discrete i (length (nodes_of cs))) w v z)

  pub led_adding : (id : Graph → ℕ) (x : Node) (r : Result Id Refusal) (ws' : List ℕ) → Ids l.0 (node_of x) (id l.0) → AddingSays id ws x r ws' → Led n m (after_add cs (node_of x) r) ws'
  led_adding id x r ws' I s = go r (adding_ends (unions_of cs) ws l.0 l.2.run id x r ws' s)
    where
      go : (r : Result Id Refusal) → Refused (id_says r) (ws' ≡ ws) ⊎ Goes ws (id_says r) (id l.0 ∷ []) ws' (unions_of cs) (Machine.add l.0 (node_of x)).graph
          → Led n m (after_add cs (node_of x) r) ws'
      go (Err q) (inl p) = stays l p.same
      go (Err q) (inr o) = absurd (never (number_of q) _ (sym o.answer))
      go (Ok i) (inl p) = absurd (never p.number i.0 p.is)
      go (Ok i) (inr o) =
          let e : id l.0 ≡ i.0 = sym (ap (λ (a : Answer). at a.values 0) o.answer) in
          let J : Ids l.0 (node_of x) i.0 = subst (Ids l.0 (node_of x)) e I in (
            (Machine.add l.0 (node_of x)).graph,
            (l.0, l.1, refl),
            record {
              run = o.run;
              n_is = o.limits.0 ∙ l.2.n_is;
              m_is = o.limits.1 ∙ l.2.m_is;
              nodes = add_then (λ (k : Graph). k.nodes) _ (nodes_of cs) (node_of x) i.0 J
                  (grow_nodes l.0 (node_of x) ∙ ap (λ (ts : List Term). ts ++ (node_of x ∷ [])) l.2.nodes) l.2.nodes;
              clean = add_then (λ (k : Graph). k.clean) false (rebuilt cs) (node_of x) i.0 J (grow_unclean l.0 (node_of x)) l.2.clean;
            },
          )

  pub led_union : (i j : ℕ) (r : Result Bool Refusal) (ws' : List ℕ) → UnionSays ws i j r ws' → Led n m (after_union cs i j r) ws'
  led_union i j r ws' s = go r (union_ends (unions_of cs) ws l.0 l.2.run i j r ws' s)
    where
      Next : Result Bool Refusal → Type 0
      Next r = Goes ws (flag_says r) (flag (Machine.union l.0 i j).answer) ws' (unions_of cs ++ ((i, j) ∷ [])) (Machine.union l.0 i j).graph

      joined : (r : Result Bool Refusal) → Next r → Led n m (did_union i j ∷ cs) ws'
      joined r o = (
        (Machine.union l.0 i j).graph,
        (l.0, l.1, refl),
        record {
          run = o.run;
          n_is = o.limits.0 ∙ l.2.n_is;
          m_is = o.limits.1 ∙ l.2.m_is;
          nodes = union_nodes l.0 i j ∙ l.2.nodes;
          clean = union_unclean l.0 i j;
        },
      )

      some_flag : (b : Bool) {k : ℕ} → ◌≡◌ {A = Answer} (no_by k) (yes_with (flag b)) → ⊥
      some_flag true {k} e = never k 1 (sym e)
      some_flag false {k} e = never k 0 (sym e)

      go : (r : Result Bool Refusal) → Refused (flag_says r) (ws' ≡ ws) ⊎ Next r → Led n m (after_union cs i j r) ws'
      go (Err q) (inl p) = stays l p.same
      go (Err q) (inr o) = absurd (some_flag (Machine.union l.0 i j).answer o.answer)
      go (Ok true) (inl p) = absurd (never p.number 1 p.is)
      go (Ok true) (inr o) = joined (Ok true) o
      go (Ok false) (inl p) = absurd (never p.number 0 p.is)
      go (Ok false) (inr o) = joined (Ok false) o

  pub led_rebuild : (r : Result ℕ Refusal) (ws' : List ℕ) → RebuildSays ws r ws' → Led n m (after_rebuild cs r) ws'
  led_rebuild r ws' s = let E = ends l.2.run.made in go r E.0 E.1 E.2 E.3 (rebuild_held (unions_of cs) ws l.0 l.2.run r ws' s E.0 E.1 E.2 E.3)
    where
      go : (r : Result ℕ Refusal) (y t : ℕ) (z : Graph) → Rebuild l.0 y t z → Goes ws (count_says r) (y ∷ []) ws' (unions_of cs) z → Led n m (after_rebuild cs r) ws'
      go (Err q) y t z R o = absurd (never (number_of q) y (sym o.answer))
      go (Ok k) y t z R o = (
        z,
        (l.0, l.1, (y, t, R)),
        record {
          run = o.run;
          n_is = o.limits.0 ∙ l.2.n_is;
          m_is = o.limits.1 ∙ l.2.m_is;
          nodes = rebuild_nodes R ∙ l.2.nodes;
          clean = rebuilt_clean R;
        },
      )
