-- What the three demands say, in their order: a demand is a record or two with a sentence for each call. Here stand those of any words, and what each record is of words
-- behind which there is a graph; the theorems of words that runs of calls can have left are in proofs, Demands.
-- Assumes nothing.
use Rattle.egraph.specs.declared.Refusal.{Refusal}
use Rattle.language.specs.declared.Id.{Id}
use Rattle.extract.specs.declared.Form.{Form}
use Rattle.std.specs.Prelude.{Bool, Result, List, [], ◌++◌, ◌∷◌, ◌≢◌, ◌⊎◌, ◌≡◌, ◌+◌, ◌<◌, ◌≤◌, ℕ, eqb, drop, length, Option, None, Some}
use Rattle.std.proofs.Common.{inl, inr, ap, arith}
use Rattle.lists.specs.Tests.{lt_or}
use Rattle.language.specs.Struct.{node_of}
use Rattle.language.specs.Term.{Term, spell, words}
use Rattle.language.specs.declared.Node.{Node}
use Rattle.steps.specs.Classes
use Rattle.steps.specs.Graph.{Graph, ids, node, root}
use Rattle.steps.specs.Machine
use Rattle.steps.specs.Machine.{Rebuild}
use Rattle.closure.specs.Ends.{ends}
use Rattle.adding.specs.Says.{Full, Room, kept_for}
use Rattle.egraph.specs.Adds.{AddSays, AddingSays, LookupSays, UncanonicalSays, found_as}
use Rattle.egraph.specs.Answers.{Answer, Else, Good, Lists, SameLimits, id_says, count_says, flag, flag_says, head_of, lookup_says, no_by, node_says, setup_says, yes_with}
use Rattle.egraph.specs.ClassLists.{ClassesSays, ForOpSays, ListSays, TotalSays}
use Rattle.egraph.specs.Listing.{NodeSays, NodesSays}
use Rattle.egraph.specs.Reads.{CleanSays, CountSays, EmptySays, FindSays}
use Rattle.egraph.specs.Rebuilds.{RebuildSays}
use Rattle.egraph.specs.Setup.{Limits, SetupSays}
use Rattle.egraph.specs.Unions.{UnionSays}
use Rattle.extract.specs.Cost.{CostSays}
use Rattle.extract.specs.Form.{FormSays, form_of, form_says}
use Rattle.layout.specs.Cut.{need}
use Rattle.layout.specs.declared.Head.{Head}
use Rattle.theorems.specs.Behind.{places_are}
use Rattle.theorems.specs.Course.{Run}
use Rattle.theorems.specs.Forms.{BestForm, form_one}
use Rattle.theorems.specs.Held
use Rattle.theorems.specs.Held.{CleanLadder, GivenLadder, Goes, IdLadder, No, Refused, Written}
use Rattle.theorems.specs.Ladders.{Inside, adding_inside, cost_inside, form_inside, list_inside, nodes_inside, rebuild_inside, setup_inside, union_inside}
use Rattle.theorems.specs.Outcomes
use Rattle.theorems.specs.Reached.{child_places}
use Rattle.theorems.specs.Sizes.{Smallest, cost_one, made_known}

-- ---- demand 1. Any call on any words ends and touches nothing outside them.

-- That a call ends, and reads and writes inside the slices it is lent, is what the check of the code shows for each open call, and none of them asks for anything
-- (`requires`). Of the words lent, those past the need stay, and so does their number; a slice lent for a list or a form keeps its length
pub record Touches (ws : List ℕ) : Type 0 where
  pub setup : (n m : ℕ) (r : Result Unit Refusal) (ws' : List ℕ) → SetupSays ws n m r ws' → (length ws' ≡ length ws) × (drop (need n m) ws' ≡ drop (need n m) ws)
  pub add : (x : Node) (r : Result Id Refusal) (ws' : List ℕ) → AddSays ws x r ws' → Inside ws ws'
  pub add_uncanonical : (x : Node) (r : Result Id Refusal) (ws' : List ℕ) → UncanonicalSays ws x r ws' → Inside ws ws'
  pub union : (i j : ℕ) (r : Result Bool Refusal) (ws' : List ℕ) → UnionSays ws i j r ws' → Inside ws ws'
  pub rebuild : (r : Result ℕ Refusal) (ws' : List ℕ) → RebuildSays ws r ws' → Inside ws ws'
  pub find_best_cost : (i : ℕ) (r : Result ℕ Refusal) (ws' : List ℕ) → CostSays ws i r ws' → Inside ws ws'
  pub find_best : (i : ℕ) (out : List ℕ) (r : Result Form Refusal) (ws' out' : List ℕ) → FormSays ws i out r ws' out' → Inside ws ws' × (length out' ≡ length out)
  pub nodes : (out : List ℕ) (r : Result ℕ Refusal) (out' : List ℕ) → NodesSays ws out r out' → length out' ≡ length out
  pub classes : (out : List ℕ) (r : Result ℕ Refusal) (out' : List ℕ) → ClassesSays ws out r out' → length out' ≡ length out
  pub classes_for_op : (op : ℕ) (out : List ℕ) (r : Result ℕ Refusal) (out' : List ℕ) → ForOpSays ws op out r out' → length out' ≡ length out

pub demand_1_any_words : (ws : List ℕ) → Touches ws
demand_1_any_words ws = record {
  setup = λ n m r ws' s. setup_inside ws ws' n m r s;
  add = λ x r ws' s. adding_inside ws ws' _ x r s;
  add_uncanonical = λ x r ws' s. adding_inside ws ws' _ x r s;
  union = λ i j r ws' s. union_inside ws ws' i j r s;
  rebuild = λ r ws' s. rebuild_inside ws ws' r s;
  find_best_cost = λ i r ws' s. cost_inside ws ws' i r s;
  find_best = λ i out r ws' out' s. form_inside ws ws' i out r out' s;
  nodes = λ out r out' s. nodes_inside ws out r out' s;
  classes = λ out r out' s. list_inside _ _ ws out r out' s;
  classes_for_op = λ op out r out' s. list_inside _ _ ws out r out' s;
}

-- ---- demand 1, on. Bad limits, short tables, unknown ids, too many children, no room and a graph not rebuilt are refused by number. A refused call changes no word of a
-- ---- graph that these calls made.

-- on any words: too few of them for the head or for its limits, or numbers in it that are out of range, and every call but setup is refused by 3, with nothing changed
pub record Shut (ws : List ℕ) : Type 0 where
  pub find : (i : ℕ) (r : Result Id Refusal) → FindSays ws i r → id_says r ≡ no_by 3
  pub lookup : (x : Node) (r : Result (Option Id) Refusal) → LookupSays ws x r → lookup_says r ≡ no_by 3
  pub add : (x : Node) (r : Result Id Refusal) (ws' : List ℕ) → AddSays ws x r ws' → No (id_says r) (ws' ≡ ws) 3
  pub add_uncanonical : (x : Node) (r : Result Id Refusal) (ws' : List ℕ) → UncanonicalSays ws x r ws' → No (id_says r) (ws' ≡ ws) 3
  pub union : (i j : ℕ) (r : Result Bool Refusal) (ws' : List ℕ) → UnionSays ws i j r ws' → No (flag_says r) (ws' ≡ ws) 3
  pub rebuild : (r : Result ℕ Refusal) (ws' : List ℕ) → RebuildSays ws r ws' → No (count_says r) (ws' ≡ ws) 3
  pub classes : (out : List ℕ) (r : Result ℕ Refusal) (out' : List ℕ) → ClassesSays ws out r out' → No (count_says r) (out' ≡ out) 3
  pub classes_for_op : (op : ℕ) (out : List ℕ) (r : Result ℕ Refusal) (out' : List ℕ) → ForOpSays ws op out r out' → No (count_says r) (out' ≡ out) 3
  pub nodes : (out : List ℕ) (r : Result ℕ Refusal) (out' : List ℕ) → NodesSays ws out r out' → No (count_says r) (out' ≡ out) 3
  pub id_to_node : (i : ℕ) (r : Result Node Refusal) → NodeSays ws i r → node_says r ≡ no_by 3
  pub is_empty : (r : Result Bool Refusal) → EmptySays ws r → flag_says r ≡ no_by 3
  pub number_of_classes : (r : Result ℕ Refusal) → CountSays ws r → count_says r ≡ no_by 3
  pub total_number_of_nodes : (r : Result ℕ Refusal) → TotalSays ws r → count_says r ≡ no_by 3
  pub clean : (r : Result Bool Refusal) → CleanSays ws r → flag_says r ≡ no_by 3
  pub find_best_cost : (i : ℕ) (r : Result ℕ Refusal) (ws' : List ℕ) → CostSays ws i r ws' → No (count_says r) (ws' ≡ ws) 3
  pub find_best : (i : ℕ) (out : List ℕ) (r : Result Form Refusal) (ws' out' : List ℕ) → FormSays ws i out r ws' out' → No (form_says r) (out' ≡ out) 3 × (ws' ≡ ws)

pub demand_1_short : (ws : List ℕ) → (Good ws → ⊥) → Shut ws
demand_1_short ws b = record {
  find = λ i r s. s.no b;
  lookup = λ x r s. s.no b;
  add = λ x r ws' s. s.no b;
  add_uncanonical = λ x r ws' s. s.no b;
  union = λ i j r ws' s. s.no b;
  rebuild = λ r ws' s. s.no b;
  classes = λ out r out' s. s.says.no b;
  classes_for_op = λ op out r out' s. s.says.no b;
  nodes = λ out r out' s. s.says.no b;
  id_to_node = λ i r s. s.says.no b;
  is_empty = λ r s. s.no b;
  number_of_classes = λ r s. s.no b;
  total_number_of_nodes = λ r s. s.no b;
  clean = λ r s. s.no b;
  find_best_cost = λ i r ws' s. (s.says.no b, s.same);
  find_best = λ i out r ws' out' s. (s.says.no b, s.same);
}

-- the number 0
abbrev pub Accepted : Answer → Type 0
Accepted a = a.number ≡ 0

abbrev pub Not9 : Answer → Type 0
Not9 a = a.number ≢ 9

-- a refusal has changed nothing, and is not 9
pub record Fair (a : Answer) (Same : Type 0) : Type 0 where
  pub same : a.number ≢ 0 → Same
  pub not_9 : Not9 a

-- n ids exist already, or the node's children would pass m places
abbrev pub NoPlace : ℕ → ℕ → Graph → Term → Type 0
NoPlace n m g x = (n ≤ ids g) ⊎ (m < child_places g.nodes + length x.kids)

abbrev pub APlace : ℕ → ℕ → Graph → Term → Type 0
APlace n m g x = (ids g < n) × (child_places g.nodes + length x.kids ≤ m)

-- the ladders of a node to be added, and of a list
abbrev pub AddLadder : ℕ → ℕ → Graph → Node → (ℕ → Type 0) → Type 0 → Type 0
AddLadder n m g x No Next =
    GivenLadder g x No
    (Else ((kept_for g (node_of x) ≡ None) × NoPlace n m g (node_of x)) (No 6) ((kept_for g (node_of x) ≢ None) ⊎ APlace n m g (node_of x))
    Next)

abbrev pub LongLadder : List ℕ → List ℕ → Type 0 → Type 0 → Type 0
LongLadder xs out No8 Next = Else (length out < length xs) No8 (length xs ≤ length out) Next

-- under the limits n and m, each refusal by its number exactly when document 01 says, in its order, and nothing has changed; else accepted. g is the graph of the run: its
-- ids are the nodes that have one, and it is clean where a rebuild has ended and no node or union has come since (`Behind`)
pub record Refuses (n m : ℕ) (g : Graph) (ws : List ℕ) : Type 0 where
  pub find : (i : ℕ) (r : Result Id Refusal) → FindSays ws i r → Not9 (id_says r) × IdLadder g i (id_says r ≡ no_by 4) (Accepted (id_says r))
  pub lookup : (x : Node) (r : Result (Option Id) Refusal) → LookupSays ws x r → Not9 (lookup_says r) × GivenLadder g x (λ k. lookup_says r ≡ no_by k) (Accepted (lookup_says r))
  pub add : (x : Node) (r : Result Id Refusal) (ws' : List ℕ) → AddSays ws x r ws' → Fair (id_says r) (ws' ≡ ws) × AddLadder n m g x (No (id_says r) (ws' ≡ ws)) (Accepted (id_says r))
  pub add_uncanonical : (x : Node) (r : Result Id Refusal) (ws' : List ℕ) → UncanonicalSays ws x r ws'
      → Fair (id_says r) (ws' ≡ ws) × AddLadder n m g x (No (id_says r) (ws' ≡ ws)) (Accepted (id_says r))
  pub union : (i j : ℕ) (r : Result Bool Refusal) (ws' : List ℕ) → UnionSays ws i j r ws'
      → Fair (flag_says r) (ws' ≡ ws)
      × Else ((ids g ≤ i) ⊎ (ids g ≤ j)) (No (flag_says r) (ws' ≡ ws) 4) ((i < ids g) × (j < ids g)) (Accepted (flag_says r))
  pub rebuild : (r : Result ℕ Refusal) (ws' : List ℕ) → RebuildSays ws r ws' → Accepted (count_says r)
  pub classes : (out : List ℕ) (r : Result ℕ Refusal) (out' : List ℕ) → ClassesSays ws out r out'
      → Fair (count_says r) (out' ≡ out)
      × CleanLadder g (No (count_says r) (out' ≡ out) 7) (LongLadder (Classes.classes g) out (No (count_says r) (out' ≡ out) 8) (Accepted (count_says r)))
  pub classes_for_op : (op : ℕ) (out : List ℕ) (r : Result ℕ Refusal) (out' : List ℕ) → ForOpSays ws op out r out'
      → Fair (count_says r) (out' ≡ out)
      × CleanLadder g (No (count_says r) (out' ≡ out) 7) (LongLadder (Classes.classes_for_op g op) out (No (count_says r) (out' ≡ out) 8) (Accepted (count_says r)))
  pub nodes : (out : List ℕ) (r : Result ℕ Refusal) (out' : List ℕ) → NodesSays ws out r out'
      → Fair (count_says r) (out' ≡ out) × LongLadder (Classes.nodes g) out (No (count_says r) (out' ≡ out) 8) (Accepted (count_says r))
  pub id_to_node : (i : ℕ) (r : Result Node Refusal) → NodeSays ws i r → Not9 (node_says r) × IdLadder g i (node_says r ≡ no_by 4) (Accepted (node_says r))
  pub is_empty : (r : Result Bool Refusal) → EmptySays ws r → Accepted (flag_says r)
  pub number_of_classes : (r : Result ℕ Refusal) → CountSays ws r → Accepted (count_says r)
  pub total_number_of_nodes : (r : Result ℕ Refusal) → TotalSays ws r → Not9 (count_says r) × CleanLadder g (count_says r ≡ no_by 7) (Accepted (count_says r))
  pub clean : (r : Result Bool Refusal) → CleanSays ws r → Accepted (flag_says r)
  pub find_best_cost : (i : ℕ) (r : Result ℕ Refusal) (ws' : List ℕ) → CostSays ws i r ws'
      → Not9 (count_says r) × (ws' ≡ ws) × IdLadder g i (count_says r ≡ no_by 4) (CleanLadder g (count_says r ≡ no_by 7) (Accepted (count_says r)))
  pub find_best : (i : ℕ) (out : List ℕ) (r : Result Form Refusal) (ws' out' : List ℕ) → FormSays ws i out r ws' out'
      → Fair (form_says r) (out' ≡ out) × (ws' ≡ ws)
      × IdLadder g i (No (form_says r) (out' ≡ out) 4)
      (CleanLadder g (No (form_says r) (out' ≡ out) 7) (LongLadder (form_of g i) out (No (form_says r) (out' ≡ out) 8) (Accepted (form_says r))))

-- ---- how they are shown

onto : {B N G X Y : Type 0} → (X → Y) → Else B N G X → Else B N G Y
onto f s = record { no = s.no; on = λ g. f (s.on g) }

accepted : {a : Answer} {vs : List ℕ} → a ≡ yes_with vs → Accepted a
accepted e = ap (λ (a : Answer). a.number) e

fair : {a : Answer} {S X : Type 0} → (X → Accepted a) → Refused a S ⊎ X → Fair a S
fair f (inl p) = record { same = λ _. p.same; not_9 = λ e. omega (arith, p.below_9, ap (λ (a : Answer). a.number) p.is) }
fair f (inr x) = record { same = λ n. absurd (n (f x)); not_9 = λ e. omega (arith, f x) }

-- what is accepted is answered
answer : {a : Answer} {S X : Type 0} → Refused a S ⊎ X → Accepted a → X
answer (inl p) e = absurd (omega (arith, p.some, ap (λ (a : Answer). a.number) p.is))
answer (inr x) e = x

-- setup, on any words
pub demand_1_setup : (ws : List ℕ) (n m : ℕ) (r : Result Unit Refusal) (ws' : List ℕ) → SetupSays ws n m r ws'
    → Fair (setup_says r) (ws' ≡ ws)
    × Else (Limits n m → ⊥) (No (setup_says r) (ws' ≡ ws) 1) (Limits n m)
    (Else (length ws < need n m) (No (setup_says r) (ws' ≡ ws) 2) (need n m ≤ length ws) (Accepted (setup_says r)))
demand_1_setup ws n m r ws' s = (
  fair accepted (Held.fall (omega arith) (omega arith) (Outcomes.limits_or n m) s (λ s. Held.fall (omega arith) (omega arith) (lt_or (length ws) (need n m)) s (λ o. inr o.done))),
  onto (λ t. onto (λ o. accepted o.done) t) s,
)

long : (xs out : List ℕ) (r : Result ℕ Refusal) (out' : List ℕ) → Lists xs out r out' → LongLadder xs out (No (count_says r) (out' ≡ out) 8) (Accepted (count_says r))
long xs out r out' t = record { no = t.long; on = λ h. accepted (t.fits h).0 }

module _ (n m : ℕ) (us : List (ℕ × ℕ)) (ws : List ℕ) (g : Graph) (C : Run us ws g) (l : ((head_of ws).n ≡ n) × ((head_of ws).m ≡ m)) where
  full : (x : Term) → NoPlace n m g x → Full (head_of ws) x
  full x (inl h) = inl (omega (arith, l.0, C.holds.at_rest.ids_are))
  full x (inr h) = inr (omega (arith, l.1, places_are C))

  room : (x : Term) → APlace n m g x → Room (head_of ws) x
  room x h = (omega (arith, h.0, l.0, C.holds.at_rest.ids_are), omega (arith, h.1, l.1, places_are C))

  add_refuses : (id : Graph → ℕ) (x : Node) (r : Result Id Refusal) (ws' : List ℕ) → AddingSays id ws x r ws'
      → Fair (id_says r) (ws' ≡ ws) × AddLadder n m g x (No (id_says r) (ws' ≡ ws)) (Accepted (id_says r))
  add_refuses id x r ws' s = (
    fair (λ (o : Goes ws (id_says r) (id g ∷ []) ws' us (Machine.add g (node_of x)).graph). accepted o.answer) (Held.adding_ends us ws g C id x r ws' s),
    onto (λ t. onto (λ t. record {
      no = λ h. t.no (h.0, full (node_of x) h.1);
      on = λ h. accepted (t.on (found h)).answer;
    }) t) (Held.adding_held us ws g C id x r ws' s),
  )
    where
      found : (kept_for g (node_of x) ≢ None) ⊎ APlace n m g (node_of x) → (kept_for g (node_of x) ≢ None) ⊎ Room (head_of ws) (node_of x)
      found (inl h) = inl h
      found (inr h) = inr (room (node_of x) h)

  list_refuses : (list : Graph → List ℕ) (reads : Head → List ℕ → List ℕ) (out : List ℕ) (r : Result ℕ Refusal) (out' : List ℕ) → ListSays list reads ws out r out'
      → Fair (count_says r) (out' ≡ out) × CleanLadder g (No (count_says r) (out' ≡ out) 7) (LongLadder (list g) out (No (count_says r) (out' ≡ out) 8) (Accepted (count_says r)))
  list_refuses list reads out r out' s = (
    fair (λ (o : Written (list g) out r out'). accepted o.0) (Held.list_ends us ws g C list reads out r out' s),
    onto (λ t. long (list g) out r out' t) (Held.list_is us ws g C list reads out r out' s),
  )

  pub refuses : Refuses n m g ws
  refuses = record {
    find = λ i r s. ((fair accepted (Held.find_ends us ws g C i r s)).not_9, onto accepted (Held.find_held us ws g C i r s));
    lookup = λ x r s. ((fair (found_accepted r (Machine.lookup g (node_of x))) (Held.lookup_ends us ws g C x r s)).not_9, onto (λ t. onto (found_accepted r (Machine.lookup g (node_of x))) t) (Held.lookup_held us ws g C x r s));
    add = λ x r ws' s. add_refuses _ x r ws' s;
    add_uncanonical = λ x r ws' s. add_refuses _ x r ws' s;
    union = λ i j r ws' s. (
      fair (λ (o : Goes ws (flag_says r) (flag (Machine.union g i j).answer) ws' (us ++ ((i, j) ∷ [])) (Machine.union g i j).graph). accepted o.answer) (Held.union_ends us ws g C i j r ws' s),
      onto (λ o. accepted o.answer) (Held.union_held us ws g C i j r ws' s),
    );
    rebuild = λ r ws' s. let E = ends C.made in accepted (Held.rebuild_held us ws g C r ws' s E.0 E.1 E.2 E.3).answer;
    classes = λ out r out' s. list_refuses _ _ out r out' s;
    classes_for_op = λ op out r out' s. list_refuses _ _ out r out' s;
    nodes = λ out r out' s. (
      fair (λ (o : Written (Classes.nodes g) out r out'). accepted o.0) (Held.nodes_ends us ws g C out r out' s),
      long (Classes.nodes g) out r out' (Held.nodes_held us ws g C out r out' s),
    );
    id_to_node = λ i r s. ((fair accepted (Held.node_ends us ws g C i r s)).not_9, onto accepted (Held.node_held us ws g C i r s));
    is_empty = λ r s. accepted (Held.empty_held us ws g C r s);
    number_of_classes = λ r s. accepted (Held.count_held us ws g C r s);
    total_number_of_nodes = λ r s. ((fair accepted (Held.total_ends us ws g C r s)).not_9, onto accepted (Held.total_is us ws g C r s));
    clean = λ r s. accepted (Held.clean_held us ws g C r s);
    find_best_cost = λ i r ws' s. (
      (fair (λ (o : Smallest g i r). accepted o.is) (Held.cost_ends us ws g C i r ws' s)).not_9,
      s.same,
      onto (λ t. onto (λ (o : Smallest g i r). accepted o.is) t) (Held.cost_held us ws g C i r ws' s),
    );
    find_best = λ i out r ws' out' s. (
      fair (λ (o : BestForm g i out r out' × Accepted (form_says r)). o.1) (Held.form_ends us ws g C i out r ws' out' s),
      s.same,
      onto (λ t. onto (λ o. form_long i out r out' o) t) (Held.form_held us ws g C i out r ws' out' s),
    );
  }
    where
      found_accepted : (r : Result (Option Id) Refusal) (o : Option ℕ) → lookup_says r ≡ found_as o → Accepted (lookup_says r)
      found_accepted r None e = accepted e
      found_accepted r (Some k) e = accepted e

      form_long : (i : ℕ) (out : List ℕ) (r : Result Form Refusal) (out' : List ℕ) → BestForm g i out r out' → LongLadder (form_of g i) out (No (form_says r) (out' ≡ out) 8) (Accepted (form_says r))
      form_long i out r out' b =
          let e : length (spell b.nodes) ≡ length (form_of g i) = ap length b.listed in
          record { no = λ h. b.is.long (omega arith); on = λ h. accepted (b.is.fits (omega arith)).0 }

-- ---- demand 2. Roots, yes-or-no answers, rebuild counts, class contents and sizes equal the Rust's on every input in the range, shown by runs against it and proved
-- ---- against a definition of its steps. The size given for a class is the least AstSize of any finite form in it, capped at 2^64 - 1.

-- what is accepted is answered as the definitions answer it of g; `Smallest` and `BestForm` say that no form of the class is smaller
pub record Answers (g : Graph) (ws : List ℕ) : Type 0 where
  pub find : (i : ℕ) (r : Result Id Refusal) → FindSays ws i r → Accepted (id_says r) → id_says r ≡ yes_with (root g.roots i ∷ [])
  pub lookup : (x : Node) (r : Result (Option Id) Refusal) → LookupSays ws x r → Accepted (lookup_says r) → lookup_says r ≡ found_as (Machine.lookup g (node_of x))
  pub add : (x : Node) (r : Result Id Refusal) (ws' : List ℕ) → AddSays ws x r ws' → Accepted (id_says r) → id_says r ≡ yes_with ((Machine.add g (node_of x)).id ∷ [])
  pub add_uncanonical : (x : Node) (r : Result Id Refusal) (ws' : List ℕ) → UncanonicalSays ws x r ws' → Accepted (id_says r)
      → id_says r ≡ yes_with ((Machine.add_uncanonical g (node_of x)).id ∷ [])
  pub union : (i j : ℕ) (r : Result Bool Refusal) (ws' : List ℕ) → UnionSays ws i j r ws' → Accepted (flag_says r) → flag_says r ≡ yes_with (flag (Machine.union g i j).answer)
  pub rebuild : (r : Result ℕ Refusal) (ws' : List ℕ) → RebuildSays ws r ws' → (y t : ℕ) (h : Graph) → Rebuild g y t h → count_says r ≡ yes_with (y ∷ [])
  pub classes : (out : List ℕ) (r : Result ℕ Refusal) (out' : List ℕ) → ClassesSays ws out r out' → Accepted (count_says r) → Written (Classes.classes g) out r out'
  pub classes_for_op : (op : ℕ) (out : List ℕ) (r : Result ℕ Refusal) (out' : List ℕ) → ForOpSays ws op out r out' → Accepted (count_says r) → Written (Classes.classes_for_op g op) out r out'
  pub nodes : (out : List ℕ) (r : Result ℕ Refusal) (out' : List ℕ) → NodesSays ws out r out' → Accepted (count_says r) → Written (Classes.nodes g) out r out'
  pub id_to_node : (i : ℕ) (r : Result Node Refusal) → NodeSays ws i r → Accepted (node_says r) → node_says r ≡ yes_with (words (node g.nodes i))
  pub is_empty : (r : Result Bool Refusal) → EmptySays ws r → flag_says r ≡ yes_with (flag (eqb (ids g) 0))
  pub number_of_classes : (r : Result ℕ Refusal) → CountSays ws r → count_says r ≡ yes_with (Classes.number_of_classes g ∷ [])
  pub total_number_of_nodes : (r : Result ℕ Refusal) → TotalSays ws r → Accepted (count_says r) → count_says r ≡ yes_with (Classes.total_number_of_nodes g ∷ [])
  pub clean : (r : Result Bool Refusal) → CleanSays ws r → flag_says r ≡ yes_with (flag g.clean)
  pub find_best_cost : (i : ℕ) (r : Result ℕ Refusal) (ws' : List ℕ) → CostSays ws i r ws' → Accepted (count_says r) → Smallest g i r
  pub find_best : (i : ℕ) (out : List ℕ) (r : Result Form Refusal) (ws' out' : List ℕ) → FormSays ws i out r ws' out' → Accepted (form_says r) → BestForm g i out r out'

pub answers : (us : List (ℕ × ℕ)) (ws : List ℕ) (g : Graph) → Run us ws g → Answers g ws
answers us ws g C = record {
  find = λ i r s. answer (Held.find_ends us ws g C i r s);
  lookup = λ x r s. answer (Held.lookup_ends us ws g C x r s);
  add = λ x r ws' s e. (answer (Held.adding_ends us ws g C _ x r ws' s) e).answer;
  add_uncanonical = λ x r ws' s e. (answer (Held.adding_ends us ws g C _ x r ws' s) e).answer;
  union = λ i j r ws' s e. (answer (Held.union_ends us ws g C i j r ws' s) e).answer;
  rebuild = λ r ws' s y t h q. (Held.rebuild_held us ws g C r ws' s y t h q).answer;
  classes = λ out r out' s. answer (Held.list_ends us ws g C _ _ out r out' s);
  classes_for_op = λ op out r out' s. answer (Held.list_ends us ws g C _ _ out r out' s);
  nodes = λ out r out' s. answer (Held.nodes_ends us ws g C out r out' s);
  id_to_node = λ i r s. answer (Held.node_ends us ws g C i r s);
  is_empty = λ r s. Held.empty_held us ws g C r s;
  number_of_classes = λ r s. Held.count_held us ws g C r s;
  total_number_of_nodes = λ r s. answer (Held.total_ends us ws g C r s);
  clean = λ r s. Held.clean_held us ws g C r s;
  find_best_cost = λ i r ws' s. answer (Held.cost_ends us ws g C i r ws' s);
  find_best = λ i out r ws' out' s e. (answer (Held.form_ends us ws g C i out r ws' out' s) e).0;
}

-- ---- demand 3, on. Another rebuild then returns 0 and alters no answer.

-- every call answers alike on ws and on ws', and leaves like slices
pub record SameAnswers (ws ws' : List ℕ) : Type 0 where
  pub find : (i : ℕ) (r r' : Result Id Refusal) → FindSays ws i r → FindSays ws' i r' → id_says r ≡ id_says r'
  pub lookup : (x : Node) (r r' : Result (Option Id) Refusal) → LookupSays ws x r → LookupSays ws' x r' → lookup_says r ≡ lookup_says r'
  pub add : (x : Node) (r r' : Result Id Refusal) (w w' : List ℕ) → AddSays ws x r w → AddSays ws' x r' w' → id_says r ≡ id_says r'
  pub add_uncanonical : (x : Node) (r r' : Result Id Refusal) (w w' : List ℕ) → UncanonicalSays ws x r w → UncanonicalSays ws' x r' w' → id_says r ≡ id_says r'
  pub union : (i j : ℕ) (r r' : Result Bool Refusal) (w w' : List ℕ) → UnionSays ws i j r w → UnionSays ws' i j r' w' → flag_says r ≡ flag_says r'
  pub rebuild : (r r' : Result ℕ Refusal) (w w' : List ℕ) → RebuildSays ws r w → RebuildSays ws' r' w' → count_says r ≡ count_says r'
  pub classes : (out : List ℕ) (r r' : Result ℕ Refusal) (o o' : List ℕ) → ClassesSays ws out r o → ClassesSays ws' out r' o' → (count_says r ≡ count_says r') × (o ≡ o')
  pub classes_for_op : (op : ℕ) (out : List ℕ) (r r' : Result ℕ Refusal) (o o' : List ℕ) → ForOpSays ws op out r o → ForOpSays ws' op out r' o' → (count_says r ≡ count_says r') × (o ≡ o')
  pub nodes : (out : List ℕ) (r r' : Result ℕ Refusal) (o o' : List ℕ) → NodesSays ws out r o → NodesSays ws' out r' o' → (count_says r ≡ count_says r') × (o ≡ o')
  pub id_to_node : (i : ℕ) (r r' : Result Node Refusal) → NodeSays ws i r → NodeSays ws' i r' → node_says r ≡ node_says r'
  pub is_empty : (r r' : Result Bool Refusal) → EmptySays ws r → EmptySays ws' r' → flag_says r ≡ flag_says r'
  pub number_of_classes : (r r' : Result ℕ Refusal) → CountSays ws r → CountSays ws' r' → count_says r ≡ count_says r'
  pub total_number_of_nodes : (r r' : Result ℕ Refusal) → TotalSays ws r → TotalSays ws' r' → count_says r ≡ count_says r'
  pub clean : (r r' : Result Bool Refusal) → CleanSays ws r → CleanSays ws' r' → flag_says r ≡ flag_says r'
  pub find_best_cost : (i : ℕ) (r r' : Result ℕ Refusal) (w w' : List ℕ) → CostSays ws i r w → CostSays ws' i r' w' → count_says r ≡ count_says r'
  pub find_best : (i : ℕ) (out : List ℕ) (r r' : Result Form Refusal) (w w' o o' : List ℕ) → FormSays ws i out r w o → FormSays ws' i out r' w' o' → (form_says r ≡ form_says r') × (o ≡ o')

-- words that hold one made graph under the same limits
pub same_answers : (us vs : List (ℕ × ℕ)) (ws ws' : List ℕ) (g : Graph) → Run us ws g → Run vs ws' g → SameLimits ws ws' → SameAnswers ws ws'
same_answers us vs ws ws' g C D L =
    let H = C.holds in
    let K = D.holds in
    record {
      find = Outcomes.find_one ws ws' g H K L;
      lookup = Outcomes.lookup_one ws ws' g H K L;
      add = λ x r r' w w' s t. (Outcomes.adding_one ws ws' g H K L _ x r r' w w' s t).answer;
      add_uncanonical = λ x r r' w w' s t. (Outcomes.adding_one ws ws' g H K L _ x r r' w w' s t).answer;
      union = λ i j r r' w w' s t. (Outcomes.union_one ws ws' g H K L i j r r' w w' s t).answer;
      rebuild = λ r r' w w' s t. (Outcomes.rebuild_one ws ws' g H K L us C.made r r' w w' s t).answer;
      classes = Outcomes.classes_one ws ws' g H K L;
      classes_for_op = Outcomes.for_op_one ws ws' g H K L;
      nodes = Outcomes.nodes_one ws ws' g H K L;
      id_to_node = Outcomes.node_one ws ws' g H K L;
      is_empty = Outcomes.empty_one ws ws' g H K L;
      number_of_classes = Outcomes.count_one ws ws' g H K L;
      total_number_of_nodes = Outcomes.total_one ws ws' g H K L;
      clean = Outcomes.clean_one ws ws' g H K L;
      find_best_cost = λ i r r' w w' s t. (cost_one ws ws' g H K L (made_known C.made) i r r' w w' s t).answer;
      find_best = λ i out r r' w w' o o' s t. let a = form_one ws ws' g H K L (made_known C.made) i out r r' w w' o o' s t in (a.0.answer, a.1);
    }
