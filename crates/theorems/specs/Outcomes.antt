-- Every answer is pinned down (document 01, "What pins an answer down"): of each call, on words that hold a graph, two outcomes that satisfy its promise have the same
-- answer, and there is one graph that the words of both hold. By holds' `determined` any other graph that either holds is that one but for the table's dead keys, which
-- no answer shows. It is said of two calls on two slices of words that hold one graph under the same limits; they may be the same words. Of the reads but for `lookup` it
-- is said of any words besides.
-- Assumes nothing.
use Rattle.egraph.specs.declared.Refusal.{Refusal}
use Rattle.language.specs.declared.Id.{Id}
use Rattle.std.specs.Prelude.{Result, Bool, false, true, List, [], ◌++◌, ◌∷◌, ◌⊎◌, ◌≡◌, refl, ◌+◌, ◌<◌, ◌≤◌, ℕ, drop, length, take, Option, None, Some}
use Rattle.std.proofs.Common.{inl, inr, ◌∙◌, ap, subst, sym, arith, take-append-drop}
use Rattle.std.proofs.Math.Decide.{dec_lt}
use Rattle.lists.specs.Reads.{at}
use Rattle.lists.specs.Tests.{lt_or}
use Rattle.language.specs.Struct.{node_of}
use Rattle.language.specs.Term.{Term, places, Known}
use Rattle.language.specs.declared.Node.{Node}
use Rattle.steps.specs.Classes.{classes, classes_for_op, nodes}
use Rattle.steps.specs.Forced.{Made}
use Rattle.steps.specs.Graph.{Graph}
use Rattle.steps.specs.Machine.{fresh}
use Rattle.closure.specs.Ends.{ends}
use Rattle.adding.specs.Says.{Full, Room, kept_for}
use Rattle.egraph.specs.Adds.{Adding, AddingSays, LookupSays, NodeLadder}
use Rattle.egraph.specs.Answers.{Answer, Else, ListAt, Lists, SameLimits, Unless3, Unless7, id_says, count_says, flag_says, head_of, held_clean, lookup_says, no_by, node_says, setup_says, yes_with}
use Rattle.egraph.specs.ClassLists.{ClassesSays, ForOpSays, ListSays, TotalSays, list_held, total_held, total_in}
use Rattle.egraph.specs.Listing.{NodeSays, NodesSays, nodes_in}
use Rattle.egraph.specs.Reads.{CleanSays, CountSays, EmptySays, FindSays}
use Rattle.egraph.specs.Rebuilds.{RebuildSays}
use Rattle.egraph.specs.Setup.{Limits, SetupSays}
use Rattle.egraph.specs.Unions.{UnionOpen, UnionSays}
use Rattle.egraph.specs.Whole.{all_below, good_test, row_test, rows_test, unbroken_test}
use Rattle.holds.specs.Holds.{Holds}
use Rattle.layout.specs.Cut.{need}
use Rattle.layout.specs.declared.Head.{Head}

-- two ends of a ladder's step
pub both_ends : {B N G X N' X' R : Type 0} → B ⊎ G → Else B N G X → Else B N' G X' → (N → N' → R) → (X → X' → R) → R
both_ends (inl b) s t n x = n (s.no b) (t.no b)
both_ends (inr g) s t n x = x (s.on g) (t.on g)

-- the same answer, the same limits, and a graph that both hold
pub record One (a a' : Answer) (ws ws' : List ℕ) : Type 0 where
  pub answer : a ≡ a'
  pub limits : SameLimits ws ws'
  pub graph : (k : Graph) × Holds ws k × Holds ws' k

-- ---- decisions

pub limits_or : (n m : ℕ) → (Limits n m → ⊥) ⊎ Limits n m
limits_or n m = go (lt_or n 1) (lt_or 65536 n) (lt_or 262144 m)
  where
    go : (n < 1) ⊎ (1 ≤ n) → (65536 < n) ⊎ (n ≤ 65536) → (262144 < m) ⊎ (m ≤ 262144) → (Limits n m → ⊥) ⊎ Limits n m
    go (inl a) b c = inl (λ l. omega (arith, l.n_low))
    go (inr a) (inl b) c = inl (λ l. omega (arith, l.n_high))
    go (inr a) (inr b) (inl c) = inl (λ l. omega (arith, l.m_high))
    go (inr a) (inr b) (inr c) = inr (record { n_low = a; n_high = b; m_high = c })

-- an unknown id among two, or both known
pub two_or : (i j N : ℕ) → ((N ≤ i) ⊎ (N ≤ j)) ⊎ ((i < N) × (j < N))
two_or i j N = go (lt_or i N) (lt_or j N)
  where
    go : (i < N) ⊎ (N ≤ i) → (j < N) ⊎ (N ≤ j) → ((N ≤ i) ⊎ (N ≤ j)) ⊎ ((i < N) × (j < N))
    go (inr a) b = inl (inl a)
    go (inl a) (inr b) = inl (inr b)
    go (inl a) (inl b) = inr (a, b)

-- `lt_or` the other way round
pub or_lt : (x y : ℕ) → (y ≤ x) ⊎ (x < y)
or_lt x y = go (lt_or x y)
  where
    go : (x < y) ⊎ (y ≤ x) → (y ≤ x) ⊎ (x < y)
    go (inl a) = inr a
    go (inr a) = inl a

pub dec_or : {P : Type 0} → Dec P → (P → ⊥) ⊎ P
dec_or (no n) = inl n
dec_or (yes p) = inr p

pub low_or : (ks : List ℕ) (N : ℕ) → (((i : ℕ) → i < length ks → at ks i < N) → ⊥) ⊎ ((i : ℕ) → i < length ks → at ks i < N)
low_or ks N = dec_or (all_below (λ (i : ℕ). dec_lt (at ks i) N) (length ks))

pub full_or : (h : Head) (x : Term) → Full h x ⊎ Room h x
full_or h x = go (lt_or h.ids h.n) (lt_or h.m (h.places + length x.kids))
  where
    go : (h.ids < h.n) ⊎ (h.n ≤ h.ids) → (h.m < h.places + length x.kids) ⊎ (h.places + length x.kids ≤ h.m) → Full h x ⊎ Room h x
    go (inr a) b = inl (inl a)
    go (inl a) (inl b) = inl (inr b)
    go (inl a) (inr b) = inr (a, b)

-- clean or not
pub clean_or : (b : Bool) → (b ≡ false) ⊎ (b ≡ true)
clean_or false = inl refl
clean_or true = inr refl

-- one list in one slice
lists_one : (xs out : List ℕ) (r r' : Result ℕ Refusal) (o o' : List ℕ) → Lists xs out r o → Lists xs out r' o' → (count_says r ≡ count_says r') × (o ≡ o')
lists_one xs out r r' o o' p q = go (lt_or (length out) (length xs))
  where
    go : (length out < length xs) ⊎ (length xs ≤ length out) → (count_says r ≡ count_says r') × (o ≡ o')
    go (inl l) = let a = p.long l in let b = q.long l in (a.0 ∙ sym b.0, a.1 ∙ sym b.1)
    go (inr l) =
        let a = p.fits l in
        let b = q.fits l in
        let k = length xs in
        let x : take k o ≡ take k o' = a.1 ∙ sym b.1 in
        let y : drop k o ≡ drop k o' = a.2 ∙ sym b.2 in
        (a.0 ∙ sym b.0, sym (take-append-drop k o) ∙ ap (λ (l : List ℕ). l ++ drop k o) x ∙ ap (λ (l : List ℕ). take k o' ++ l) y ∙ take-append-drop k o')

-- ---- setup: of any words

pub setup_one : (ws : List ℕ) (n m : ℕ) (r r' : Result Unit Refusal) (ws1 ws1' : List ℕ) → SetupSays ws n m r ws1 → SetupSays ws n m r' ws1'
    → (setup_says r ≡ setup_says r') × ((ws1 ≡ ws1') ⊎ One (setup_says r) (setup_says r') ws1 ws1')
setup_one ws n m r r' ws1 ws1' s t =
    both_ends (limits_or n m) s t (λ p q. (p.0 ∙ sym q.0, inl (p.1 ∙ sym q.1)))
    (λ s t. both_ends (lt_or (length ws) (need n m)) s t (λ p q. (p.0 ∙ sym q.0, inl (p.1 ∙ sym q.1))) (λ p q. (
      p.done ∙ sym q.done,
      inr (record {
        answer = p.done ∙ sym q.done;
        limits = (ap (λ (k : Head). k.n) (q.limits ∙ sym p.limits), ap (λ (k : Head). k.m) (q.limits ∙ sym p.limits));
        graph = (fresh, p.held, q.held);
      }),
    )))

-- ---- reads of any words

module _ (ws : List ℕ) where
  -- refused by 3 alike
  good_ends : {N X N' X' R : Type 0} → Unless3 ws N X → Unless3 ws N' X' → (N → N' → R) → (X → X' → R) → R
  good_ends s t n f = both_ends (dec_or (good_test ws)) s t n f

  pub find_same : (i : ℕ) (r r' : Result Id Refusal) → FindSays ws i r → FindSays ws i r' → id_says r ≡ id_says r'
  find_same i r r' s t =
      good_ends s t (λ p q. p ∙ sym q)
      (λ s t. both_ends (or_lt i (head_of ws).ids) s t (λ p q. p ∙ sym q) (λ p q. p.exact ∙ sym q.exact))

  pub count_same : (r r' : Result ℕ Refusal) → CountSays ws r → CountSays ws r' → count_says r ≡ count_says r'
  count_same r r' s t = good_ends s t (λ p q. p ∙ sym q) (λ p q. p.exact ∙ sym q.exact)

  pub empty_same : (r r' : Result Bool Refusal) → EmptySays ws r → EmptySays ws r' → flag_says r ≡ flag_says r'
  empty_same r r' s t = good_ends s t (λ p q. p ∙ sym q) (λ p q. p.exact ∙ sym q.exact)

  pub clean_same : (r r' : Result Bool Refusal) → CleanSays ws r → CleanSays ws r' → flag_says r ≡ flag_says r'
  clean_same r r' s t = good_ends s t (λ p q. p ∙ sym q) (λ p q. p.exact ∙ sym q.exact)

  pub node_same : (i : ℕ) (r r' : Result Node Refusal) → NodeSays ws i r → NodeSays ws i r' → node_says r ≡ node_says r'
  node_same i r r' s t =
      good_ends s.says t.says (λ p q. p ∙ sym q)
      (λ s t. both_ends (or_lt i (head_of ws).ids) s t (λ p q. p ∙ sym q)
      (λ s t. both_ends (dec_or (row_test (head_of ws) ws i)) s.exact t.exact (λ p q. p ∙ sym q) (λ p q. p ∙ sym q)))

  pub total_same : (r r' : Result ℕ Refusal) → TotalSays ws r → TotalSays ws r' → count_says r ≡ count_says r'
  total_same r r' s t =
      good_ends s t (λ p q. p ∙ sym q)
      (λ s t. both_ends (clean_or (head_of ws).clean) s t (λ p q. p ∙ sym q)
      (λ s t. both_ends (lt_or (head_of ws).ids (total_in (head_of ws) ws)) s.exact t.exact (λ p q. p ∙ sym q) (λ p q. p ∙ sym q)))

  -- a list: one answer and one slice
  module _ (out : List ℕ) (r r' : Result ℕ Refusal) (o o' : List ℕ) where
    abbrev Same : Type 0
    Same = (count_says r ≡ count_says r') × (o ≡ o')

    refused_same : {k : ℕ} → (count_says r ≡ no_by k) × (o ≡ out) → (count_says r' ≡ no_by k) × (o' ≡ out) → Same
    refused_same p q = (p.0 ∙ sym q.0, p.1 ∙ sym q.1)

    at_same : {Whole : Type 0} → Dec Whole → (xs : List ℕ) → ListAt Whole xs out r o → ListAt Whole xs out r' o' → Same
    at_same d xs s t = both_ends (dec_or d) s t (λ p q. refused_same p q) (λ p q. lists_one xs out r r' o o' p q)

    pub nodes_same : NodesSays ws out r o → NodesSays ws out r' o' → Same
    nodes_same s t =
        good_ends s.says t.says (λ p q. refused_same p q)
        (λ p q. at_same (rows_test (head_of ws) ws) (nodes_in (head_of ws) ws) p.exact q.exact)

    list_same : (list : Graph → List ℕ) (reads : Head → List ℕ → List ℕ) → ListSays list reads ws out r o → ListSays list reads ws out r' o' → Same
    list_same list reads s t =
        good_ends s.says t.says (λ p q. refused_same p q)
        (λ s t. both_ends (clean_or (head_of ws).clean) s t (λ p q. refused_same p q)
        (λ p q. at_same (unbroken_test (head_of ws) ws) (reads (head_of ws) ws) p.exact q.exact))

    pub for_op_same : (op : ℕ) → ForOpSays ws op out r o → ForOpSays ws op out r' o' → Same
    for_op_same op s t = list_same _ _ s t

    pub classes_same : ClassesSays ws out r o → ClassesSays ws out r' o' → Same
    classes_same s t = list_same _ _ s t

-- ---- two slices of words that hold one graph under the same limits

module _ (ws ws' : List ℕ) (g : Graph) (H : Holds ws g) (H' : Holds ws' g) (L : SameLimits ws ws') where
  -- their heads say the same
  ids_same : (head_of ws').ids ≡ (head_of ws).ids
  ids_same = H'.at_rest.ids_are ∙ sym H.at_rest.ids_are

  places_same : (head_of ws').places ≡ (head_of ws).places
  places_same = H'.at_rest.places_are ∙ sym H.at_rest.places_are

  full_same : (x : Term) → Full (head_of ws) x → Full (head_of ws') x
  full_same x (inl f) = inl (omega (arith, L.0, ids_same))
  full_same x (inr f) = inr (omega (arith, L.1, places_same))

  room_same : (x : Term) → Room (head_of ws) x → Room (head_of ws') x
  room_same x f = (omega (arith, f.0, L.0, ids_same), omega (arith, f.1, L.1, places_same))

  -- 3 does not come
  pub open_both : {N X N' X' R : Type 0} → Unless3 ws N X → Unless3 ws' N' X' → (X → X' → R) → R
  open_both s t f = f (s.on H.good) (t.on H'.good)

  -- an id, known or not
  pub id_ends : (i : ℕ) {N X N' X' R : Type 0} → Else ((head_of ws).ids ≤ i) N (i < (head_of ws).ids) X → Else ((head_of ws').ids ≤ i) N' (i < (head_of ws').ids) X' → (N → N' → R) → (X → X' → R) → R
  id_ends i {N' = N'} {X' = X'} s t n f = both_ends (or_lt i (head_of ws).ids) s (subst (λ (k : ℕ). Else (k ≤ i) N' (i < k) X') ids_same t) n f

  -- clean or not
  pub clean_ends : {N X N' X' R : Type 0} → Unless7 ws N X → Unless7 ws' N' X' → (N → N' → R) → (X → X' → R) → R
  clean_ends {N' = N'} {X' = X'} s t n f =
      both_ends (clean_or (head_of ws).clean) s (subst (λ (b : Bool). Else (b ≡ false) N' (b ≡ true) X') (held_clean H' ∙ sym (held_clean H)) t) n f

  -- answered alike, and no word of either changed
  pub left_alone : {a a' : Answer} {ws1 ws1' : List ℕ} → ws1 ≡ ws → ws1' ≡ ws' → a ≡ a' → One a a' ws1 ws1'
  left_alone p q e = record { answer = e; limits = rw (p, q) L; graph = (g, rw p H, rw q H') }

  -- refused alike, with no word changed
  refused : {a a' : Answer} {k : ℕ} {ws1 ws1' : List ℕ} → (a ≡ no_by k) × (ws1 ≡ ws) → (a' ≡ no_by k) × (ws1' ≡ ws') → One a a' ws1 ws1'
  refused p q = left_alone p.1 q.1 (p.0 ∙ sym q.0)

  -- answered alike
  answered : {a a' : Answer} {vs : List ℕ} {ws1 ws1' : List ℕ} {k : Graph} → SameLimits ws ws1 → SameLimits ws' ws1' → (a ≡ yes_with vs) × Holds ws1 k → (a' ≡ yes_with vs) × Holds ws1' k → One a a' ws1 ws1'
  answered {k = k} l l' p q = record { answer = p.0 ∙ sym q.0; limits = (l'.0 ∙ L.0 ∙ sym l.0, l'.1 ∙ L.1 ∙ sym l.1); graph = (k, p.1, q.1) }

  -- ---- reads, which change nothing

  pub find_one : (i : ℕ) (r r' : Result Id Refusal) → FindSays ws i r → FindSays ws' i r' → id_says r ≡ id_says r'
  find_one i r r' s t = open_both s t (λ s t. id_ends i s t (λ p q. p ∙ sym q) (λ p q. p.sound g H ∙ sym (q.sound g H')))

  pub count_one : (r r' : Result ℕ Refusal) → CountSays ws r → CountSays ws' r' → count_says r ≡ count_says r'
  count_one r r' s t = open_both s t (λ p q. p.sound g H ∙ sym (q.sound g H'))

  pub empty_one : (r r' : Result Bool Refusal) → EmptySays ws r → EmptySays ws' r' → flag_says r ≡ flag_says r'
  empty_one r r' s t = open_both s t (λ p q. p.sound g H ∙ sym (q.sound g H'))

  pub clean_one : (r r' : Result Bool Refusal) → CleanSays ws r → CleanSays ws' r' → flag_says r ≡ flag_says r'
  clean_one r r' s t = open_both s t (λ p q. p.sound g H ∙ sym (q.sound g H'))

  pub node_one : (i : ℕ) (r r' : Result Node Refusal) → NodeSays ws i r → NodeSays ws' i r' → node_says r ≡ node_says r'
  node_one i r r' s t = open_both s.says t.says (λ s t. id_ends i s t (λ p q. p ∙ sym q) (λ p q. p.sound g H ∙ sym (q.sound g H')))

  pub nodes_one : (out : List ℕ) (r r' : Result ℕ Refusal) (o o' : List ℕ) → NodesSays ws out r o → NodesSays ws' out r' o' → (count_says r ≡ count_says r') × (o ≡ o')
  nodes_one out r r' o o' s t = open_both s.says t.says (λ p q. lists_one (nodes g) out r r' o o' (p.sound g H) (q.sound g H'))

  -- ---- the classes of a clean graph

  pub total_one : (r r' : Result ℕ Refusal) → TotalSays ws r → TotalSays ws' r' → count_says r ≡ count_says r'
  total_one r r' s t = both_ends (clean_or g.clean) (total_held ws g H r s) (total_held ws' g H' r' t) (λ p q. p ∙ sym q) (λ p q. p ∙ sym q)

  list_one : (list : Graph → List ℕ) (reads : Head → List ℕ → List ℕ) (out : List ℕ) (r r' : Result ℕ Refusal) (o o' : List ℕ) → ListSays list reads ws out r o → ListSays list reads ws' out r' o'
      → (count_says r ≡ count_says r') × (o ≡ o')
  list_one list reads out r r' o o' s t =
      both_ends (clean_or g.clean) (list_held list reads ws g H out r o s) (list_held list reads ws' g H' out r' o' t) (λ p q. (p.0 ∙ sym q.0, p.1 ∙ sym q.1))
      (λ p q. lists_one (list g) out r r' o o' p q)

  pub for_op_one : (op : ℕ) (out : List ℕ) (r r' : Result ℕ Refusal) (o o' : List ℕ) → ForOpSays ws op out r o → ForOpSays ws' op out r' o' → (count_says r ≡ count_says r') × (o ≡ o')
  for_op_one op out r r' o o' s t = list_one (λ (k : Graph). classes_for_op k op) _ out r r' o o' s t

  pub classes_one : (out : List ℕ) (r r' : Result ℕ Refusal) (o o' : List ℕ) → ClassesSays ws out r o → ClassesSays ws' out r' o' → (count_says r ≡ count_says r') × (o ≡ o')
  classes_one out r r' o o' s t = list_one classes _ out r r' o o' s t

  -- ---- a node in hand

  node_ends : (x : Node) {No No' : ℕ → Type 0} {X X' R : Type 0} → NodeLadder ws x No X → NodeLadder ws' x No' X' → ((k : ℕ) → No k → No' k → R) → (X → X' → R) → R
  node_ends x {No' = No'} {X' = X'} s t n f =
      open_both s t (λ s t. both_ends (lt_or places x.count) s t (n 5)
      (λ s t. both_ends (low_or (node_of x).kids (head_of ws).ids) s (subst (λ (k : ℕ). Else (Known (node_of x) k → ⊥) (No' 4) (Known (node_of x) k) X') ids_same t) (n 4) f))

  pub lookup_one : (x : Node) (r r' : Result (Option Id) Refusal) → LookupSays ws x r → LookupSays ws' x r' → lookup_says r ≡ lookup_says r'
  lookup_one x r r' s t =
      node_ends x {No = λ k. lookup_says r ≡ no_by k} {No' = λ k. lookup_says r' ≡ no_by k} s t (λ k p q. p ∙ sym q) (λ p q. p.sound g H ∙ sym (q.sound g H'))

  -- `add_uncanonical` and `add`
  pub adding_one : (id : Graph → ℕ) (x : Node) (r r' : Result Id Refusal) (ws1 ws1' : List ℕ) → AddingSays id ws x r ws1 → AddingSays id ws' x r' ws1' → One (id_says r) (id_says r') ws1 ws1'
  adding_one id x r r' ws1 ws1' s t =
      node_ends x {No = λ k. (id_says r ≡ no_by k) × (ws1 ≡ ws)} {No' = λ k. (id_says r' ≡ no_by k) × (ws1' ≡ ws')} s t (λ k p q. refused p q)
      (λ p q. go p q (kept_for g (node_of x)) refl)
    where
      go : Adding id ws (node_of x) r ws1 → Adding id ws' (node_of x) r' ws1' → (o : Option ℕ) → kept_for g (node_of x) ≡ o → One (id_says r) (id_says r') ws1 ws1'
      go p q (Some i) k =
          let a = p.found g i H k in
          let b = q.found g i H' k in
          answered {vs = id g ∷ []} {k = g} p.limits q.limits (a.0, rw a.1 H) (b.0, rw b.1 H')
      go p q None k = room (full_or (head_of ws) (node_of x))
        where
          room : Full (head_of ws) (node_of x) ⊎ Room (head_of ws) (node_of x) → One (id_says r) (id_says r') ws1 ws1'
          room (inl f) = refused (p.shut g H k f) (q.shut g H' k (full_same (node_of x) f))
          room (inr f) = answered p.limits q.limits (p.grown g H k f) (q.grown g H' k (room_same (node_of x) f))

  -- ---- union

  pub union_one : (i j : ℕ) (r r' : Result Bool Refusal) (ws1 ws1' : List ℕ) → UnionSays ws i j r ws1 → UnionSays ws' i j r' ws1' → One (flag_says r) (flag_says r') ws1 ws1'
  union_one i j r r' ws1 ws1' s t =
      open_both s t (λ s t. both_ends (two_or i j (head_of ws).ids) s
      (subst (λ (k : ℕ). Else ((k ≤ i) ⊎ (k ≤ j)) ((flag_says r' ≡ no_by 4) × (ws1' ≡ ws')) ((i < k) × (j < k)) (UnionOpen ws' i j r' ws1')) ids_same t)
      (λ p q. refused p q) (λ p q. answered p.limits q.limits (p.sound g H) (q.sound g H')))

  -- ---- rebuild, of a graph that calls made

  pub rebuild_one : (us : List (ℕ × ℕ)) → Made us g → (r r' : Result ℕ Refusal) (ws1 ws1' : List ℕ) → RebuildSays ws r ws1 → RebuildSays ws' r' ws1' → One (count_says r) (count_says r') ws1 ws1'
  rebuild_one us M r r' ws1 ws1' s t =
      let E = ends M in
      open_both s t (λ p q. answered p.limits q.limits (p.sound g us H M E.0 E.1 E.2 E.3) (q.sound g us H' M E.0 E.1 E.2 E.3))
