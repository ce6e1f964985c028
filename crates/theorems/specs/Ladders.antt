-- What the promises settle on any words at all, also on words that hold no graph. Two outcomes of one call on the same words are refused alike, with nothing changed, or
-- neither is refused by what the head and the arguments settle (1, 2, 3, 5, 4 and 7); and no call changes the number of words, a word past the need, or the length of a
-- slice lent for a list or a form.
-- Assumes nothing.
use Rattle.egraph.specs.declared.Refusal.{Refusal}
use Rattle.language.specs.declared.Id.{Id}
use Rattle.extract.specs.declared.Form.{Form}
use Rattle.std.specs.Prelude.{Bool, Option, Result, List, ◌⊎◌, ◌≡◌, ℕ, drop, length}
use Rattle.std.proofs.Common.{inl, inr, ◌∙◌, ap, sym}
use Rattle.lists.specs.Tests.{lt_or}
use Rattle.language.specs.Struct.{node_of}
use Rattle.language.specs.Term.{places}
use Rattle.language.specs.declared.Node.{Node}
use Rattle.steps.specs.Graph.{Graph}
use Rattle.egraph.specs.Adds.{Adding, AddingSays, LookupOpen, LookupSays, NodeLadder}
use Rattle.egraph.specs.Answers.{Answer, Else, Good, id_says, count_says, flag_says, head_of, lookup_says, no_by, past}
use Rattle.egraph.specs.ClassLists.{ListSays}
use Rattle.egraph.specs.Listing.{NodesSays}
use Rattle.egraph.specs.Reads.{CleanSays, CountSays, EmptySays}
use Rattle.egraph.specs.Rebuilds.{RebuildOpen, RebuildSays}
use Rattle.egraph.specs.Setup.{SetupSays}
use Rattle.egraph.specs.Unions.{UnionOpen, UnionSays}
use Rattle.extract.specs.Cost.{CostOpen, CostSays}
use Rattle.extract.specs.Form.{FormOpen, FormSays, form_says}
use Rattle.layout.specs.Cut.{need}
use Rattle.layout.specs.declared.Head.{Head}
use Rattle.theorems.specs.Outcomes.{both_ends, clean_or, limits_or, low_or, or_lt, two_or, count_same, empty_same, clean_same, dec_or}
use Rattle.egraph.specs.Whole.{good_test}

-- ---- decisions

-- a good head, or not
pub good_or : (ws : List ℕ) → (Good ws → ⊥) ⊎ Good ws
good_or ws = dec_or (good_test ws)

-- ---- two outcomes on the same words

-- the same answer and the same words, or both below the ladder
abbrev pub Alike : Answer → Answer → List ℕ → List ℕ → Type 0 → Type 0 → Type 0
Alike a a' ws ws' X X' = ((a ≡ a') × (ws ≡ ws')) ⊎ (X × X')

-- refused by one number, with nothing changed
both_no : {a a' : Answer} {k : ℕ} {w w1 w1' : List ℕ} {X X' : Type 0} → (a ≡ no_by k) × (w1 ≡ w) → (a' ≡ no_by k) × (w1' ≡ w) → Alike a a' w1 w1' X X'
both_no p q = inl (p.0 ∙ sym q.0, p.1 ∙ sym q.1)

module _ (ws : List ℕ) where
  -- what stands in the head is answered
  pub count_any : (r r' : Result ℕ Refusal) → CountSays ws r → CountSays ws r' → count_says r ≡ count_says r'
  count_any r r' s t = count_same ws r r' s t

  pub empty_any : (r r' : Result Bool Refusal) → EmptySays ws r → EmptySays ws r' → flag_says r ≡ flag_says r'
  empty_any r r' s t = empty_same ws r r' s t

  pub clean_any : (r r' : Result Bool Refusal) → CleanSays ws r → CleanSays ws r' → flag_says r ≡ flag_says r'
  clean_any r r' s t = clean_same ws r r' s t

  -- a node in hand: 3, 5 and 4
  node_any : (x : Node) {No No' : ℕ → Type 0} {X X' R : Type 0} → NodeLadder ws x No X → NodeLadder ws x No' X' → ((k : ℕ) → No k → No' k → R) → (X → X' → R) → R
  node_any x s t n f =
      both_ends (good_or ws) s t (n 3)
      (λ s t. both_ends (lt_or places x.count) s t (n 5)
      (λ s t. both_ends (low_or (node_of x).kids (head_of ws).ids) s t (n 4) f))

  pub lookup_any : (x : Node) (r r' : Result (Option Id) Refusal) → LookupSays ws x r → LookupSays ws x r'
      → (lookup_says r ≡ lookup_says r') ⊎ (LookupOpen ws (node_of x) r × LookupOpen ws (node_of x) r')
  lookup_any x r r' s t = node_any x {No = λ k. lookup_says r ≡ no_by k} {No' = λ k. lookup_says r' ≡ no_by k} s t (λ k p q. inl (p ∙ sym q)) (λ p q. inr (p, q))

  pub adding_any : (id : Graph → ℕ) (x : Node) (r r' : Result Id Refusal) (ws1 ws1' : List ℕ) → AddingSays id ws x r ws1 → AddingSays id ws x r' ws1'
      → Alike (id_says r) (id_says r') ws1 ws1' (Adding id ws (node_of x) r ws1) (Adding id ws (node_of x) r' ws1')
  adding_any id x r r' ws1 ws1' s t =
      node_any x {No = λ k. (id_says r ≡ no_by k) × (ws1 ≡ ws)} {No' = λ k. (id_says r' ≡ no_by k) × (ws1' ≡ ws)} s t (λ k p q. both_no p q) (λ p q. inr (p, q))

  pub union_any : (i j : ℕ) (r r' : Result Bool Refusal) (ws1 ws1' : List ℕ) → UnionSays ws i j r ws1 → UnionSays ws i j r' ws1'
      → Alike (flag_says r) (flag_says r') ws1 ws1' (UnionOpen ws i j r ws1) (UnionOpen ws i j r' ws1')
  union_any i j r r' ws1 ws1' s t = both_ends (good_or ws) s t (λ p q. both_no p q) (λ s t. both_ends (two_or i j (head_of ws).ids) s t (λ p q. both_no p q) (λ p q. inr (p, q)))

  pub rebuild_any : (r r' : Result ℕ Refusal) (ws1 ws1' : List ℕ) → RebuildSays ws r ws1 → RebuildSays ws r' ws1'
      → Alike (count_says r) (count_says r') ws1 ws1' (RebuildOpen ws r ws1) (RebuildOpen ws r' ws1')
  rebuild_any r r' ws1 ws1' s t = both_ends (good_or ws) s t (λ p q. both_no p q) (λ p q. inr (p, q))

  -- sizes and forms: no word changes at all
  pub cost_any : (i : ℕ) (r r' : Result ℕ Refusal) (ws1 ws1' : List ℕ) → CostSays ws i r ws1 → CostSays ws i r' ws1'
      → ((count_says r ≡ count_says r') ⊎ (CostOpen ws i r × CostOpen ws i r')) × (ws1 ≡ ws1')
  cost_any i r r' ws1 ws1' S T = (
    both_ends (good_or ws) S.says T.says (λ p q. inl (p ∙ sym q))
        (λ s t. both_ends (or_lt i (head_of ws).ids) s t (λ p q. inl (p ∙ sym q))
        (λ s t. both_ends (clean_or (head_of ws).clean) s t (λ p q. inl (p ∙ sym q)) (λ p q. inr (p, q)))),
    S.same ∙ sym T.same,
  )

  pub form_any : (i : ℕ) (out : List ℕ) (r r' : Result Form Refusal) (ws1 ws1' out1 out1' : List ℕ) → FormSays ws i out r ws1 out1 → FormSays ws i out r' ws1' out1'
      → Alike (form_says r) (form_says r') out1 out1' (FormOpen ws i out r out1) (FormOpen ws i out r' out1') × (ws1 ≡ ws1')
  form_any i out r r' ws1 ws1' out1 out1' S T = (
    both_ends (good_or ws) S.says T.says (λ p q. both_no p q)
        (λ s t. both_ends (or_lt i (head_of ws).ids) s t (λ p q. both_no p q)
        (λ s t. both_ends (clean_or (head_of ws).clean) s t (λ p q. both_no p q) (λ p q. inr (p, q)))),
    S.same ∙ sym T.same,
  )

-- ---- on any words: their number stays, and so do the words past the need

-- past the need of the limits that stand in ws
abbrev pub Inside : List ℕ → List ℕ → Type 0
Inside ws ws' = (length ws' ≡ length ws) × (past ws ws' ≡ past ws ws)

unchanged : {ws ws' : List ℕ} → ws' ≡ ws → Inside ws ws'
unchanged {ws} e = (ap length e, ap (past ws) e)

-- a step of a ladder that refuses with the slice as it was
slice_down : {B G X : Type 0} {a : Answer} {k : ℕ} {out out' : List ℕ} → B ⊎ G → Else B ((a ≡ no_by k) × (out' ≡ out)) G X → (X → length out' ≡ length out) → length out' ≡ length out
slice_down (inl b) s f = ap length (s.no b).1
slice_down (inr g) s f = f (s.on g)

module _ (ws ws' : List ℕ) where
  -- a step of a ladder that refuses with no word changed
  down : {B G X R : Type 0} {a : Answer} {k : ℕ} → (ws' ≡ ws → R) → B ⊎ G → Else B ((a ≡ no_by k) × (ws' ≡ ws)) G X → (X → R) → R
  down n (inl b) s f = n (s.no b).1
  down n (inr g) s f = f (s.on g)

  pub setup_inside : (n m : ℕ) (r : Result Unit Refusal) → SetupSays ws n m r ws' → (length ws' ≡ length ws) × (drop (need n m) ws' ≡ drop (need n m) ws)
  setup_inside n m r s = down same (limits_or n m) s (λ s. down same (lt_or (length ws) (need n m)) s (λ o. (o.size, o.rest)))
    where
      same : ws' ≡ ws → (length ws' ≡ length ws) × (drop (need n m) ws' ≡ drop (need n m) ws)
      same e = (ap length e, ap (drop (need n m)) e)

  pub adding_inside : (id : Graph → ℕ) (x : Node) (r : Result Id Refusal) → AddingSays id ws x r ws' → Inside ws ws'
  adding_inside id x r s =
      down unchanged (good_or ws) s (λ s. down unchanged (lt_or places x.count) s (λ s. down unchanged (low_or (node_of x).kids (head_of ws).ids) s (λ o. (o.size, o.rest))))

  pub union_inside : (i j : ℕ) (r : Result Bool Refusal) → UnionSays ws i j r ws' → Inside ws ws'
  union_inside i j r s = down unchanged (good_or ws) s (λ s. down unchanged (two_or i j (head_of ws).ids) s (λ o. (o.size, o.rest)))

  pub rebuild_inside : (r : Result ℕ Refusal) → RebuildSays ws r ws' → Inside ws ws'
  rebuild_inside r s = down unchanged (good_or ws) s (λ o. (o.size, o.rest))

  pub cost_inside : (i : ℕ) (r : Result ℕ Refusal) → CostSays ws i r ws' → Inside ws ws'
  cost_inside i r s = unchanged s.same

  pub form_inside : (i : ℕ) (out : List ℕ) (r : Result Form Refusal) (out' : List ℕ) → FormSays ws i out r ws' out' → Inside ws ws' × (length out' ≡ length out)
  form_inside i out r out' s = (
    unchanged s.same,
    slice_down (good_or ws) s.says (λ s. slice_down (or_lt i (head_of ws).ids) s (λ s. slice_down (clean_or (head_of ws).clean) s (λ o. o.fair.size))),
  )

-- of a slice lent for a list
pub nodes_inside : (ws out : List ℕ) (r : Result ℕ Refusal) (out' : List ℕ) → NodesSays ws out r out' → length out' ≡ length out
nodes_inside ws out r out' s = slice_down (good_or ws) s.says (λ o. o.size)

pub list_inside : (list : Graph → List ℕ) (reads : Head → List ℕ → List ℕ) (ws out : List ℕ) (r : Result ℕ Refusal) (out' : List ℕ) → ListSays list reads ws out r out' → length out' ≡ length out
list_inside list reads ws out r out' s = slice_down (good_or ws) s.says (λ s. slice_down (clean_or (head_of ws).clean) s (λ o. o.size))
