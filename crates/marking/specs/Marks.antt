-- What a mark says, and which calls it rests on. A refusal says nothing about an answer: where a call that the mark rests on was refused,
-- there is no mark.
-- Assumes nothing.
use Rattle.std.specs.Prelude.{Bool, Err, IsErrAnd, None, Ok, Option, Result, Some, false, true, eqb, ◌≡◌, List, [], ◌∷◌, ◌+◌, ◌<◌, ◌≤◌, ℕ, drop, get_or, length}
use Rattle.std.proofs.lemmas.List.{drop_all, drop_more}
use Rattle.std.proofs.lemmas.Result.{err_from_is_err_and}
use Rattle.language.specs.Struct.{node_of}
use Rattle.language.specs.Term.{Term, grown}
use Rattle.language.specs.declared.Id.{Id}
use Rattle.language.specs.declared.Node.{Node}
use Rattle.egraph.specs.Adds.{AddSays}
use Rattle.egraph.specs.Answers.{count_says, flag_says}
use Rattle.egraph.specs.Reads.{FindSays}
use Rattle.egraph.specs.Rebuilds.{RebuildSays}
use Rattle.egraph.specs.Setup.{SetupSays}
use Rattle.egraph.specs.Unions.{UnionSays}
use Rattle.egraph.specs.declared.Refusal.{Refusal}
use Rattle.marking.specs.declared.Mark.{Mark}
use Rattle.marking.specs.declared.Marks.{Marks}
use Rattle.marking.specs.declared.Mark.TheVariants.{Right, Wrong}

-- ---- what a mark says

-- by whether two roots are one
abbrev pub mark_if : Bool → Mark
mark_if true = Right
mark_if false = Wrong

-- by what was answered when the roots of the answer and of the key were asked for
abbrev pub mark_of : Result Id Refusal → Result Id Refusal → Option Mark
mark_of (Ok x) (Ok y) = Some (mark_if (eqb x.0 y.0))
mark_of (Ok x) (Err q) = None
mark_of (Err q) k = None

-- the root of a form: what `find` answers of its id; where the form was refused, that refusal
abbrev pub RootSays : List ℕ → Result Id Refusal → Result Id Refusal → Type 0
RootSays ws (Ok i) r = FindSays ws i.0 r
RootSays ws (Err q) r = r ≡ Err q

-- there are answers that the promise of `find` allows, and the mark is what they come to
pub record Marked (ws : List ℕ) (answer key : Result Id Refusal) (r : Option Mark) : Type 0 where
  pub answer_root : Result Id Refusal
  pub key_root : Result Id Refusal
  pub answer_says : RootSays ws answer answer_root
  pub key_says : RootSays ws key key_root
  pub is : r ≡ mark_of answer_root key_root

-- ---- the calls that it rests on

abbrev pub childless : ℕ → ℕ → Term
childless op payload = record { op = op; payload = payload; kids = [] }

-- the form x was added to the words ws, or refused, as `add` promises
pub record Added (x : Term) (ws : List ℕ) (r : Result Id Refusal) (ws' : List ℕ) : Type 0 where
  pub node : Node
  pub is : node_of node ≡ x
  pub says : AddSays ws node r ws'

-- the same of x with these children behind its own, each in turn; where one of them was refused, so is the form, and no call is made
pub data AddedOver (ws : List ℕ) : Term → List (Result Id Refusal) → Result Id Refusal → List ℕ → Type 0 where
  all_there : {x : Term} {r : Result Id Refusal} {ws' : List ℕ} → Added x ws r ws' → AddedOver ws x [] r ws'
  child_there : {x : Term} {i : Id} {cs : List (Result Id Refusal)} {r : Result Id Refusal} {ws' : List ℕ} → AddedOver ws (grown x i.0) cs r ws'
      → AddedOver ws x (Ok i ∷ cs) r ws'
  child_not : {x : Term} {q : Refusal} {cs : List (Result Id Refusal)} → AddedOver ws x (Err q ∷ cs) (Err q) ws

-- words that an accepted setup left, and adds after it
pub data Begun : List ℕ → Type 0 where
  set_up : (ws : List ℕ) (n m : ℕ) (ws' : List ℕ) → SetupSays ws n m (Ok tt) ws' → Begun ws'
  add_made : {x : Term} {ws : List ℕ} {r : Result Id Refusal} {ws' : List ℕ} → Begun ws → Added x ws r ws' → Begun ws'

-- a statement: a union, and a rebuild after it, both accepted
pub record Stated (ws ws' : List ℕ) : Type 0 where
  pub one : ℕ
  pub other : ℕ
  pub union : Result Bool Refusal
  pub united : List ℕ
  pub union_made : UnionSays ws one other union united
  pub union_accepted : (flag_says union).number ≡ 0
  pub rebuild : Result ℕ Refusal
  pub rebuild_made : RebuildSays united rebuild ws'
  pub rebuild_accepted : (count_says rebuild).number ≡ 0

-- a mark that a sheet may give: none, or one that rests on all of these
pub data Earned : Option Mark → Type 0 where
  not_marked : Earned None
  marked : {begun ws : List ℕ} {answer key : Result Id Refusal} {r : Option Mark} → Begun begun → Stated begun ws → Marked ws answer key r → Earned r

-- ---- as the code puts them together

-- a form over children, some of which were taken in: what answers for x with the rest of them answers for the form
abbrev pub Leads : List ℕ → Term → List (Result Id Refusal) → Term → List (Result Id Refusal) → Type 0
Leads ws x rest form cs = (r : Result Id Refusal) (ws' : List ℕ) → AddedOver ws x rest r ws' → AddedOver ws form cs r ws'

module _ (ws : List ℕ) (x form : Term) (cs : List (Result Id Refusal)) (k : ℕ) (d : Result Id Refusal) (L : Leads ws x (drop k cs) form cs) where
  pub next_there : (i : Id) → k < length cs → get_or cs k d ≡ Ok i → Leads ws (grown x i.0) (drop (k + 1) cs) form cs
  next_there i b e r ws' a = L r ws' (rw (drop_more cs k d b, e) (child_there a))

  pub next_not : (q : Refusal) → k < length cs → get_or cs k d ≡ Err q → (r : Result Id Refusal) → IsErrAnd r (λ p. p ≡ q)
      → AddedOver ws form cs r ws
  next_not q b e r h = let on = err_from_is_err_and r h in rw (on.1, on.2) (L (Err q) ws (rw (drop_more cs k d b, e) child_not))

  pub none_left : length cs ≤ k → (r : Result Id Refusal) (ws' : List ℕ) → Added x ws r ws' → AddedOver ws form cs r ws'
  none_left b r ws' a = L r ws' (rw (drop_all k cs b) (all_there a))

pub over_made : {x : Term} {cs : List (Result Id Refusal)} {ws : List ℕ} {r : Result Id Refusal} {ws' : List ℕ} → Begun ws → AddedOver ws x cs r ws'
    → Begun ws'
over_made {ws = ws} b a = from a
  where
    from : {x : Term} {cs : List (Result Id Refusal)} {r : Result Id Refusal} {ws' : List ℕ} → AddedOver ws x cs r ws' → Begun ws'
    from (all_there a) = add_made b a
    from (child_there a) = from a
    from child_not = b

pub unmarked : (m : Marks) → (m.careful ≡ None) × (m.mistaken ≡ None) → Earned m.careful × Earned m.mistaken
unmarked m e = (rw e.0 not_marked, rw e.1 not_marked)
