-- What it means that a line's call was made: for each verb, the call of that name was made on the line's numbers, there is an answer that
-- its promise allows, and what is told is that answer. Words and list are those before and after.
-- Assumes nothing.
use Rattle.std.specs.Prelude.{List, true, ◌≡◌, ℕ, ◌-◌, ◌≤◌, drop, take}
use Rattle.lists.specs.Reads.{at}
use Rattle.language.specs.declared.Node.{Node}
use Rattle.spelling.specs.Given.{GivenNode}
use Rattle.egraph.specs.Adds.{AddSays, LookupSays, UncanonicalSays}
use Rattle.egraph.specs.ClassLists.{ClassesSays, ForOpSays, TotalSays}
use Rattle.egraph.specs.Listing.{NodesSays, NodeSpelled}
use Rattle.egraph.specs.Reads.{CleanSays, CountSays, EmptySays, FindSays}
use Rattle.egraph.specs.Rebuilds.{RebuildSays}
use Rattle.egraph.specs.Setup.{SetupSays}
use Rattle.egraph.specs.Unions.{UnionSays}
use Rattle.extract.specs.Cost.{CostSays}
use Rattle.extract.specs.Form.{FormSays}
use Rattle.script.specs.declared.Call.{Call}
use Rattle.script.specs.Counts.{node_call, on_node}
use Rattle.script.specs.Line.{Says}
use Rattle.script.specs.declared.Reply.TheVariants as reply
use Rattle.script.specs.declared.Verb.{Verb}
use Rattle.script.specs.declared.Verb.TheVariants as verb
use Rattle.replaying.specs.Replies.{alone, count_told, flag_told, form_told, id_told, list_told, lookup_told, setup_told}
use Rattle.replaying.specs.declared.Told.{Told}

-- number i of a call
abbrev pub number : Call → ℕ → ℕ
number c i = at c.numbers i

-- the children among the first k numbers: those behind operator and payload
abbrev pub kids_of : ℕ → List ℕ → List ℕ
kids_of k ns = take (k - 2) (drop 2 ns)

-- there is an answer that the promise allows, and it is what is told
pub record Answered {A : Type 0} (Promise : A → Type 0) (told : A → Told) (r : Told) : Type 0 where
  pub answer : A
  pub says : Promise answer
  pub is : r ≡ told answer

-- the same of a call on the node that the first k numbers give: operator, payload, children
pub record AnsweredNode {A : Type 0} (k : ℕ) (ns : List ℕ) (Promise : Node → A → Type 0) (told : A → Told) (r : Told) : Type 0 where
  pub node : Node
  pub given : GivenNode (at ns 0) (at ns 1) (kids_of k ns) node
  pub made : Answered (Promise node) told r

abbrev pub SetupMade : Call → List ℕ → Told → List ℕ → Type 0
SetupMade c ws r ws' = Answered (λ a. SetupSays ws (number c 0) (number c 1) a ws') setup_told r

abbrev pub AddMade : ℕ → List ℕ → List ℕ → Told → List ℕ → Type 0
AddMade k ns ws r ws' = AnsweredNode k ns (λ x a. AddSays ws x a ws') id_told r

abbrev pub UncanonicalMade : ℕ → List ℕ → List ℕ → Told → List ℕ → Type 0
UncanonicalMade k ns ws r ws' = AnsweredNode k ns (λ x a. UncanonicalSays ws x a ws') id_told r

abbrev pub LookupMade : ℕ → List ℕ → List ℕ → Told → Type 0
LookupMade k ns ws r = AnsweredNode k ns (λ x a. LookupSays ws x a) lookup_told r

abbrev pub FindMade : Call → List ℕ → Told → Type 0
FindMade c ws r = Answered (λ a. FindSays ws (number c 0) a) id_told r

abbrev pub UnionMade : Call → List ℕ → Told → List ℕ → Type 0
UnionMade c ws r ws' = Answered (λ a. UnionSays ws (number c 0) (number c 1) a ws') flag_told r

abbrev pub RebuildMade : List ℕ → Told → List ℕ → Type 0
RebuildMade ws r ws' = Answered (λ a. RebuildSays ws a ws') count_told r

abbrev pub EmptyMade : List ℕ → Told → Type 0
EmptyMade ws r = Answered (λ a. EmptySays ws a) flag_told r

abbrev pub CleanMade : List ℕ → Told → Type 0
CleanMade ws r = Answered (λ a. CleanSays ws a) flag_told r

abbrev pub CountMade : List ℕ → Told → Type 0
CountMade ws r = Answered (λ a. CountSays ws a) count_told r

abbrev pub TotalMade : List ℕ → Told → Type 0
TotalMade ws r = Answered (λ a. TotalSays ws a) count_told r

abbrev pub CostMade : Call → List ℕ → Told → List ℕ → Type 0
CostMade c ws r ws' = Answered (λ a. CostSays ws (number c 0) a ws') count_told r

abbrev pub FormMade : Call → List ℕ → List ℕ → Told → List ℕ → List ℕ → Type 0
FormMade c ws list r ws' list' = Answered (λ a. FormSays ws (number c 0) list a ws' list') form_told r

abbrev pub ClassesMade : List ℕ → List ℕ → Told → List ℕ → Type 0
ClassesMade ws list r list' = Answered (λ a. ClassesSays ws list a list') list_told r

abbrev pub ForOpMade : Call → List ℕ → List ℕ → Told → List ℕ → Type 0
ForOpMade c ws list r list' = Answered (λ a. ForOpSays ws (number c 0) list a list') list_told r

abbrev pub NodesMade : List ℕ → List ℕ → Told → List ℕ → Type 0
NodesMade ws list r list' = Answered (λ a. NodesSays ws list a list') list_told r

abbrev pub NodeMade : List ℕ → ℕ → List ℕ → Told → List ℕ → Type 0
NodeMade ws i list r list' = Answered (λ a. NodeSpelled ws i list a list') list_told r

-- ---- the call of a line

-- what `parse` makes sure of
pub record Sound (c : Call) : Type 0 where
  pub enough : on_node c.verb ≡ true → 2 ≤ c.count

pub sound : {line : List ℕ} {c : Call} → Says line c → Sound c
sound {line} {c} s = record { enough = node_call line c s }

-- the call that a verb names was made; reads leave the words as they were
abbrev pub MadeBy : Verb → Call → List ℕ → List ℕ → Told → List ℕ → List ℕ → Type 0
MadeBy verb.Setup c ws l r ws' l' = SetupMade c ws r ws'
MadeBy verb.Add c ws l r ws' l' = AddMade c.count c.numbers ws r ws'
MadeBy verb.AddUncanonical c ws l r ws' l' = UncanonicalMade c.count c.numbers ws r ws'
MadeBy verb.Lookup c ws l r ws' l' = LookupMade c.count c.numbers ws r × (ws' ≡ ws)
MadeBy verb.Find c ws l r ws' l' = FindMade c ws r × (ws' ≡ ws)
MadeBy verb.Union c ws l r ws' l' = UnionMade c ws r ws'
MadeBy verb.Rebuild c ws l r ws' l' = RebuildMade ws r ws'
MadeBy verb.Classes c ws l r ws' l' = ClassesMade ws l r l' × (ws' ≡ ws)
MadeBy verb.ClassesForOp c ws l r ws' l' = ForOpMade c ws l r l' × (ws' ≡ ws)
MadeBy verb.Nodes c ws l r ws' l' = NodesMade ws l r l' × (ws' ≡ ws)
MadeBy verb.IdToNode c ws l r ws' l' = NodeMade ws (number c 0) l r l' × (ws' ≡ ws)
MadeBy verb.IsEmpty c ws l r ws' l' = EmptyMade ws r × (ws' ≡ ws)
MadeBy verb.Clean c ws l r ws' l' = CleanMade ws r × (ws' ≡ ws)
MadeBy verb.NumberOfClasses c ws l r ws' l' = CountMade ws r × (ws' ≡ ws)
MadeBy verb.TotalNumberOfNodes c ws l r ws' l' = TotalMade ws r × (ws' ≡ ws)
MadeBy verb.FindBestCost c ws l r ws' l' = CostMade c ws r ws'
MadeBy verb.FindBest c ws l r ws' l' = FormMade c ws l r ws' l'
MadeBy verb.Skip c ws l r ws' l' = (r ≡ alone reply.Skip) × (ws' ≡ ws)
MadeBy verb.Bad c ws l r ws' l' = (r ≡ alone reply.Bad) × (ws' ≡ ws)
