-- What asking for a node and adding it promise: on any words, what they leave alone and which answers they give; on words that hold a graph, whether the node is found,
-- and which graph an add leaves. A node not found has no room if n ids exist already, or if its children would pass m places.
-- Assumes nothing.
use Rattle.std.specs.Prelude.{Err, None, Ok, Result, Some, List, ◌⊎◌, ◌≡◌, ◌+◌, ◌<◌, ◌≤◌, ℕ, length, Option}
use Rattle.broken.specs.declared.Broken.{Broken}
use Rattle.language.specs.Fitting.{term}
use Rattle.language.specs.Term.{Term}
use Rattle.language.specs.declared.Id.{Id}
use Rattle.language.specs.declared.fit.Fit.{Fit}
use Rattle.steps.specs.Graph.{Graph, canon, kept}
use Rattle.steps.specs.Machine.{grow}
use Rattle.adding.specs.declared.GiveError.{GiveError}
use Rattle.adding.specs.declared.GiveError.TheVariants.{NoRoom}
use Rattle.adding.specs.declared.Given.{Given}
use Rattle.adding.specs.declared.Given.TheVariants.{New as GivenNew, Old as GivenOld}
use Rattle.adding.specs.declared.Probed.{Probed}
use Rattle.growing.specs.Roots.{Rooted}
use Rattle.holds.specs.Holds.{HoldsAt}
use Rattle.holds.specs.Inside.{Inside, Near}
use Rattle.layout.specs.View.{view}
use Rattle.layout.specs.declared.Head.{Head}

-- the id that the table of g keeps for the node
abbrev pub kept_for : Graph → Term → Option ℕ
kept_for g x = kept (canon g.roots x) g.memo

-- the key is the node with root children, where the words hold a graph; on any words it is a node of as many children, which are ids
pub record Probes (h : Head) (x : Fit) (ws : List ℕ) (r : Result Probed Broken) : Type 0 where
  pub key : (p : Probed) → r ≡ Ok p → Rooted h x p.key
  pub inside : (p : Probed) (i : Id) → r ≡ Ok p → p.seen ≡ Some i → i.0 < h.ids
  pub found : (g : Graph) (u i : ℕ) → HoldsAt h u (view h.n h.m ws) g → kept_for g (term x) ≡ Some i
      → (p : Probed) × (r ≡ Ok p) × (p.seen ≡ Some (record { 0 = i }))
  pub absent : (g : Graph) (u : ℕ) → HoldsAt h u (view h.n h.m ws) g → kept_for g (term x) ≡ None
      → (p : Probed) × (r ≡ Ok p) × (p.seen ≡ None) × (term p.key ≡ canon g.roots (term x))

abbrev pub Full : Head → Term → Type 0
Full h x = (h.n ≤ h.ids) ⊎ (h.m < h.places + length x.kids)

abbrev pub Room : Head → Term → Type 0
Room h x = (h.ids < h.n) × (h.places + length x.kids ≤ h.m)

-- what `give` answers, with the head that it leaves: an id that was there, or a new one
pub data Gave : Type 0 where
  Old : Id → Head → Gave
  New : Id → Head → Gave

abbrev pub given : Head → Result Given GiveError → Result Gave GiveError
given h (Ok (GivenOld i)) = Ok (Old i h)
given h (Ok (GivenNew i)) = Ok (New i h)
given h (Err e) = Err e

pub record Gives (h : Head) (x : Term) (ws : List ℕ) (r : Result Gave GiveError) (ws' : List ℕ) : Type 0 where
  pub inside : Inside h.n h.m ws ws'
  pub old : (i : Id) (k : Head) → r ≡ Ok (Old i k) → (i.0 < h.ids) × (k ≡ h) × (ws' ≡ ws)
  pub full : r ≡ Err NoRoom → Full h x × (ws' ≡ ws)
  pub new : (i : Id) (k : Head) → r ≡ Ok (New i k) → (i.0 ≡ h.ids) × Near (length ws) h k × (k.ids ≡ h.ids + 1)
  pub found : (g : Graph) (i : ℕ) → HoldsAt h h.places (view h.n h.m ws) g → kept_for g x ≡ Some i → r ≡ Ok (Old (record { 0 = i }) h)
  pub shut : (g : Graph) → HoldsAt h h.places (view h.n h.m ws) g → kept_for g x ≡ None → Full h x → r ≡ Err NoRoom
  pub grown : (g : Graph) → HoldsAt h h.places (view h.n h.m ws) g → kept_for g x ≡ None → Room h x
      → (k : Head) × (r ≡ Ok (New (record { 0 = h.ids }) k)) × HoldsAt k k.places (view h.n h.m ws') (grow g x)
