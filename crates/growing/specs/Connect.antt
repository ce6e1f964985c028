-- The new id is connected: linked to the parent list of each child's root, and pushed on pending.
-- Assumes nothing.
use Rattle.std.specs.Prelude.{Ok, Result, List, ◌≡◌, ◌*◌, ◌+◌, ◌<◌, ℕ, length}
use Rattle.broken.specs.declared.Broken.{Broken}
use Rattle.broken.specs.Words.{apart, broken, err≢ok}
use Rattle.steps.specs.Graph.{Graph}
use Rattle.steps.specs.Machine.{linked, pushed}
use Rattle.growing.specs.Link.{LinksAll}
use Rattle.growing.specs.Push.{PushesId, deeper}
use Rattle.holds.specs.Holds.{HoldsAt}
use Rattle.holds.specs.Inside.{Inside, inside_then}
use Rattle.layout.specs.View.{view}
use Rattle.layout.specs.declared.Head.{Head}

-- what `connect` promises, for the children ks from place `base` on
pub record Connects (h : Head) (base i : ℕ) (ks : List ℕ) (r : Result Unit Broken) (ws ws' : List ℕ) : Type 0 where
  pub inside : Inside h.n h.m ws ws'
  pub room : r ≡ Ok tt → h.depth < 2 * h.n
  pub sound : (g : Graph) → HoldsAt h base (view h.n h.m ws) g → h.depth + h.classes < 2 * h.ids
      → (r ≡ Ok tt) × HoldsAt (deeper h) (base + length ks) (view h.n h.m ws') (pushed (linked g i ks) i)

module _ (h : Head) (base i : ℕ) (ks : List ℕ) (r : Result Unit Broken) (ws ws1 : List ℕ) (L : LinksAll h base i ks r ws ws1) where
  pub connect_broken : r ≡ broken → Connects h base i ks broken ws ws1
  connect_broken e = record {
    inside = L.inside;
    room = λ q. err≢ok q;
    sound = λ g H few. apart e (L.sound g H).0;
  }

  pub connected : (q : Result Unit Broken) (ws2 : List ℕ) → PushesId h i q ws1 ws2 → Connects h base i ks q ws ws2
  connected q ws2 P = record {
    inside = inside_then L.inside P.inside;
    room = P.room;
    sound = λ g H few. P.sound (linked g i ks) (base + length ks) (L.sound g H).1 few;
  }
