-- The node that plain numbers give: an operator, a payload and a list of children (document 01, "What a graph may hold"). A list of more children
-- than a node may have gives a node whose count says so, and a call refuses it by 5.
-- Assumes nothing.
use Rattle.std.specs.Prelude.{List, ◌≡◌, ℕ, ◌≤◌, ◌<◌, length}
use Rattle.language.specs.Struct.{node_of}
use Rattle.language.specs.Term.{Term, places}
use Rattle.language.specs.declared.Node.{Node}

abbrev pub term : ℕ → ℕ → List ℕ → Term
term o p ks = record { op = o; payload = p; kids = ks }

pub record GivenNode (o p : ℕ) (ks : List ℕ) (x : Node) : Type 0 where
  pub count : length ks ≤ places → x.count ≡ length ks
  pub node : length ks ≤ places → node_of x ≡ term o p ks
  pub many : places < length ks → places < x.count
