-- A graph as it is read (src/graph.rt), seen as its parts.
-- Assumes nothing.
use Rattle.std.specs.Prelude.{length}
use Rattle.layout.specs.Head.{HeadIs}
use Rattle.layout.specs.View.{View, hd, view}
use Rattle.layout.specs.declared.graph.Graph.{Graph}

-- the parts of the graph's words
abbrev pub seen : Graph → View
seen g = view g.h.n g.h.m g.ws.now

-- its head is the one that stands in the words
abbrev pub HeadStands : Graph → Type 0
HeadStands g = HeadIs (length g.ws.now) (hd g.ws.now) g.h
