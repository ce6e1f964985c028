-- A script of calls, and what the definitions of `steps` and `price` answer to it, as a list of numbers: what the table of cases is computed with. Prices come from
-- `quick_table`, whose passes are counted so that it computes; on graphs that calls make it is `table` (`quick` of price, Graphs).
-- Assumes nothing.
use mathlib.Core.List.{List, [], ◌++◌, ◌∷◌, flat_map}
use Rattle.std.specs.Prelude.{Option, None, Some, ℕ}
use Rattle.std.proofs.Math.Decide.{dec_le, dec_lt, ℕ_discrete}
use Rattle.lists.specs.Keeps.{any, any_more, upto}
use Rattle.lists.specs.Relabel.{relabel}
use Rattle.lists.specs.Sums.{sum_of}
use Rattle.lists.specs.Tests.{when}
use Rattle.language.specs.Ordered.{compare, compare_all, order}
use Rattle.language.specs.Sorted.{insert, sorted}
use Rattle.language.specs.Term.{Term, same_list, same_term, spell}
use Rattle.steps.specs.Graph.{Graph, kept, node, root, uses}
use Rattle.steps.specs.Machine.{add_by, close, grow, link, merge, run, run_on, step, union_by}
use Rattle.steps.specs.Machine
use Rattle.steps.specs.Classes
use Rattle.price.specs.Adding.{add_on}
use Rattle.price.specs.Extract.{listing, quick_table}
use Rattle.price.specs.Listing.{each, enter, form_words, in_order, spot, visit}
use Rattle.price.specs.Pass.{Best, accept, best, better, look, pass, passes, passes_on, priced, prices, turn, with_price}
use Rattle.price.specs.Size.{AstSize, cap}
use Rattle.std.specs.Int.{from_bool}

-- a call, and what it answers
pub data Call : Type 0 where
  add : Term → Call  -- the root
  add_uncanonical : Term → Call  -- the kept id
  lookup : Term → Call  -- the root, or nothing
  find : ℕ → Call  -- the root
  union : ℕ → ℕ → Call  -- 1 for yes, 0 for no
  rebuild : Call  -- the number of yes answers
  clean : Call  -- 1 for yes, 0 for no
  number_of_classes : Call
  total_number_of_nodes : Call
  classes : Call  -- the words of the list
  classes_for_op : ℕ → Call  -- the roots
  nodes : Call  -- the words of the list
  find_best_cost : ℕ → Call  -- the size
  find_best : ℕ → Call  -- the words of the form

record Said : Type 0 where
  graph : Graph
  words : List ℕ

abbrev said : Graph → List ℕ → Said
said g ws = record { graph = g; words = ws }

abbrev or_nothing : Option ℕ → List ℕ
or_nothing None = []
or_nothing (Some i) = i ∷ []

abbrev price_or_nothing : Option (Best ℕ) → List ℕ
price_or_nothing None = []
price_or_nothing (Some b) = b.price ∷ []

-- a rebuild here takes fewer than 80 entries, or it answers nothing; so where the cases hold none was cut short (`run_rebuild` of closure)
call : Graph → Call → Said
call g (add x) = let a = Machine.add g x in said a.graph (a.id ∷ [])
call g (add_uncanonical x) = let a = Machine.add_uncanonical g x in said a.graph (a.id ∷ [])
call g (lookup x) = said g (or_nothing (Machine.lookup g x))
call g (find i) = said g (root g.roots i ∷ [])
call g (union i j) = let u = Machine.union g i j in said u.graph (from_bool u.answer ∷ [])
call g rebuild = let r = run 80 g in said r.graph (when (dec_lt r.entries 80) (r.yeses ∷ []) [])
call g clean = said g (from_bool g.clean ∷ [])
call g number_of_classes = said g (Classes.number_of_classes g ∷ [])
call g total_number_of_nodes = said g (Classes.total_number_of_nodes g ∷ [])
call g classes = said g (Classes.classes g)
call g (classes_for_op o) = said g (Classes.classes_for_op g o)
call g nodes = said g (Classes.nodes g)
call g (find_best_cost i) = said g (price_or_nothing (look (root g.roots i) (quick_table AstSize g)))
call g (find_best i) = said g (form_words (listing g (quick_table AstSize g) (root g.roots i)))

-- the answers of the calls cs, one after the other
unfoldable pub play : Graph → List Call → List ℕ
unfolding call root node uses kept link grow Machine.lookup add_by Machine.add_uncanonical Machine.add relabel merge union_by Machine.union close step run run_on ℕ_discrete dec_lt dec_le same_list same_term compare compare_all order insert sorted spell upto any any_more sum_of flat_map look with_price prices priced better best accept turn pass passes passes_on spot each enter visit in_order add_on cap
play g [] = []
play g (c ∷ cs) = let s = call g c in s.words ++ play s.graph cs
