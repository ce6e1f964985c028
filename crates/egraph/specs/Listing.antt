-- What `id_to_node` and `nodes` promise. On any words 3, 4 and 9 come exactly when document 01 says, and for a list 8; else the answer is what the rows read as. 9 never
-- comes on words that hold a graph. A list that is refused leaves the slice lent for it as it was.
-- Assumes nothing.
use Rattle.std.specs.Prelude.{Err, Ok, Option, Result, List, ◌≡◌, refl, ◌+◌, ◌<◌, ◌≤◌, ℕ, length}
use Rattle.std.specs.Option.{ok_or}
use Rattle.broken.specs.declared.Broken.{Broken}
use Rattle.broken.specs.Words.{broken, err≢ok}
use Rattle.language.specs.declared.fit.Fit.{Fit}
use Rattle.language.specs.declared.Node.{Node}
use Rattle.std.proofs.Common.{◌∙◌, ap, subst, sym, arith}
use Rattle.std.proofs.Math.Decide.{ℕ_discrete}
use Rattle.lists.specs.Tests.{zero_one}
use Rattle.language.specs.Fitting.{term}
use Rattle.language.specs.Term.{Term, places, spell, words}
use Rattle.steps.specs.Classes.{nodes}
use Rattle.steps.specs.Graph.{Graph, node}
use Rattle.egraph.specs.Answers.{Else, ListOpen, Opens, Unless3, Unless9, head_of, count_says, never, nine, no_by, node_says, open_broken, open_long, open_written, pass, stop, yes_with, OpensKnown, far_near, ids_is, known_shut, number_of, shut}
use Rattle.egraph.specs.Stored.{stored, stored_is, row_piece, stored_pieces}
use Rattle.egraph.specs.declared.Refusal.{Refusal}
use Rattle.egraph.specs.declared.Refusal.TheVariants.{BrokenWords, TooLong}
use Rattle.holds.specs.Holds.{Holds}
use Rattle.holds.specs.HoldsLaws.{holds_in}
use Rattle.layout.specs.Head.{HeadIs, head_good}
use Rattle.layout.specs.View.{hd, view}
use Rattle.layout.specs.declared.Head.{Head}
use Rattle.rows.specs.Determined.{sane}
use Rattle.rows.specs.Promise.{Given, IsNodeOf}
use Rattle.rows.specs.Read.{Sane, given_read}
use Rattle.spelling.specs.Alone.{SpellsOne}
use Rattle.spelling.specs.Pieces.{Wrote, long_more, pieces}

-- ---- one node

-- the row of an id lies within its area, as words with the head h have it, and the node that it reads as
abbrev pub SaneIn : Head → List ℕ → ℕ → Type 0
SaneIn h ws i = Sane (view h.n h.m ws).rows h.n h.m i

abbrev pub node_in : Head → List ℕ → ℕ → Term
node_in h ws i = given_read (view h.n h.m ws).rows h.n h.m i

abbrev pub NodeAt : Head → List ℕ → ℕ → Result Node Refusal → Type 0
NodeAt h ws i r = Unless9 (SaneIn h ws i) (node_says r ≡ no_by 9) (node_says r ≡ yes_with (words (node_in h ws i)))

pub record NodeOpen (ws : List ℕ) (i : ℕ) (r : Result Node Refusal) : Type 0 where
  pub exact : NodeAt (head_of ws) ws i r
  pub few : (x : Node) → r ≡ Ok x → x.count ≤ places
  pub fair : (k : ℕ) → node_says r ≡ no_by k → k ≡ 9
  pub sound : (g : Graph) → Holds ws g → node_says r ≡ yes_with (words (node g.nodes i))

-- whatever the words, the node has no more children than there are places
pub record NodeSays (ws : List ℕ) (i : ℕ) (r : Result Node Refusal) : Type 0 where
  pub few : (x : Node) → r ≡ Ok x → x.count ≤ places
  pub says :
      Unless3 ws (node_says r ≡ no_by 3)
      (Else ((head_of ws).ids ≤ i) (node_says r ≡ no_by 4) (i < (head_of ws).ids)
      (NodeOpen ws i r))

pub node_shut : (ws : List ℕ) (i : ℕ) (r : Result Head Refusal) → OpensKnown ws i r → (q : Refusal) → r ≡ Err q → NodeSays ws i (Err q)
node_shut ws i r O q e = record {
  few = λ x p. err≢ok p;
  says = known_shut ws i r O (λ (k : ℕ). no_by (number_of q) ≡ no_by k) (λ l. l) (far_near i (head_of ws).ids) q e refl;
}

-- that node as words at the start of a list; refused as `id_to_node` refuses, with the list as it was, and by 8 where the list is too short
abbrev pub NodeIn : Result Node Refusal → List ℕ → Result ℕ Refusal → List ℕ → Type 0
NodeIn (Ok x) list r list' = (s : Option ℕ) × SpellsOne list x s list' × (r ≡ ok_or s TooLong)
NodeIn (Err q) list r list' = (r ≡ Err q) × (list' ≡ list)

pub record NodeSpelled (ws : List ℕ) (i : ℕ) (list : List ℕ) (r : Result ℕ Refusal) (list' : List ℕ) : Type 0 where
  pub answer : Result Node Refusal
  pub made : NodeSays ws i answer
  pub spelled : NodeIn answer list r list'

-- with the head in hand, of an id below its number of ids
pub node_on : (ws : List ℕ) (h : Head) → HeadIs (length ws) (hd ws) h → (i : ℕ) → i < h.ids → (r : Result Node Refusal) → NodeOpen ws i r → NodeSays ws i r
node_on ws h q i l r N = record { few = N.few; says = pass (head_good q) (λ b g. b g) (pass (omega (arith, ids_is q)) (far_near i (head_of ws).ids) N) }

module _ (ws : List ℕ) (h : Head) (q : HeadIs (length ws) (hd ws) h) (i : ℕ) (f : Result Fit Broken) (G : Given (view h.n h.m ws).rows h.n h.m i f) (hi : i < h.ids) where
  -- what the rows answer on words that hold a graph
  law : (g : Graph) → Holds ws g → IsNodeOf f (node g.nodes i)
  unfolding node
  law g H = let K = holds_in ws h g q H in G.sound g.nodes K.nodes.keys K.nodes.rows (omega (arith, K.ids_are))

  pub node_broken : f ≡ broken → NodeOpen ws i (Err BrokenWords)
  node_broken e = record {
    exact = subst (λ (s : Head). NodeAt s ws i (Err BrokenWords)) q.is (stop (G.broken e) (λ a b. a b) refl);
    few = λ x p. zero_one cc;
    fair = λ k p. nine k p;
    sound = λ g H. let s = (law g H).1 in zero_one cc;
  }

  pub node_is : (x : Fit) → f ≡ Ok x → NodeOpen ws i (Ok x.node)
  node_is x e = record {
    exact = subst (λ (s : Head). NodeAt s ws i (Ok x.node)) q.is (pass (G.found x e).0 (λ a b. a b) (ap (λ (t : Term). yes_with (words t)) (G.found x e).1));
    few = λ y p. let z : x.node ≡ y = cc in rw (← z) x.few;
    fair = λ k p. absurd (never k _ p);
    sound = λ g H. let s = law g H in let z : s.0 ≡ x = let t = s.1 in cc in ap (λ (t : Term). yes_with (words t)) (ap term (sym z) ∙ s.2);
  }

-- ---- all of them

-- all rows lie within their area, and the words of the nodes that they read as
abbrev pub RowsIn : Head → List ℕ → Type 0
RowsIn h ws = (i : ℕ) → i < h.ids → SaneIn h ws i

abbrev pub nodes_in : Head → List ℕ → List ℕ
nodes_in h ws = spell (stored (view h.n h.m ws).rows h.n h.m h.ids)

abbrev pub NodesOpen : List ℕ → List ℕ → Result ℕ Refusal → List ℕ → Type 0
NodesOpen = ListOpen nodes RowsIn nodes_in

-- whatever the words, an answer counts words of out
pub record NodesSays (ws out : List ℕ) (r : Result ℕ Refusal) (out' : List ℕ) : Type 0 where
  pub inside : (k : ℕ) → r ≡ Ok k → k ≤ length out
  pub says : Unless3 ws ((count_says r ≡ no_by 3) × (out' ≡ out)) (NodesOpen ws out r out')

-- as the head is read: refused, or on it goes
pub nodes_shut : (ws out : List ℕ) (r : Result Head Refusal) → Opens ws r → (q : Refusal) → r ≡ Err q → NodesSays ws out (Err q) out
nodes_shut ws out r O q e = record { inside = λ k p. err≢ok p; says = shut ws r O q e (rw (O.bad q e).0 (refl, refl)) }

pub nodes_on : (ws : List ℕ) (h : Head) → HeadIs (length ws) (hd ws) h → {out : List ℕ} (r : Result ℕ Refusal) (out' : List ℕ) → NodesOpen ws out r out' → NodesSays ws out r out'
nodes_on ws h q r out' N = record { inside = N.inside; says = pass (head_good q) (λ b g. b g) N }

-- how long a row is in words, and how long all of the first k together, where no row among them is broken
pub record RowWords (rs : List ℕ) (n m i : ℕ) (r : Result ℕ Refusal) : Type 0 where
  pub whole : (x : ℕ) → r ≡ Ok x → x ≡ length (words (given_read rs n m i))
  pub few : (x : ℕ) → r ≡ Ok x → x ≤ 3 + places
  pub sane : (x : ℕ) → r ≡ Ok x → Sane rs n m i
  pub broken : (q : Refusal) → r ≡ Err q → (q ≡ BrokenWords) × (Sane rs n m i → ⊥)

pub record Measured (rs : List ℕ) (n m k : ℕ) (r : Result ℕ Refusal) : Type 0 where
  pub whole : (x : ℕ) → r ≡ Ok x → x ≡ length (spell (stored rs n m k))
  pub sane : (x : ℕ) → r ≡ Ok x → (i : ℕ) → i < k → Sane rs n m i
  pub broken : (q : Refusal) → r ≡ Err q → (q ≡ BrokenWords) × (((i : ℕ) → i < k → Sane rs n m i) → ⊥)

module _ (rs : List ℕ) (n m i : ℕ) (f : Result Fit Broken) (G : Given rs n m i f) where
  pub row_broken : f ≡ broken → RowWords rs n m i (Err BrokenWords)
  row_broken e = record {
    whole = λ x p. err≢ok p;
    few = λ x p. err≢ok p;
    sane = λ x p. err≢ok p;
    broken = λ q p. (cc, G.broken e);
  }

  pub row_words : (x : Fit) → f ≡ Ok x → (k : ℕ) → (k ≡ length (words (term x))) × (k ≡ 3 + x.node.count) → RowWords rs n m i (Ok k)
  row_words x d k e = record {
    whole = λ y p. let s : y ≡ k = cc in s ∙ rw (← (G.found x d).1) e.0;
    few = λ y p. let s : y ≡ k = cc in omega (arith, e.1);
    sane = λ y p. (G.found x d).0;
    broken = λ q p. err≢ok (sym p);
  }

-- one row more, a broken row, and the end
pub measure_more : (rs : List ℕ) (n m i total x : ℕ) (r : Result ℕ Refusal) → RowWords rs n m i r → r ≡ Ok x → total ≡ length (pieces (row_piece rs n m) i)
    → total + x ≡ length (pieces (row_piece rs n m) (i + 1))
measure_more rs n m i total x r w e t = long_more (row_piece rs n m) i total x t (w.whole x e)

pub sane_none : (rs : List ℕ) (n m j : ℕ) → j < 0 → Sane rs n m j
sane_none rs n m j h = absurd (omega arith)

pub sane_more : (rs : List ℕ) (n m i x : ℕ) (r : Result ℕ Refusal) → RowWords rs n m i r → r ≡ Ok x → ((j : ℕ) → j < i → Sane rs n m j) → (j : ℕ) → j < i + 1 → Sane rs n m j
sane_more rs n m i x r w e f j h = go (ℕ_discrete j i)
  where
    go : Dec (j ≡ i) → Sane rs n m j
    go (yes p) = rw p (w.sane x e)
    go (no p) = f j (omega arith)

module _ (rs : List ℕ) (n m k : ℕ) where
  pub measure_broken : (i : ℕ) → i < k → (r : Result ℕ Refusal) (q : Refusal) → RowWords rs n m i r → r ≡ Err q → Measured rs n m k (Err q)
  measure_broken i h r q w e = record {
    whole = λ x p. err≢ok p;
    sane = λ x p. err≢ok p;
    broken = λ p s. let t : q ≡ p = cc in (sym t ∙ (w.broken q e).0, λ a. (w.broken q e).1 (a i h));
  }

  pub measure_whole : (x : ℕ) → x ≡ length (pieces (row_piece rs n m) k) → ((i : ℕ) → i < k → Sane rs n m i) → Measured rs n m k (Ok x)
  measure_whole x e f = record {
    whole = λ y p. let t : y ≡ x = cc in t ∙ e ∙ ap length (sym (stored_pieces rs n m k));
    sane = λ y p. f;
    broken = λ q p. err≢ok (sym p);
  }

module _ (ws : List ℕ) (h : Head) (q : HeadIs (length ws) (hd ws) h) (out : List ℕ) where
  abbrev rs : List ℕ
  rs = (view h.n h.m ws).rows

  -- on words that hold a graph what the rows read as is its nodes, and no row is broken
  its_nodes : (g : Graph) → Holds ws g → stored rs h.n h.m h.ids ≡ g.nodes
  its_nodes g H = let K = holds_in ws h g q H in rw K.ids_are (stored_is rs h.n h.m g.nodes K.nodes.keys K.nodes.rows)

  its_list : (g : Graph) → Holds ws g → nodes_in h ws ≡ nodes g
  its_list g H = ap spell (its_nodes g H)

  its_rows : (g : Graph) → Holds ws g → (i : ℕ) → i < h.ids → Sane rs h.n h.m i
  its_rows g H i l = let K = holds_in ws h g q H in sane rs h.n h.m g.nodes K.nodes.keys K.nodes.rows i (omega (arith, K.ids_are))

  module _ (r : Result ℕ Refusal) (M : Measured rs h.n h.m h.ids r) where
    pub nodes_broken : (p : Refusal) → r ≡ Err p → NodesOpen ws out (Err p) out
    nodes_broken p e = let b = M.broken p e in rw b.0 (open_broken nodes RowsIn nodes_in ws h q out b.1 its_rows)

    module _ (x : ℕ) (e : r ≡ Ok x) where
      pub nodes_long : length out < x → NodesOpen ws out (Err TooLong) out
      nodes_long l = open_long nodes RowsIn nodes_in ws h q out (M.sane x e) its_list (omega (arith, M.whole x e))

      pub nodes_fit : x ≤ length out → length (nodes_in h ws) ≤ length out
      nodes_fit l = omega (arith, M.whole x e)

      pub nodes_listed : x ≤ length out → (p : ℕ) (out' : List ℕ) → Wrote out 0 (nodes_in h ws) p out' → NodesOpen ws out (Ok p) out'
      nodes_listed l p out' w = open_written nodes RowsIn nodes_in ws h q out (M.sane x e) its_list (nodes_fit l) p out' w
