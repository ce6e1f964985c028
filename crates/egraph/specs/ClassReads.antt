-- What an extraction reads of a graph (document 01, "The price of a form"): the root of an id, how many nodes the classes have, the nodes of a class, from the last back
-- in node order, and the node of an id with root children. `Classed` says that words hold a clean graph but for the scratch part, which is lent for an extraction's
-- work; `AtRest` that this part is 0 as well; `NamesBack` that what a walk over a class gives has the nodes of the graph's class. What is inside of `Classed` is known
-- to the laws of this file alone: whoever reads classes cites these laws and nothing of the parts.
-- Assumes nothing.
use Rattle.std.specs.Prelude.{Err, Ok, Result, true, List, map, ◌≢◌, ◌≡◌, refl, ◌*◌, ◌+◌, ◌-◌, ◌<◌, ◌≤◌, suc, ℕ, length, replicate, [], ◌++◌, ◌∷◌, take, zero}
use Rattle.broken.specs.declared.Broken.{Broken}
use Rattle.broken.specs.Words.{broken, err≢ok}
use Rattle.std.proofs.Common.{◌∙◌, ap, subst, sym, arith, add-one}
use Rattle.std.proofs.Math.ListN.{length-map}
use Rattle.lists.specs.Members.{Mem, mem_at}
use Rattle.lists.specs.Reads.{at, get_or_map_lt, Word}
use Rattle.lists.specs.Tests.{zero_one, when, when_yes, when_no}
use Rattle.language.specs.Term.{Term, Known}
use Rattle.language.specs.declared.Id.{Id}
use Rattle.language.specs.declared.fit.Fit.{Fit}
use Rattle.language.specs.Fitting.{term}
use Rattle.steps.specs.Classes.{class_nodes, class_roots, total_number_of_nodes}
use Rattle.steps.specs.Graph.{Graph, ids, key_of, node, root}
use Rattle.closure.specs.Listed.{nodes_from, roots_has}
use Rattle.eclass.specs.Checks.{Totals}
use Rattle.eclass.specs.ClassHeld.{total_few, total_is}
use Rattle.cells.specs.Cursor.{Cursor as CellWalk, cursor_start, cursor_step, length_low}
use Rattle.cells.specs.Pool.{row}
use Rattle.holds.specs.Holds.{Holds, HoldsAt}
use Rattle.holds.specs.HoldsLaws.{holds_in, root_again}
use Rattle.layout.specs.Cut.{scratch}
use Rattle.layout.specs.Head.{HeadIs}
use Rattle.layout.specs.Lent.{Lent}
use Rattle.layout.specs.View.{View, hd, put, view}
use Rattle.layout.specs.declared.Head.{Head}
use Rattle.rows.specs.Determined.{read_key, sane}
use Rattle.rows.specs.Promise.{IsNodeOf, Key}
use Rattle.rows.specs.Read.{Sane, key_read}
use Rattle.parts.specs.Bare.{bare_found}
use Rattle.unionfind.specs.Forest.{root_low}
use Rattle.unionfind.specs.Promise.{Finds}
use Rattle.std.proofs.Math.Decide.{dec_le}
use Rattle.std.proofs.Math.Seq.{take-suc, take-length}
use Rattle.std.proofs.lemmas.List.{map-append}

-- ---- the graph that is read

-- every child of a stored node is an id: so it is in every graph that calls make
abbrev pub KidsKnown : Graph → Type 0
KidsKnown g = (i c : ℕ) → i < ids g → Mem c (node g.nodes i).kids → c < ids g

-- with the numbers of h and the parts of v the words hold the clean graph g, if the scratch part is what it was at rest; of what stands there now nothing is said
pub record Classed (h : Head) (v : View) (g : Graph) : Type 0 where
  linked : ℕ
  clear : List ℕ
  held : HoldsAt h linked (put scratch v clear) g
  clean : g.clean ≡ true
  known : KidsKnown g

-- words at rest
module _ (ws : List ℕ) (h : Head) (g : Graph) (q : HeadIs (length ws) (hd ws) h) (H : Holds ws g) where
  classed : g.clean ≡ true → KidsKnown g → Classed h (view h.n h.m ws) g
  classed c K = record { linked = h.places; clear = (view h.n h.m ws).scratch; held = holds_in ws h g q H; clean = c; known = K }

  pub scratch_clear : (view h.n h.m ws).scratch ≡ replicate (6 * h.n) 0
  scratch_clear = (holds_in ws h g q H).scratch

-- words that hold the clean graph g, with a scratch part that is 0: it is free for the work
pub record AtRest (h : Head) (v : View) (g : Graph) : Type 0 where
  pub classes : Classed h v g
  pub clear : v.scratch ≡ replicate (6 * h.n) 0

pub at_rest : (ws : List ℕ) (h : Head) (g : Graph) → HeadIs (length ws) (hd ws) h → Holds ws g → g.clean ≡ true → KidsKnown g → AtRest h (view h.n h.m ws) g
at_rest ws h g q H c K = record { classes = classed ws h g q H c K; clear = scratch_clear ws h g q H }

-- words of which the scratch part alone has changed
pub classed_lent : {n m : ℕ} {P : List ℕ → List ℕ → Type 0} {ws ws' : List ℕ} {h : Head} {g : Graph} → Lent scratch n m P ws ws' → Classed h (view n m ws) g → Classed h (view n m ws') g
classed_lent {n} {m} {P} {ws} {ws'} {h} {g} t C =
    subst (λ (v : View). Classed h v g) (sym t.else) (record { linked = C.linked; clear = C.clear; held = C.held; clean = C.clean; known = C.known })

module _ {h : Head} {v : View} {g : Graph} (C : Classed h v g) where
  pub classed_ids : h.ids ≡ ids g
  classed_ids = C.held.ids_are

  -- a root is an id
  pub classed_root : (i : ℕ) → i < ids g → root g.roots i < h.ids
  unfolding root
  classed_root i l = root_low C.held.forest i (rw classed_ids l)

  pub classed_kids : (i : ℕ) → i < ids g → Known (key_of g i) h.ids
  classed_kids i l j k = kid (rw length-map at k)
    where
      kid : j < length (node g.nodes i).kids → at (map (root g.roots) (node g.nodes i).kids) j < h.ids
      kid q =
          rw (get_or_map_lt (root g.roots) (node g.nodes i).kids j q)
          (classed_root (at (node g.nodes i).kids j) (C.known i (at (node g.nodes i).kids j) l (mem_at (node g.nodes i).kids j q)))

  -- what has a node is a class
  pub classed_listed : (r : ℕ) (x : Term) → Mem x (class_nodes g r) → Mem r (class_roots g)
  classed_listed r x m = let k = nodes_from g r x m in member k.0 k.1 k.2
    where
      member : (i : ℕ) → i < ids g → root g.roots i ≡ r → Mem r (class_roots g)
      member i l e =
          roots_has g r (rw (← classed_ids, ← e) (classed_root i l))
          (subst (λ (q : ℕ). root g.roots q ≡ q) e (root_again C.held.forest i))

-- ---- the root of an id, and how many nodes the classes have

-- what `class_root` promises: on any words a root is an id
pub record ClassRoot (h : Head) (v : View) (i : ℕ) (r : Result Id Broken) : Type 0 where
  pub low : (x : Id) → r ≡ Ok x → x.0 < h.ids
  pub sound : (g : Graph) → Classed h v g → i < ids g → r ≡ Ok (record { 0 = root g.roots i })

pub class_root : (h : Head) (v : View) (i : ℕ) (r : Result Id Broken) → Finds v.forest h.ids i (bare_found r) → ClassRoot h v i r
unfolding root
class_root h v i r F = record { low = λ x e. F.inside x.0 (ap bare_found e); sound = λ g C l. found r (F.law h.classes g.roots C.held.forest) }
  where
    found : (r : Result Id Broken) {k : ℕ} → bare_found r ≡ Ok k → r ≡ Ok (record { 0 = k })
    found (Ok x) e = let z : x.0 ≡ _ = cc in ap (λ (j : ℕ). Ok (record { 0 = j })) z
    found (Err _) e = err≢ok e

-- what `count_nodes` promises: on any words there are no more nodes than ids
pub record NodeCount (h : Head) (v : View) (r : Result ℕ Broken) : Type 0 where
  pub few : (k : ℕ) → r ≡ Ok k → k ≤ h.ids
  pub sound : (g : Graph) → Classed h v g → r ≡ Ok (total_number_of_nodes g)

pub node_count : (h : Head) (v : View) (r : Result ℕ Broken) → Totals v.members h.n h.ids r → NodeCount h v r
node_count h v (Ok k) T = record { few = T.few; sound = λ g C. ap Ok (T.exact k refl ∙ total_is C.held C.clean) }
node_count h v (Err _) T = record { few = λ k e. err≢ok e; sound = λ g C. absurd (omega (arith, T.broken refl, total_few C.held C.clean)) }

-- ---- the node of an id, with root children

-- on any words: i is an id whose row lies within its area, and the node that stands there
unfoldable pub Readable : Head → View → ℕ → Type 0
Readable h v i = (i < h.ids) × Sane v.rows h.n h.m i

unfoldable pub root_node_in : Head → View → ℕ → Term
root_node_in h v i = key_read v.rows h.n h.m i

-- in a graph: its node with root children
pub classed_node : {h : Head} {v : View} {g : Graph} → Classed h v g → (i : ℕ) → i < ids g → Readable h v i × (root_node_in h v i ≡ key_of g i)
unfolding Readable root_node_in
classed_node {h} {v} {g} C i l =
    let H = C.held in (
      (rw H.ids_are l, sane v.rows h.n h.m g.nodes H.nodes.keys H.nodes.rows i l),
      read_key v.rows h.n h.m g.nodes H.nodes.keys H.nodes.rows i l ∙ H.tidy_keys C.clean i l,
    )

-- what `root_node` promises
pub record RootNode (h : Head) (v : View) (i : ℕ) (r : Result Fit Broken) : Type 0 where
  pub found : (x : Fit) → r ≡ Ok x → Readable h v i × (term x ≡ root_node_in h v i)
  pub lost : r ≡ broken → Readable h v i → ⊥
  pub sound : (g : Graph) → Classed h v g → i < ids g → IsNodeOf r (key_of g i)

module _ (h : Head) (v : View) (i : ℕ) where
  pub root_node_stray : h.ids ≤ i → RootNode h v i broken
  unfolding Readable
  root_node_stray off = record {
    found = λ x e. zero_one cc;
    lost = λ _ R. omega (arith, R.0);
    sound = λ g C l. absurd (let R = (classed_node C i l).0 in omega (arith, R.0));
  }

  pub root_node_read : i < h.ids → (f : Result Fit Broken) → Key v.rows h.n h.m i f → RootNode h v i f
  unfolding Readable root_node_in
  root_node_read l f K = record {
    found = λ x e. let q = K.found x e in ((l, q.0), q.1);
    lost = λ e R. K.broken e R.1;
    sound = λ g C k. named f K (classed_node C i k).0 (classed_node C i k).1;
  }
    where
      named : (f : Result Fit Broken) → Key v.rows h.n h.m i f → Readable h v i → {t : Term} → root_node_in h v i ≡ t → IsNodeOf f t
      named (Ok x) K R e = (x, refl, (K.found x refl).1 ∙ e)
      named (Err _) K R e = absurd (K.broken refl R.1)

-- ---- the nodes of a class, from the last back

-- what a walk gives: ids that have the nodes, or a refusal
abbrev pub Items : Type 0
Items = List (Result Id Broken)

-- on any words, a walk of `left` steps from cur: the ids that are met, and a refusal, the last item, where there is none
unfoldable pub walked : List ℕ → ℕ → ℕ → ℕ → ℕ → Items
walked ms n N zero cur = []
walked ms n N (suc k) cur = when (dec_le N cur) (broken ∷ []) (Ok (record { 0 = cur }) ∷ walked ms n N k (at ms (n + n + n + cur)))

-- in words with the head h
abbrev pub going : Head → List ℕ → ℕ → ℕ → Items
going h ws left cur = walked (view h.n h.m ws).members h.n h.ids left cur

-- over words of which the scratch part alone has changed it is the same walk, whatever the words hold
pub stands_lent : {n m : ℕ} {P : List ℕ → List ℕ → Type 0} {ws ws' : List ℕ} (h : Head) → Lent scratch n m P ws ws'
    → (left cur : ℕ) → walked (view n m ws').members h.n h.ids left cur ≡ walked (view n m ws).members h.n h.ids left cur
stands_lent h t left cur = ap (λ (v : View). walked v.members h.n h.ids left cur) t.else

-- each item is an id, but for a refusal at the end
abbrev pub ItemsKnown : Head → Items → Type 0
ItemsKnown h [] = Unit {0}
ItemsKnown h (Ok id ∷ rest) = (id.0 < h.ids) × ItemsKnown h rest
ItemsKnown h (Err _ ∷ rest) = rest ≡ []

-- the items are ids that have the nodes xs of g, from the last back
abbrev pub NamesBack : Graph → Items → List Term → Type 0
NamesBack g [] xs = xs ≡ []
NamesBack g (Ok id ∷ rest) xs = (ys : List Term) × (xs ≡ ys ++ key_of g id.0 ∷ []) × (id.0 < ids g) × NamesBack g rest ys
NamesBack g (Err _ ∷ rest) xs = ⊥

-- what `class_nodes` promises
pub record NodesOf (h : Head) (v : View) (c : ℕ) (r : Result Items Broken) : Type 0 where
  pub few : (xs : Items) → r ≡ Ok xs → length xs ≤ h.n
  pub known : (xs : Items) → r ≡ Ok xs → ItemsKnown h xs
  pub all : (xs : Items) → r ≡ Ok xs → (g : Graph) → Classed h v g → NamesBack g xs (class_nodes g c)
  pub sound : r ≡ broken → (g : Graph) → Classed h v g → ⊥

-- ---- its steps

module _ (h : Head) (ws : List ℕ) (cur : ℕ) where
  pub going_none : (left : ℕ) → left ≡ 0 → going h ws left cur ≡ []
  unfolding walked
  going_none left e = rw e refl

  pub going_stray : (left : ℕ) → left ≢ 0 → h.ids ≤ cur → going h ws left cur ≡ broken ∷ []
  unfolding walked
  going_stray zero s off = absurd (s refl)
  going_stray (suc k) s off = when_yes (dec_le h.ids cur) _ _ off

  pub going_next : (left next : ℕ) → left ≡ next + 1 → cur < h.ids → (link : ℕ) → link ≡ at (view h.n h.m ws).members (h.n + h.n + h.n + cur)
      → going h ws left cur ≡ Ok (record { 0 = cur }) ∷ going h ws next link
  unfolding walked
  going_next left next q l link e = rw (q, add-one next, e) (when_no (dec_le h.ids cur) _ _ (omega arith))

module _ (h : Head) (ms : List ℕ) where
  walked_few : (k cur : ℕ) → length (walked ms h.n h.ids k cur) ≤ k
  unfolding walked
  walked_few zero cur = omega arith
  walked_few (suc k) cur = go _ (dec_le h.ids cur) (walked_few k (at ms (h.n + h.n + h.n + cur)))
    where
      go : (xs : Items) (d : Dec (h.ids ≤ cur)) → length xs ≤ k → length (when d (broken ∷ []) (Ok (record { 0 = cur }) ∷ xs)) ≤ suc k
      go xs (yes p) q = omega arith
      go xs (no n) q = omega arith

  walked_known : (k cur : ℕ) → ItemsKnown h (walked ms h.n h.ids k cur)
  unfolding walked
  walked_known zero cur = tt
  walked_known (suc k) cur = go _ (dec_le h.ids cur) (walked_known k (at ms (h.n + h.n + h.n + cur)))
    where
      go : (xs : Items) (d : Dec (h.ids ≤ cur)) → ItemsKnown h xs → ItemsKnown h (when d (broken ∷ []) (Ok (record { 0 = cur }) ∷ xs))
      go xs (yes p) q = refl
      go xs (no n) q = (omega arith, q)

sub_one : (k : ℕ) → suc k - 1 ≡ k
sub_one k = omega arith

-- in a graph: the nodes of the class
module _ {h : Head} {v : View} {g : Graph} (C : Classed h v g) (c : ℕ) (low : c < h.n) where
  its_row : List ℕ
  its_row = row C.held.members.lists c

  its_nodes : map (key_of g) its_row ≡ class_nodes g c
  unfolding its_row
  its_nodes = C.held.tidy_lists C.clean c

  -- of its row the first k are still to come
  walked_names : (k cur : ℕ) → CellWalk v.members h.n h.n c k cur → NamesBack g (walked v.members h.n h.ids k cur) (map (key_of g) (take k its_row))
  unfolding walked its_row
  walked_names zero cur W = refl
  walked_names (suc k) cur W =
      let M = C.held.members in
      let s : k < length its_row = omega (arith, W.short M.lists M.pool) in
      let e : cur ≡ at its_row k = W.cell M.lists M.pool k refl in
      let l : cur < h.ids = rw e (M.in_class c (at its_row k) (mem_at its_row k s)).0 in
      let t : take (suc k) its_row ≡ take k its_row ++ cur ∷ [] = rw e (take-suc its_row k 0 s) in
      let i : NamesBack g (walked v.members h.n h.ids k (at v.members (h.n + h.n + h.n + cur))) (map (key_of g) (take k its_row)) =
      walked_names k (at v.members (h.n + h.n + h.n + cur)) (rw (sub_one k) at (cursor_step v.members h.n h.n c low (suc k) cur W (omega arith))) in
      rw (when_no (dec_le h.ids cur) (broken ∷ []) (Ok (record { 0 = cur }) ∷ walked v.members h.n h.ids k (at v.members (h.n + h.n + h.n + cur))) (omega arith))
      (map (key_of g) (take k its_row), rw t (map-append (key_of g) (take k its_row) (cur ∷ [])), rw (← classed_ids C) l, i)

module _ (h : Head) (ws : List ℕ) (c : ℕ) (low : c < h.n) (k : ℕ) (K : Word (view h.n h.m ws).members (c + h.n + h.n) k) where
  pub nodes_long : h.n < k → NodesOf h (view h.n h.m ws) c broken
  nodes_long l = record {
    few = λ xs e. err≢ok e;
    known = λ xs e. err≢ok e;
    all = λ xs e. err≢ok e;
    sound = λ _ g C. length_low (view h.n h.m ws).members h.n h.n c low (rw (← K.exact) l) C.held.members.lists C.held.members.pool;
  }

  pub nodes_all : k ≤ h.n → (x : ℕ) → Word (view h.n h.m ws).members c x → NodesOf h (view h.n h.m ws) c (Ok (going h ws k x))
  unfolding its_row
  nodes_all l x X = record {
    few = λ xs e. let q : going h ws k x ≡ xs = cc in rw (← q) (omega (arith, walked_few h (view h.n h.m ws).members k x));
    known = λ xs e. let q : going h ws k x ≡ xs = cc in rw (← q) (walked_known h (view h.n h.m ws).members k x);
    all = λ xs e g C. let q : going h ws k x ≡ xs = cc in rw (← q) (named g C);
    sound = λ e. err≢ok (sym e);
  }
    where
      named : (g : Graph) (C : Classed h (view h.n h.m ws) g) → NamesBack g (going h ws k x) (class_nodes g c)
      named g C =
          let M = C.held.members in
          let s : k ≡ length (row M.lists c) = K.exact ∙ (M.pool.rows c low).size in
          let n = walked_names C c low k x (rw (K.exact, X.exact) (cursor_start (view h.n h.m ws).members h.n h.n c low)) in
          subst (NamesBack g (going h ws k x)) (ap (map (key_of g)) (ap (λ (j : ℕ). take j (row M.lists c)) s ∙ take-length (row M.lists c)) ∙ its_nodes C c low) n
