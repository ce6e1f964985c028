-- The promises in terms of the graph. On words that hold a graph which calls made there is no 3 and no 9: what is left of each ladder are the refusals that the graph and
-- the arguments settle, each with nothing changed, and below them the answer that the definitions give.
-- Assumes nothing.
use Rattle.egraph.specs.declared.Refusal.{Refusal}
use Rattle.language.specs.declared.Id.{Id}
use Rattle.extract.specs.declared.Form.{Form}
use Rattle.std.specs.Prelude.{Bool, Result, false, true, List, [], ◌++◌, ◌∷◌, ◌≢◌, ◌⊎◌, ◌≡◌, refl, ◌<◌, ◌≤◌, ℕ, eqb, drop, length, take, Option, None, Some}
use Rattle.std.proofs.Common.{inl, inr, ◌∙◌, ap, sym, arith}
use Rattle.lists.specs.Tests.{lt_or}
use Rattle.language.specs.Struct.{node_of}
use Rattle.language.specs.Term.{Term, places, spell, words, Known}
use Rattle.language.specs.declared.Node.{Node}
use Rattle.steps.specs.Classes.{nodes, number_of_classes, total_number_of_nodes}
use Rattle.steps.specs.Graph.{Graph, ids, node, root}
use Rattle.steps.specs.Machine.{Rebuild, add, lookup, union}
use Rattle.adding.specs.Says.{Full, Room, kept_for}
use Rattle.egraph.specs.Adds.{AddingSays, LookupSays, NodeLadder, found_as}
use Rattle.egraph.specs.Answers.{Answer, Else, Lists, SameLimits, Unless7, id_says, count_says, flag, flag_says, head_of, held_clean, lookup_says, no_by, node_says, yes_with}
use Rattle.egraph.specs.ClassLists.{ListSays, TotalSays, list_held, total_held}
use Rattle.egraph.specs.Listing.{NodeSays, NodesSays}
use Rattle.egraph.specs.Reads.{CleanSays, CountSays, EmptySays, FindSays}
use Rattle.egraph.specs.Rebuilds.{RebuildSays}
use Rattle.egraph.specs.Unions.{UnionSays}
use Rattle.extract.specs.Cost.{CostSays}
use Rattle.extract.specs.Form.{FormSays, form_says}
use Rattle.layout.specs.declared.Head.{Head}
use Rattle.theorems.specs.Course.{Run, ids_in, run_adding, run_rebuild, run_union}
use Rattle.theorems.specs.Forms.{BestForm, run_form}
use Rattle.theorems.specs.Outcomes.{clean_or, full_or, low_or, or_lt, two_or}
use Rattle.theorems.specs.Sizes.{Smallest, run_cost}
use Rattle.std.proofs.lemmas.Option.{none-some}

-- refused by k, and S: nothing has changed
abbrev pub No : Answer → Type 0 → ℕ → Type 0
No a S k = (a ≡ no_by k) × S

-- the steps of the ladders: an id, clean or not, a node
abbrev pub IdLadder : Graph → ℕ → Type 0 → Type 0 → Type 0
IdLadder g i No4 Next = Else (ids g ≤ i) No4 (i < ids g) Next

abbrev pub CleanLadder : Graph → Type 0 → Type 0 → Type 0
CleanLadder g No7 Next = Else (g.clean ≡ false) No7 (g.clean ≡ true) Next

abbrev pub GivenLadder : Graph → Node → (ℕ → Type 0) → Type 0 → Type 0
GivenLadder g x No Next = Else (places < x.count) (No 5) (x.count ≤ places) (Else (Known (node_of x) (ids g) → ⊥) (No 4) (Known (node_of x) (ids g)) Next)

-- answered with the values vs; from the words ws to words ws' that hold the graph k, under the same limits, with the unions us asked for
pub record Goes (ws : List ℕ) (a : Answer) (vs ws' : List ℕ) (us : List (ℕ × ℕ)) (k : Graph) : Type 0 where
  pub answer : a ≡ yes_with vs
  pub run : Run us ws' k
  pub limits : SameLimits ws ws'

module _ (us : List (ℕ × ℕ)) (ws : List ℕ) (g : Graph) (C : Run us ws g) where
  by_id : (i : ℕ) {N X Y : Type 0} → Else ((head_of ws).ids ≤ i) N (i < (head_of ws).ids) X → (i < ids g → X → Y) → IdLadder g i N Y
  by_id i s f = record { no = λ h. s.no (omega (arith, ids_in us ws g C)); on = λ h. f h (s.on (omega (arith, ids_in us ws g C))) }

  by_clean : {N X Y : Type 0} → Unless7 ws N X → (g.clean ≡ true → X → Y) → CleanLadder g N Y
  by_clean s f = record { no = λ e. s.no (held_clean C.holds ∙ e); on = λ e. f e (s.on (held_clean C.holds ∙ e)) }

  by_node : (x : Node) (No : ℕ → Type 0) {X Y : Type 0} → NodeLadder ws x No X → (x.count ≤ places → Known (node_of x) (ids g) → X → Y) → GivenLadder g x No Y
  by_node x No s f =
      let t = s.on C.holds.good in
      record {
        no = t.no;
        on = λ few. record {
          no = λ far. (t.on few).no (λ low. far (λ i h. omega (arith, low i h, ids_in us ws g C)));
          on = λ low. f few low ((t.on few).on (λ i h. omega (arith, low i h, ids_in us ws g C)));
        };
      }

  -- ---- reads

  pub find_held : (i : ℕ) (r : Result Id Refusal) → FindSays ws i r → IdLadder g i (id_says r ≡ no_by 4) (id_says r ≡ yes_with (root g.roots i ∷ []))
  find_held i r s = by_id i (s.on C.holds.good) (λ h o. o.sound g C.holds)

  pub count_held : (r : Result ℕ Refusal) → CountSays ws r → count_says r ≡ yes_with (number_of_classes g ∷ [])
  count_held r s = (s.on C.holds.good).sound g C.holds

  pub empty_held : (r : Result Bool Refusal) → EmptySays ws r → flag_says r ≡ yes_with (flag (eqb (ids g) 0))
  empty_held r s = (s.on C.holds.good).sound g C.holds

  pub clean_held : (r : Result Bool Refusal) → CleanSays ws r → flag_says r ≡ yes_with (flag g.clean)
  clean_held r s = (s.on C.holds.good).sound g C.holds

  pub node_held : (i : ℕ) (r : Result Node Refusal) → NodeSays ws i r → IdLadder g i (node_says r ≡ no_by 4) (node_says r ≡ yes_with (words (node g.nodes i)))
  node_held i r s = by_id i (s.says.on C.holds.good) (λ h o. o.sound g C.holds)

  pub nodes_held : (out : List ℕ) (r : Result ℕ Refusal) (out' : List ℕ) → NodesSays ws out r out' → Lists (nodes g) out r out'
  nodes_held out r out' s = (s.says.on C.holds.good).sound g C.holds

  pub lookup_held : (x : Node) (r : Result (Option Id) Refusal) → LookupSays ws x r → GivenLadder g x (λ k. lookup_says r ≡ no_by k) (lookup_says r ≡ found_as (lookup g (node_of x)))
  lookup_held x r s = by_node x (λ k. lookup_says r ≡ no_by k) s (λ few low o. o.sound g C.holds)

  -- ---- sizes and forms, which change no word

  pub cost_held : (i : ℕ) (r : Result ℕ Refusal) (ws' : List ℕ) → CostSays ws i r ws' → IdLadder g i (count_says r ≡ no_by 4) (CleanLadder g (count_says r ≡ no_by 7) (Smallest g i r))
  cost_held i r ws' S = by_id i (S.says.on C.holds.good) (λ h s. by_clean s (λ c o. (run_cost us ws g C i r ws' S c h).0))

  pub form_held : (i : ℕ) (out : List ℕ) (r : Result Form Refusal) (ws' out' : List ℕ) → FormSays ws i out r ws' out'
      → IdLadder g i (No (form_says r) (out' ≡ out) 4) (CleanLadder g (No (form_says r) (out' ≡ out) 7) (BestForm g i out r out'))
  form_held i out r ws' out' S = by_id i (S.says.on C.holds.good) (λ h s. by_clean s (λ c o. (run_form us ws g C i out r ws' out' S c h).0))

  -- ---- calls that change the graph

  pub union_held : (i j : ℕ) (r : Result Bool Refusal) (ws' : List ℕ) → UnionSays ws i j r ws'
      → Else ((ids g ≤ i) ⊎ (ids g ≤ j)) (No (flag_says r) (ws' ≡ ws) 4) ((i < ids g) × (j < ids g))
      (Goes ws (flag_says r) (flag (union g i j).answer) ws' (us ++ ((i, j) ∷ [])) (union g i j).graph)
  union_held i j r ws' s =
      let t = s.on C.holds.good in
      record {
        no = λ h. t.no (far h);
        on = λ h.
            let o = run_union us ws g C i j r ws' s h.0 h.1 in
            record { answer = o.0; run = o.1; limits = (t.on (omega (arith, h.0, ids_in us ws g C), omega (arith, h.1, ids_in us ws g C))).limits };
      }
    where
      far : (ids g ≤ i) ⊎ (ids g ≤ j) → ((head_of ws).ids ≤ i) ⊎ ((head_of ws).ids ≤ j)
      far (inl h) = inl (omega (arith, ids_in us ws g C))
      far (inr h) = inr (omega (arith, ids_in us ws g C))

  -- a node that the table has not, and no room for it: 6. `id` is what `add` or what `add_uncanonical` answers
  pub adding_held : (id : Graph → ℕ) (x : Node) (r : Result Id Refusal) (ws' : List ℕ) → AddingSays id ws x r ws'
      → GivenLadder g x (No (id_says r) (ws' ≡ ws))
      (Else ((kept_for g (node_of x) ≡ None) × Full (head_of ws) (node_of x)) (No (id_says r) (ws' ≡ ws) 6) ((kept_for g (node_of x) ≢ None) ⊎ Room (head_of ws) (node_of x))
      (Goes ws (id_says r) (id g ∷ []) ws' us (add g (node_of x)).graph))
  adding_held id x r ws' s = by_node x (No (id_says r) (ws' ≡ ws)) s (λ few low A. record {
    no = λ h. A.shut g C.holds h.0 h.1;
    on = λ h. let o = run_adding us ws g C id x r ws' s few low (room h) in record { answer = o.0; run = o.1; limits = A.limits };
  })
    where
      room : (kept_for g (node_of x) ≢ None) ⊎ Room (head_of ws) (node_of x) → kept_for g (node_of x) ≡ None → Room (head_of ws) (node_of x)
      room (inl n) e = absurd (n e)
      room (inr h) e = h

  pub rebuild_held : (r : Result ℕ Refusal) (ws' : List ℕ) → RebuildSays ws r ws' → (y t : ℕ) (z : Graph) → Rebuild g y t z → Goes ws (count_says r) (y ∷ []) ws' us z
  rebuild_held r ws' s y t z R = let o = run_rebuild us ws g C r ws' s y t z R in record { answer = o.0; run = o.1; limits = (s.on C.holds.good).limits }

  -- ---- the classes

  pub total_is : (r : Result ℕ Refusal) → TotalSays ws r → CleanLadder g (count_says r ≡ no_by 7) (count_says r ≡ yes_with (total_number_of_nodes g ∷ []))
  total_is r s = total_held ws g C.holds r s

  pub list_is : (list : Graph → List ℕ) (reads : Head → List ℕ → List ℕ) (out : List ℕ) (r : Result ℕ Refusal) (out' : List ℕ) → ListSays list reads ws out r out' → CleanLadder g (No (count_says r) (out' ≡ out) 7) (Lists (list g) out r out')
  list_is list reads out r out' s = list_held list reads ws g C.holds out r out' s

-- ---- how a ladder ends

-- refused by one of the numbers 1 to 8, and Same: nothing has changed
pub record Refused (a : Answer) (Same : Type 0) : Type 0 where
  pub number : ℕ
  pub some : 0 < number
  pub below_9 : number < 9
  pub is : a ≡ no_by number
  pub same : Same

-- one step down a ladder
pub fall : {B G X R S : Type 0} {a : Answer} {k : ℕ} → 0 < k → k < 9 → B ⊎ G → Else B (No a S k) G X → (X → Refused a S ⊎ R) → Refused a S ⊎ R
fall {k = k} p q (inl b) s f = let n = s.no b in inl (record { number = k; some = p; below_9 = q; is = n.0; same = n.1 })
fall p q (inr g) s f = f (s.on g)

-- of a call that changes nothing anyway
fall_read : {B G X R : Type 0} {a : Answer} {k : ℕ} → 0 < k → k < 9 → B ⊎ G → Else B (a ≡ no_by k) G X → (X → Refused a (Unit {0}) ⊎ R) → Refused a (Unit {0}) ⊎ R
fall_read p q d s f = fall p q d (record { no = λ b. (s.no b, tt); on = s.on }) f

-- the list xs in the slice
abbrev pub Written : List ℕ → List ℕ → Result ℕ Refusal → List ℕ → Type 0
Written xs out r out' = (count_says r ≡ yes_with (length xs ∷ [])) × (take (length xs) out' ≡ xs) × (drop (length xs) out' ≡ drop (length xs) out)

fall_list : (xs out : List ℕ) (r : Result ℕ Refusal) (out' : List ℕ) → Lists xs out r out' → Refused (count_says r) (out' ≡ out) ⊎ Written xs out r out'
fall_list xs out r out' L = fall (omega arith) (omega arith) (lt_or (length out) (length xs)) (record { no = L.long; on = L.fits }) inr

-- found or room, or neither
room_or : (g : Graph) (h : Head) (x : Term) → ((kept_for g x ≡ None) × Full h x) ⊎ ((kept_for g x ≢ None) ⊎ Room h x)
room_or g h x = go (kept_for g x) refl (full_or h x)
  where
    go : (o : Option ℕ) → kept_for g x ≡ o → Full h x ⊎ Room h x → ((kept_for g x ≡ None) × Full h x) ⊎ ((kept_for g x ≢ None) ⊎ Room h x)
    go (Some i) e d = inr (inl (λ n. none-some _ (sym n ∙ e)))
    go None e (inl f) = inl (e, f)
    go None e (inr f) = inr (inr f)

module _ (us : List (ℕ × ℕ)) (ws : List ℕ) (g : Graph) (C : Run us ws g) where
  pub find_ends : (i : ℕ) (r : Result Id Refusal) → FindSays ws i r → Refused (id_says r) (Unit {0}) ⊎ (id_says r ≡ yes_with (root g.roots i ∷ []))
  find_ends i r s = fall_read (omega arith) (omega arith) (or_lt i (ids g)) (find_held us ws g C i r s) inr

  pub node_ends : (i : ℕ) (r : Result Node Refusal) → NodeSays ws i r → Refused (node_says r) (Unit {0}) ⊎ (node_says r ≡ yes_with (words (node g.nodes i)))
  node_ends i r s = fall_read (omega arith) (omega arith) (or_lt i (ids g)) (node_held us ws g C i r s) inr

  pub nodes_ends : (out : List ℕ) (r : Result ℕ Refusal) (out' : List ℕ) → NodesSays ws out r out' → Refused (count_says r) (out' ≡ out) ⊎ Written (nodes g) out r out'
  nodes_ends out r out' s = fall_list (nodes g) out r out' (nodes_held us ws g C out r out' s)

  pub lookup_ends : (x : Node) (r : Result (Option Id) Refusal) → LookupSays ws x r → Refused (lookup_says r) (Unit {0}) ⊎ (lookup_says r ≡ found_as (lookup g (node_of x)))
  lookup_ends x r s =
      fall_read (omega arith) (omega arith) (lt_or places x.count) (lookup_held us ws g C x r s)
      (λ s. fall_read (omega arith) (omega arith) (low_or (node_of x).kids (ids g)) s inr)

  pub total_ends : (r : Result ℕ Refusal) → TotalSays ws r → Refused (count_says r) (Unit {0}) ⊎ (count_says r ≡ yes_with (total_number_of_nodes g ∷ []))
  total_ends r s = fall_read (omega arith) (omega arith) (clean_or g.clean) (total_is us ws g C r s) inr

  pub list_ends : (list : Graph → List ℕ) (reads : Head → List ℕ → List ℕ) (out : List ℕ) (r : Result ℕ Refusal) (out' : List ℕ) → ListSays list reads ws out r out' → Refused (count_says r) (out' ≡ out) ⊎ Written (list g) out r out'
  list_ends list reads out r out' s = fall (omega arith) (omega arith) (clean_or g.clean) (list_is us ws g C list reads out r out' s) (λ L. fall_list (list g) out r out' L)

  pub cost_ends : (i : ℕ) (r : Result ℕ Refusal) (ws' : List ℕ) → CostSays ws i r ws' → Refused (count_says r) (Unit {0}) ⊎ Smallest g i r
  cost_ends i r ws' s =
      fall_read (omega arith) (omega arith) (or_lt i (ids g)) (cost_held us ws g C i r ws' s)
      (λ s. fall_read (omega arith) (omega arith) (clean_or g.clean) s inr)

  pub form_ends : (i : ℕ) (out : List ℕ) (r : Result Form Refusal) (ws' out' : List ℕ) → FormSays ws i out r ws' out'
      → Refused (form_says r) (out' ≡ out) ⊎ (BestForm g i out r out' × ((form_says r).number ≡ 0))
  form_ends i out r ws' out' s =
      fall (omega arith) (omega arith) (or_lt i (ids g)) (form_held us ws g C i out r ws' out' s)
      (λ s. fall (omega arith) (omega arith) (clean_or g.clean) s
      (λ B. fall (omega arith) (omega arith) (lt_or (length out) (length (spell B.nodes))) (record { no = B.is.long; on = B.is.fits })
      (λ f. inr (B, ap (λ (a : Answer). a.number) f.0))))

  pub adding_ends : (id : Graph → ℕ) (x : Node) (r : Result Id Refusal) (ws' : List ℕ) → AddingSays id ws x r ws'
      → Refused (id_says r) (ws' ≡ ws) ⊎ Goes ws (id_says r) (id g ∷ []) ws' us (add g (node_of x)).graph
  adding_ends id x r ws' s =
      fall (omega arith) (omega arith) (lt_or places x.count) (adding_held us ws g C id x r ws' s)
      (λ s. fall (omega arith) (omega arith) (low_or (node_of x).kids (ids g)) s
      (λ s. fall (omega arith) (omega arith) (room_or g (head_of ws) (node_of x)) s inr))

  pub union_ends : (i j : ℕ) (r : Result Bool Refusal) (ws' : List ℕ) → UnionSays ws i j r ws'
      → Refused (flag_says r) (ws' ≡ ws) ⊎ Goes ws (flag_says r) (flag (union g i j).answer) ws' (us ++ ((i, j) ∷ [])) (union g i j).graph
  union_ends i j r ws' s = fall (omega arith) (omega arith) (two_or i j (ids g)) (union_held us ws g C i j r ws' s) inr
