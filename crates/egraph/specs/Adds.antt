-- What `lookup`, `add_uncanonical` and `add` promise: 3, 5 and 4 exactly when document 01 says, in this order and with no word changed. After that a node that the table
-- has is found, also in a full graph; a node that it has not is added where there is room, and refused by 6, with no word changed, where there is none, and on any words only
-- there. What is left is 9, which never comes on words that hold a graph.
-- Assumes nothing.
use Rattle.std.specs.Prelude.{Err, None, Ok, Result, Some, ◌≢◌, ◌⊎◌, ◌≡◌, ◌<◌, ◌≤◌, ℕ, length, Option}
use Rattle.broken.specs.declared.Broken.{Broken}
use Rattle.broken.specs.Words.{apart, broken}
use mathlib.Core.List.{List, [], ◌∷◌}
use Rattle.std.proofs.Common.{inl, inr, ◌∙◌, ap, sym, arith}
use Rattle.std.proofs.Math.Decide.{dec_le}
use Rattle.std.proofs.Math.Path.{refl, subst}
use Rattle.std.proofs.lemmas.Option.{none-some}
use Rattle.lists.specs.Tests.{zero_one}
use Rattle.language.specs.Fitting.{FitSays, term}
use Rattle.language.specs.Struct.{node_of}
use Rattle.language.specs.Term.{Term, places, Known}
use Rattle.language.specs.declared.Id.{Id}
use Rattle.language.specs.declared.Node.{Node}
use Rattle.language.specs.declared.fit.Fit.{Fit}
use Rattle.steps.specs.Graph.{Graph, ids, root}
use Rattle.steps.specs.Machine.{Given as GivenId, add, add_by, add_uncanonical, grow, lookup}
use Rattle.closure.specs.Facts.{root_more, root_out}
use Rattle.adding.specs.Giving.{hit, miss, no_graph}
use Rattle.adding.specs.Says.{Full, Gave, Gives, New, Old, Probes, Room, kept_for}
use Rattle.adding.specs.declared.Probed.{Probed}
use Rattle.adding.specs.declared.GiveError.{GiveError}
use Rattle.adding.specs.declared.GiveError.TheVariants.{NoRoom as GiveNoRoom, BrokenWords as GiveBroken}
use Rattle.egraph.specs.Answers.{Answer, Else, Good, SameLimits, Unless3, give_refused, id_says, head_of, ids_is, limits_stay, limits_written, lookup_says, never, nine, no_by, number_of, ok_still, pass, past, past_rest, scratch_of, scratch_still, spare_noted, spare_of, spare_stay, stop, yes_with}
use Rattle.egraph.specs.Reads.{found_root}
use Rattle.egraph.specs.declared.Refusal.{Refusal}
use Rattle.egraph.specs.declared.Refusal.TheVariants.{BadHead, BadLimits, BrokenWords, NoRoom, NotRebuilt, TooFewWords, TooLong, TooManyChildren, UnknownId}
use Rattle.holds.specs.Holds.{Holds, HoldsAt}
use Rattle.holds.specs.HoldsLaws.{holds_in, holds_written}
use Rattle.holds.specs.Inside.{Near}
use Rattle.layout.specs.Head.{HeadIs, HeadOk, head_good}
use Rattle.layout.specs.View.{View, hd, view}
use Rattle.layout.specs.Written.{Noted, head_written, noted_hd, written}
use Rattle.layout.specs.declared.Head.{Head}
use Rattle.unionfind.specs.Promise.{Finds}

-- ---- what is refused first

abbrev pub NodeLadder : List ℕ → Node → (ℕ → Type 0) → Type 0 → Type 0
NodeLadder ws x No Next =
    Unless3 ws (No 3)
    (Else (places < x.count) (No 5) (x.count ≤ places)
    (Else (Known (node_of x) (head_of ws).ids → ⊥) (No 4) (Known (node_of x) (head_of ws).ids)
    Next))

-- what each answer of the gate says
abbrev pub Barred : List ℕ → Node → Refusal → Type 0
Barred ws x BadHead = Good ws → ⊥
Barred ws x TooManyChildren = Good ws × (places < x.count)
Barred ws x UnknownId = Good ws × (x.count ≤ places) × (Known (node_of x) (head_of ws).ids → ⊥)
Barred ws x BadLimits = ⊥
Barred ws x TooFewWords = ⊥
Barred ws x NoRoom = ⊥
Barred ws x NotRebuilt = ⊥
Barred ws x TooLong = ⊥
Barred ws x BrokenWords = ⊥

-- the node as one that fits, and the head
abbrev pub Gated : List ℕ → Node → Result (Head × Fit) Refusal → Type 0
Gated ws x (Ok p) = HeadIs (length ws) (hd ws) p.0 × (p.1.node ≡ x) × Known (term p.1) p.0.ids
Gated ws x (Err q) = Barred ws x q

module _ (ws : List ℕ) (x : Node) (r : Result (Head × Fit) Refusal) (G : Gated ws x r) where
  pub gate_head : (h : Head) (y : Fit) → r ≡ Ok (h, y) → HeadIs (length ws) (hd ws) h × (y.node ≡ x) × Known (term y) h.ids
  gate_head h y e = subst (Gated ws x) e G

  over : places < x.count → x.count ≤ places → ⊥
  over a b = omega arith

  module _ (No : ℕ → Type 0) (Next : Type 0) where
    -- refused
    gate_no : (q : Refusal) → r ≡ Err q → No (number_of q) → NodeLadder ws x No Next
    gate_no q e n = go q (subst (Gated ws x) e G) n
      where
        go : (q : Refusal) → Barred ws x q → No (number_of q) → NodeLadder ws x No Next
        go BadHead b n = stop b (λ u v. u v) n
        go TooManyChildren b n = pass b.0 (λ u v. u v) (stop b.1 over n)
        go UnknownId b n = pass b.0 (λ u v. u v) (pass b.1 over (stop b.2 (λ u v. u v) n))
        go BadLimits b n = absurd b
        go TooFewWords b n = absurd b
        go NoRoom b n = absurd b
        go NotRebuilt b n = absurd b
        go TooLong b n = absurd b
        go BrokenWords b n = absurd b

    -- let through
    gate_on : (h : Head) (y : Fit) → r ≡ Ok (h, y) → Next → NodeLadder ws x No Next
    gate_on h y e n =
        let g = gate_head h y e in
        let K : Known (node_of x) (head_of ws).ids = subst (Known (node_of x)) (ids_is g.0) (rw g.1 at g.2) in
        let few : x.count ≤ places = rw g.1 at y.few in
        pass (head_good g.0) (λ u v. u v) (pass few over (pass K (λ u v. u v) n))

-- a node that does not fit has too many children
pub not_fit : (x : Node) (o : Option Fit) → FitSays x o → o ≡ None → places < x.count
not_fit x o F e = go (dec_le x.count places)
  where
    go : Dec (x.count ≤ places) → places < x.count
    go (yes h) = absurd (none-some _ (sym e ∙ (F.fits h).1))
    go (no h) = omega arith

-- ---- lookup

-- the root of an id, or nothing
abbrev pub found_as : Option ℕ → Answer
found_as (Some i) = yes_with (i ∷ [])
found_as None = yes_with []

pub record LookupOpen (ws : List ℕ) (x : Term) (r : Result (Option Id) Refusal) : Type 0 where
  pub fair : (k : ℕ) → lookup_says r ≡ no_by k → k ≢ 0 → k ≡ 9
  pub sound : (g : Graph) → Holds ws g → lookup_says r ≡ found_as (lookup g x)

abbrev pub LookupSays : List ℕ → Node → Result (Option Id) Refusal → Type 0
LookupSays ws x r = NodeLadder ws x (λ k. lookup_says r ≡ no_by k) (LookupOpen ws (node_of x) r)

pub lookup_no : (ws : List ℕ) (x : Node) (r : Result (Head × Fit) Refusal) → Gated ws x r → (q : Refusal) → r ≡ Err q → LookupSays ws x (Err q)
lookup_no ws x r G q e = gate_no ws x r G (λ k. lookup_says (Err q) ≡ no_by k) (LookupOpen ws (node_of x) (Err q)) q e refl

pub lookup_on : (ws : List ℕ) (x : Node) (r : Result (Head × Fit) Refusal) → Gated ws x r → (h : Head) (y : Fit) → r ≡ Ok (h, y) → (a : Result (Option Id) Refusal)
    → LookupOpen ws (term y) a → LookupSays ws x a
lookup_on ws x r G h y e a L =
    gate_on ws x r G (λ k. lookup_says a ≡ no_by k) (LookupOpen ws (node_of x) a) h y e (rw (gate_head ws x r G h y e).1 at L)

module _ (ws : List ℕ) (h : Head) (q : HeadIs (length ws) (hd ws) h) (x : Fit) (p : Result Probed Broken) (P : Probes h x ws p) where
  pub lookup_broken : p ≡ broken → LookupOpen ws (term x) (Err BrokenWords)
  lookup_broken e = record { fair = λ k f _. nine k f; sound = λ g H. absurd (no_graph h x ws p P e g (holds_in ws h g q H) (kept_for g (term x)) refl) }

  module _ (y : Probed) (is : p ≡ Ok y) where
    pub lookup_none : y.seen ≡ None → LookupOpen ws (term x) (Ok None)
    unfolding lookup
    lookup_none e = record { fair = λ k f n. absurd (n (sym (ap (λ (a : Answer). a.number) f))); sound = λ g H. go g H (kept_for g (term x)) refl }
      where
        go : (g : Graph) → Holds ws g → (o : Option ℕ) → kept_for g (term x) ≡ o → yes_with [] ≡ found_as (lookup g (term x))
        go g H (Some i) k = let f = hit h x ws p P y is g i (holds_in ws h g q H) k in zero_one cc
        go g H None k = rw k refl

    module _ (id : Id) (e : y.seen ≡ Some id) where
      -- the id that was seen is the one that is kept
      seen_is : (g : Graph) → Holds ws g → (o : Option ℕ) → kept_for g (term x) ≡ o → kept_for g (term x) ≡ Some id.0
      seen_is g H (Some i) k = let f = hit h x ws p P y is g i (holds_in ws h g q H) k in let z : ◌≡◌ {A = Id} (record { 0 = i }) id = cc in k ∙ ap (λ (j : Id). Some j.0) z
      seen_is g H None k = let f = (miss h x ws p P y is g (holds_in ws h g q H) k).0 in zero_one cc

      module _ (f : Result ℕ Broken) (F : Finds (view h.n h.m ws).forest h.ids id.0 f) where
        pub lookup_lost : f ≡ broken → LookupOpen ws (term x) (Err BrokenWords)
        lookup_lost l = record { fair = λ k s _. nine k s; sound = λ g H. apart l (found_root ws h q id.0 f F g H) }

        pub lookup_found : (z : ℕ) → f ≡ Ok z → LookupOpen ws (term x) (Ok (Some (record { 0 = z })))
        unfolding lookup
        lookup_found z l = record {
          fair = λ k s _. absurd (never k z s);
          sound = λ g H. let s : z ≡ root g.roots id.0 = cc (l, found_root ws h q id.0 f F g H) in rw (seen_is g H (kept_for g (term x)) refl, s) refl;
        }

-- ---- add

-- `id` is the answer that the machine gives
pub record Adding (id : Graph → ℕ) (ws : List ℕ) (x : Term) (r : Result Id Refusal) (ws' : List ℕ) : Type 0 where
  pub size : length ws' ≡ length ws
  pub rest : past ws ws' ≡ past ws ws
  pub scratch : scratch_of ws ws' ≡ scratch_of ws ws
  pub limits : SameLimits ws ws'
  pub spare : spare_of ws' ≡ spare_of ws
  pub fair : (k : ℕ) → id_says r ≡ no_by k → (k ≡ 9) ⊎ ((k ≡ 6) × (ws' ≡ ws))
  pub full : id_says r ≡ no_by 6 → Full (head_of ws) x
  pub found : (g : Graph) (i : ℕ) → Holds ws g → kept_for g x ≡ Some i → (id_says r ≡ yes_with (id g ∷ [])) × (ws' ≡ ws)
  pub shut : (g : Graph) → Holds ws g → kept_for g x ≡ None → Full (head_of ws) x → (id_says r ≡ no_by 6) × (ws' ≡ ws)
  pub grown : (g : Graph) → Holds ws g → kept_for g x ≡ None → Room (head_of ws) x → (id_says r ≡ yes_with (id g ∷ [])) × Holds ws' (add_uncanonical g x).graph

abbrev pub AddingSays : (Graph → ℕ) → List ℕ → Node → Result Id Refusal → List ℕ → Type 0
AddingSays id ws x r ws' = NodeLadder ws x (λ k. (id_says r ≡ no_by k) × (ws' ≡ ws)) (Adding id ws (node_of x) r ws')

-- an id that was answered is one of those that the head counts, which stands in the words
pub record AddedIn (k : Head) (ws' : List ℕ) (r : Result Id Refusal) : Type 0 where
  pub stands : (i : Id) → r ≡ Ok i → HeadIs (length ws') (hd ws') k
  pub known : (i : Id) → r ≡ Ok i → i.0 < k.ids

abbrev pub UncanonicalOpen : List ℕ → Term → Result Id Refusal → List ℕ → Type 0
UncanonicalOpen ws x r ws' = Adding (λ g. (add_uncanonical g x).id) ws x r ws'

abbrev pub UncanonicalSays : List ℕ → Node → Result Id Refusal → List ℕ → Type 0
UncanonicalSays ws x r ws' = AddingSays (λ g. (add_uncanonical g (node_of x)).id) ws x r ws'

abbrev pub AddOpen : List ℕ → Term → Result Id Refusal → List ℕ → Type 0
AddOpen ws x r ws' = Adding (λ g. (add g x).id) ws x r ws'

abbrev pub AddSays : List ℕ → Node → Result Id Refusal → List ℕ → Type 0
AddSays ws x r ws' = AddingSays (λ g. (add g (node_of x)).id) ws x r ws'

pub adding_no : (id : Graph → ℕ) (ws : List ℕ) (x : Node) (r : Result (Head × Fit) Refusal) → Gated ws x r → (q : Refusal) → r ≡ Err q → AddingSays id ws x (Err q) ws
adding_no id ws x r G q e = gate_no ws x r G (λ k. (id_says (Err q) ≡ no_by k) × (ws ≡ ws)) (Adding id ws (node_of x) (Err q) ws) q e (refl, refl)

pub adding_on : (id : Graph → ℕ) (ws : List ℕ) (x : Node) (r : Result (Head × Fit) Refusal) → Gated ws x r → (h : Head) (y : Fit) → r ≡ Ok (h, y) → (a : Result Id Refusal) (ws' : List ℕ)
    → Adding id ws (node_of x) a ws' → AddingSays id ws x a ws'
adding_on id ws x r G h y e a ws' L = gate_on ws x r G (λ k. (id_says a ≡ no_by k) × (ws' ≡ ws)) (Adding id ws (node_of x) a ws') h y e L

-- the machine's answers
pub given_old : (g : Graph) (x : Term) (i : ℕ) → kept_for g x ≡ Some i → add_uncanonical g x ≡ record { graph = g; id = i }
unfolding add_uncanonical add_by
given_old g x i e = rw e refl

given_new : (g : Graph) (x : Term) → kept_for g x ≡ None → add_uncanonical g x ≡ record { graph = grow g x; id = ids g }
unfolding add_uncanonical add_by
given_new g x e = rw e refl

pub uncanonical_old : (g : Graph) (x : Term) (i : ℕ) → kept_for g x ≡ Some i → (add_uncanonical g x).id ≡ i
uncanonical_old g x i e = ap (λ (a : GivenId). a.id) (given_old g x i e)

pub uncanonical_new : (g : Graph) (x : Term) → kept_for g x ≡ None → (add_uncanonical g x).id ≡ ids g
uncanonical_new g x e = ap (λ (a : GivenId). a.id) (given_new g x e)

pub add_old : (g : Graph) (x : Term) (i : ℕ) → kept_for g x ≡ Some i → (add g x).id ≡ root g.roots i
unfolding add
add_old g x i e = ap (λ (a : GivenId). root a.graph.roots a.id) (given_old g x i e)

pub add_new : (g : Graph) (x : Term) → length g.roots ≡ ids g → kept_for g x ≡ None → (add g x).id ≡ ids g
unfolding add grow
add_new g x l e = ap (λ (a : GivenId). root a.graph.roots a.id) (given_new g x e) ∙ root_more g.roots (ids g) (ids g) l ∙ root_out g.roots (ids g) (omega arith)

-- an answer has one value
one_value : (a b : ℕ) → yes_with (a ∷ []) ≡ yes_with (b ∷ []) → a ≡ b
one_value a b e = let q : ◌≡◌ {A = List ℕ} (a ∷ []) (b ∷ []) = ap (λ (x : Answer). x.values) e in cc

nine_not_6 : ◌≡◌ {A = Answer} (no_by 9) (no_by 6) → ⊥
nine_not_6 e = omega (arith, nine 6 e)

module _ (id : Graph → ℕ) (ws : List ℕ) (h : Head) (q : HeadIs (length ws) (hd ws) h) (x : Term) (ws1 : List ℕ) (u : Result Gave GiveError) (U : Gives h x ws u ws1) where
  full_in : Full (head_of ws) x → Full h x
  full_in f = subst (λ (s : Head). Full s x) (sym q.is) f

  room_in : Room (head_of ws) x → Room h x
  room_in f = subst (λ (s : Head). Room s x) (sym q.is) f

  pub adding_broken : u ≡ Err GiveBroken → Adding id ws x (Err BrokenWords) ws1
  adding_broken e = record {
    size = U.inside.size;
    rest = past_rest ws h q ws1 U.inside.rest;
    scratch = scratch_still ws h q ws1 U.inside.scratch;
    limits = limits_stay ws ws1 U.inside.head;
    spare = spare_stay ws ws1 U.inside.head;
    fair = λ k s. inl (nine k s);
    full = λ s. absurd (nine_not_6 s);
    found = λ g i H k. let a = U.found g i (holds_in ws h g q H) k in zero_one cc;
    shut = λ g H k f. let a = U.shut g (holds_in ws h g q H) k (full_in f) in zero_one cc;
    grown = λ g H k f. let a = (U.grown g (holds_in ws h g q H) k (room_in f)).1 in zero_one cc;
  }

  pub adding_full : u ≡ Err GiveNoRoom → Adding id ws x (Err NoRoom) ws1
  adding_full e = record {
    size = U.inside.size;
    rest = past_rest ws h q ws1 U.inside.rest;
    scratch = scratch_still ws h q ws1 U.inside.scratch;
    limits = limits_stay ws ws1 U.inside.head;
    spare = spare_stay ws ws1 U.inside.head;
    fair = λ k s. inr (sym (ap (λ (a : Answer). a.number) s), (U.full e).1);
    full = λ _. subst (λ (s : Head). Full s x) q.is (U.full e).0;
    found = λ g i H k. let a = U.found g i (holds_in ws h g q H) k in zero_one cc;
    shut = λ g H k f. (refl, (U.full e).1);
    grown = λ g H k f. let a = (U.grown g (holds_in ws h g q H) k (room_in f)).1 in zero_one cc;
  }

  pub adding_refused : (e : GiveError) → u ≡ Err e → Adding id ws x (Err (give_refused e)) ws1
  adding_refused GiveNoRoom e = adding_full e
  adding_refused GiveBroken e = adding_broken e

  module _ (y : Id) (k : Head) (e : u ≡ Ok (Old y k)) where
    -- the id that was there is the one that is kept
    old_is : (g : Graph) (i : ℕ) → Holds ws g → kept_for g x ≡ Some i → i ≡ y.0
    old_is g i H k = let a = U.found g i (holds_in ws h g q H) k in cc

    not_shut : (g : Graph) → Holds ws g → kept_for g x ≡ None → Full (head_of ws) x → ⊥
    not_shut g H k f = let a = U.shut g (holds_in ws h g q H) k (full_in f) in zero_one cc

    not_grown : (g : Graph) → Holds ws g → kept_for g x ≡ None → Room (head_of ws) x → ⊥
    not_grown g H k f = let a = (U.grown g (holds_in ws h g q H) k (room_in f)).1 in zero_one cc

    pub adding_old : (v : ℕ) → ((g : Graph) → Holds ws g → kept_for g x ≡ Some y.0 → id g ≡ v) → Adding id ws x (Ok (record { 0 = v })) ws1
    adding_old v w = record {
      size = U.inside.size;
      rest = past_rest ws h q ws1 U.inside.rest;
      scratch = scratch_still ws h q ws1 U.inside.scratch;
      limits = limits_stay ws ws1 U.inside.head;
      spare = spare_stay ws ws1 U.inside.head;
      fair = λ k s. absurd (never k v s);
      full = λ s. absurd (never 6 v s);
      found = λ g i H m. (ap (λ (j : ℕ). yes_with (j ∷ [])) (sym (w g H (m ∙ ap Some (old_is g i H m)))), (U.old y k e).2);
      shut = λ g H k f. absurd (not_shut g H k f);
      grown = λ g H k f. absurd (not_grown g H k f);
    }

  pub adding_new : (y : Id) (k : Head) → u ≡ Ok (New y k) → (ws2 : List ℕ) → Noted ws1 ws2 (written (hd ws1) k) → ((g : Graph) → Holds ws g → kept_for g x ≡ None → id g ≡ ids g)
      → Adding id ws x (Ok y) ws2
  adding_new y k e ws2 N w = record {
    size = N.size ∙ U.inside.size;
    rest = past_rest ws h q ws2 (ap (λ (v : View). v.rest) (N.else h.n h.m) ∙ U.inside.rest);
    scratch = scratch_still ws h q ws2 (ap (λ (v : View). v.scratch) (N.else h.n h.m) ∙ U.inside.scratch);
    limits = limits_written ws ws1 ws2 h k q N2 (ok_still N2 U.inside.size) N;
    spare = spare_noted ws ws1 ws2 k U.inside.head N;
    fair = λ j s. absurd (never j y.0 s);
    full = λ s. absurd (never 6 y.0 s);
    found = λ g i H m. let a = U.found g i (holds_in ws h g q H) m in zero_one cc;
    shut = λ g H m f. let a = U.shut g (holds_in ws h g q H) m (full_in f) in zero_one cc;
    grown = λ g H m f. (ap (λ (j : ℕ). yes_with (j ∷ [])) ((U.new y k e).0 ∙ (holds_in ws h g q H).ids_are ∙ sym (w g H m)), held g H m (room_in f));
  }
    where
      N2 : Near (length ws) h k
      N2 = (U.new y k e).1

      held : (g : Graph) → Holds ws g → kept_for g x ≡ None → Room h x → Holds ws2 (add_uncanonical g x).graph
      held g H m f =
          let a = U.grown g (holds_in ws h g q H) m f in
          let b = a.1 in
          let z : a.0 ≡ k = cc in
          let at_k : HoldsAt k k.places (view h.n h.m ws1) (grow g x) = subst (λ (s : Head). HoldsAt s s.places (view h.n h.m ws1) (grow g x)) z a.2 in
          let at_n = subst (λ (c : ℕ). HoldsAt k k.places (view c h.m ws1) (grow g x)) (sym N2.n_is) at_k in
          let at_m = subst (λ (c : ℕ). HoldsAt k k.places (view k.n c ws1) (grow g x)) (sym N2.m_is) at_n in
          let g_is : grow g x ≡ (add_uncanonical g x).graph = sym (ap (λ (t : GivenId). t.graph) (given_new g x m)) in
          subst (Holds ws2) g_is (holds_written ws1 ws2 k (grow g x) (ok_still N2 U.inside.size) N at_m)

-- ---- the id that an add leaves is one of the graph's

pub added_none : (k : Head) (ws' : List ℕ) (q : Refusal) → AddedIn k ws' (Err q)
added_none k ws' q = record { stands = λ i p. zero_one cc; known = λ i p. zero_one cc }

pub added_in : (k : Head) (ws' : List ℕ) (y : Id) → HeadIs (length ws') (hd ws') k → y.0 < k.ids → AddedIn k ws' (Ok y)
added_in k ws' y s l = record { stands = λ i p. s; known = λ i p. let z : y ≡ i = cc in rw (← z) l }

module _ (ws : List ℕ) (h : Head) (q : HeadIs (length ws) (hd ws) h) (x : Term) (ws1 : List ℕ) (u : Result Gave GiveError) (U : Gives h x ws u ws1) (y : Id) (k : Head) where
  pub added_old : u ≡ Ok (Old y k) → AddedIn k ws1 (Ok y)
  added_old e =
      let o = U.old y k e in
      let s : HeadIs (length ws1) (hd ws1) k = rw (o.1, o.2) q in
      added_in k ws1 y s (rw o.1 o.0)

  pub added_new : u ≡ Ok (New y k) → (ws2 : List ℕ) → Noted ws1 ws2 (written (hd ws1) k) → AddedIn k ws2 (Ok y)
  added_new e ws2 N =
      let o = U.new y k e in
      let ok : HeadOk (length ws2) k = ok_still o.1 (N.size ∙ U.inside.size) in
      added_in k ws2 y (rw (noted_hd N) (head_written (length ws2) (hd ws1) k ok)) (omega (arith, o.0, o.2))

-- ---- `add`: the root of the id

-- no id, no root of it
pub root_none : (ws : List ℕ) (x : Term) (p : Refusal) (ws' : List ℕ) → UncanonicalOpen ws x (Err p) ws' → AddOpen ws x (Err p) ws'
root_none ws x p ws' A = record {
  size = A.size;
  rest = A.rest;
  scratch = A.scratch;
  limits = A.limits;
  spare = A.spare;
  fair = A.fair;
  full = A.full;
  found = λ g i H m. refused (A.found g i H m).0;
  shut = A.shut;
  grown = λ g H m r. refused (A.grown g H m r).0;
}
  where
    refused : {v : ℕ} {X : Type 0} → id_says (Err p) ≡ yes_with (v ∷ []) → X
    refused {v} e = absurd (never (number_of p) v (sym e))

module _ (ws : List ℕ) (x : Term) (y : Id) (ws' : List ℕ) (A : UncanonicalOpen ws x (Ok y) ws') (k : Head) (I : AddedIn k ws' (Ok y)) (f : Result ℕ Broken)
    (F : Finds (view k.n k.m ws').forest k.ids y.0 f) where
  -- on words that held a graph, those that are left hold what the machine leaves, and the id is the machine's
  law : (g : Graph) → Holds ws' (add_uncanonical g x).graph → id_says (Ok y) ≡ yes_with ((add_uncanonical g x).id ∷ []) → f ≡ Ok (add g x).id
  unfolding add
  law g H e =
      let i : y.0 ≡ (add_uncanonical g x).id = one_value y.0 (add_uncanonical g x).id e in
      rw (← i) (found_root ws' k (I.stands y refl) y.0 f F (add_uncanonical g x).graph H)

  law_found : (g : Graph) (i : ℕ) → Holds ws g → kept_for g x ≡ Some i → f ≡ Ok (add g x).id
  law_found g i H m = let a = A.found g i H m in law g (rw (a.1, given_old g x i m) H) a.0

  law_grown : (g : Graph) → Holds ws g → kept_for g x ≡ None → Room (head_of ws) x → f ≡ Ok (add g x).id
  law_grown g H m r = let a = A.grown g H m r in law g a.1 a.0

  pub root_lost : f ≡ broken → AddOpen ws x (Err BrokenWords) ws'
  root_lost l = record {
    size = A.size;
    rest = A.rest;
    scratch = A.scratch;
    limits = A.limits;
    spare = A.spare;
    fair = λ j s. inl (nine j s);
    full = λ s. absurd (nine_not_6 s);
    found = λ g i H m. apart l (law_found g i H m);
    shut = λ g H m s. absurd (never 6 y.0 (A.shut g H m s).0);
    grown = λ g H m r. apart l (law_grown g H m r);
  }

  pub root_given : (z : ℕ) → f ≡ Ok z → AddOpen ws x (Ok (record { 0 = z })) ws'
  root_given z l = record {
    size = A.size;
    rest = A.rest;
    scratch = A.scratch;
    limits = A.limits;
    spare = A.spare;
    fair = λ j s. absurd (never j z s);
    full = λ s. absurd (never 6 z s);
    found = λ g i H m. (same g (law_found g i H m), (A.found g i H m).1);
    shut = λ g H m s. absurd (never 6 y.0 (A.shut g H m s).0);
    grown = λ g H m r. (same g (law_grown g H m r), (A.grown g H m r).1);
  }
    where
      same : (g : Graph) → f ≡ Ok (add g x).id → yes_with (z ∷ []) ≡ yes_with ((add g x).id ∷ [])
      same g e = let s : z ≡ (add g x).id = cc (l, e) in ap (λ (j : ℕ). yes_with (j ∷ [])) s
