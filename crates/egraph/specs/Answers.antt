-- What each answer means in document 01's terms ("When a call says no"): a number, 0 for success, and values. A refusal gives its number and no value.
-- The promises of all calls are stated through these definitions.
-- Assumes nothing.
use Rattle.std.specs.Prelude.{Err, IsErrAnd, None, Ok, Option, Result, Some, Bool, false, true, not, ◌⊎◌, ◌≡◌, refl, ◌<◌, ◌≤◌, ℕ, drop, length, take}
use Rattle.std.specs.Option.{ok_or}
use Rattle.broken.specs.Words.{error_is, err≢ok}
use Rattle.language.specs.declared.Id.{Id}
use Rattle.language.specs.declared.Node.{Node}
use mathlib.Core.List.{List, [], ◌∷◌, cons≢nil}
use Rattle.std.proofs.Common.{inl, inr, ◌∙◌, ap, subst, sym, arith}
use Rattle.std.proofs.lemmas.Bool.{false≢true}
use Rattle.lists.specs.Tests.{zero_one}
use Rattle.language.specs.Struct.{node_of}
use Rattle.language.specs.Term.{words}
use Rattle.steps.specs.Graph.{Graph}
use Rattle.adding.specs.declared.GiveError.{GiveError}
use Rattle.adding.specs.declared.GiveError.TheVariants.{NoRoom as GiveNoRoom, BrokenWords as GiveBroken}
use Rattle.egraph.specs.declared.Refusal.{Refusal}
use Rattle.egraph.specs.declared.Refusal.TheVariants.{BadHead, BadLimits, BrokenWords, NoRoom, NotRebuilt, TooFewWords, TooLong, TooManyChildren, UnknownId}
use Rattle.holds.specs.Holds.{Holds, HoldsAt}
use Rattle.holds.specs.HoldsLaws.{holds_written}
use Rattle.holds.specs.Inside.{Near}
use Rattle.layout.specs.Cut.{need}
use Rattle.layout.specs.Head.{GoodHead, HeadIs, HeadOk, HeadSays, head_good, numbers}
use Rattle.layout.specs.View.{View, hd, view, view_rest}
use Rattle.layout.specs.Written.{Noted, head_written, noted_hd, numbers_written, spare_written, written}
use Rattle.layout.specs.declared.Head.{Head}
use Rattle.layout.specs.declared.graph.Graph.{Graph as LentGraph}
use Rattle.uniting.specs.Near.{NearIds, view_near}
use Rattle.spelling.specs.Pieces.{Wrote, wrote_back, wrote_front}

pub record Answer : Type 0 where
  pub number : ℕ
  pub values : List ℕ

abbrev pub yes_with : List ℕ → Answer
yes_with vs = record { number = 0; values = vs }

abbrev pub no_by : ℕ → Answer
no_by k = record { number = k; values = [] }

-- the nine numbers
abbrev pub number_of : Refusal → ℕ
number_of BadLimits = 1
number_of TooFewWords = 2
number_of BadHead = 3
number_of UnknownId = 4
number_of TooManyChildren = 5
number_of NoRoom = 6
number_of NotRebuilt = 7
number_of TooLong = 8
number_of BrokenWords = 9

-- why an add that could not give an id is refused
abbrev pub give_refused : GiveError → Refusal
give_refused GiveNoRoom = NoRoom
give_refused GiveBroken = BrokenWords

-- a number is what it is, and success with a value is no refusal
pub nine : (k : ℕ) → ◌≡◌ {A = Answer} (no_by 9) (no_by k) → k ≡ 9
nine k e = sym (ap (λ (a : Answer). a.number) e)

pub never : (k v : ℕ) {vs : List ℕ} → ◌≡◌ {A = Answer} (yes_with (v ∷ vs)) (no_by k) → ⊥
never k v {vs} e = let q : ◌≡◌ {A = List ℕ} (v ∷ vs) [] = ap (λ (a : Answer). a.values) e in cons≢nil q

-- ---- the calls' answers: 0 and the values of what was answered, or the number of the refusal

abbrev pub says : {A : Type 0} → (A → List ℕ) → Result A Refusal → Answer
says values (Ok a) = yes_with (values a)
says values (Err q) = no_by (number_of q)

-- done, with nothing to tell
abbrev pub setup_says : Result Unit Refusal → Answer
setup_says = says (λ (_ : Unit). [])

-- an id, which is a root where the call says so
abbrev pub id_says : Result Id Refusal → Answer
id_says = says (λ (i : Id). i.0 ∷ [])

-- a count, a size, or how many words of a list were written: the words themselves stand in the slice that was lent for them
abbrev pub count_says : Result ℕ Refusal → Answer
count_says = says (λ (k : ℕ). k ∷ [])

-- yes is 1, no is 0
abbrev pub flag : Bool → List ℕ
flag true = 1 ∷ []
flag false = 0 ∷ []

abbrev pub flag_says : Result Bool Refusal → Answer
flag_says = says flag

-- the root that was found; found nothing is an answer, with no value
abbrev pub found : Option Id → List ℕ
found (Some i) = i.0 ∷ []
found None = []

abbrev pub lookup_says : Result (Option Id) Refusal → Answer
lookup_says = says found

-- a node, in words
abbrev pub node_says : Result Node Refusal → Answer
node_says = says (λ (x : Node). words (node_of x))

-- xs is the list that was asked for, and out the slice lent for it: 8 where the list is longer, and nothing is written; else it stands at the start of out'
pub record Lists (xs out : List ℕ) (r : Result ℕ Refusal) (out' : List ℕ) : Type 0 where
  pub long : length out < length xs → (count_says r ≡ no_by 8) × (out' ≡ out)
  pub fits : length xs ≤ length out
      → (count_says r ≡ yes_with (length xs ∷ [])) × (take (length xs) out' ≡ xs) × (drop (length xs) out' ≡ drop (length xs) out)

-- ---- the ladder of refusals, in document 01's order: refused where Bad, and else what comes after

pub record Else (Bad No Good Next : Type 0) : Type 0 where
  pub no : Bad → No
  pub on : Good → Next

-- refused here; let through
pub stop : {B N G X : Type 0} → B → (B → G → ⊥) → N → Else B N G X
stop b a n = record { no = λ _. n; on = λ g. absurd (a b g) }

pub pass : {B N G X : Type 0} → G → (B → G → ⊥) → X → Else B N G X
pass g a x = record { no = λ b. absurd (a b g); on = λ _. x }

-- 3: the words are too short for the head, or its numbers are out of range, or fewer words are lent than those limits need
abbrev pub Good : List ℕ → Type 0
Good ws = GoodHead (length ws) (hd ws)

abbrev pub Unless3 : List ℕ → Type 0 → Type 0 → Type 0
Unless3 ws No Next = Else (Good ws → ⊥) No (Good ws) Next

-- the head as a call reads it, or why it refuses
pub record Opens (ws : List ℕ) (r : Result Head Refusal) : Type 0 where
  pub good : (h : Head) → r ≡ Ok h → HeadIs (length ws) (hd ws) h
  pub bad : (q : Refusal) → r ≡ Err q → (q ≡ BadHead) × (Good ws → ⊥)

pub opens : (ws : List ℕ) (o : Option Head) (r : Result Head Refusal) → HeadSays (length ws) (hd ws) o → r ≡ ok_or o BadHead → Opens ws r
opens ws (Some h) r s e = record {
  good = λ k p. let z : h ≡ k = cc in subst (HeadIs (length ws) (hd ws)) z s;
  bad = λ q p. zero_one cc;
}
opens ws None r s e = record {
  good = λ k p. zero_one cc;
  bad = λ q p. (cc, s);
}

module _ {N X : Type 0} (ws : List ℕ) (r : Result Head Refusal) (O : Opens ws r) where
  pub shut : (q : Refusal) → r ≡ Err q → N → Unless3 ws N X
  shut q e n = stop (O.bad q e).1 (λ b g. b g) n

  pub opened : (h : Head) → r ≡ Ok h → (HeadIs (length ws) (hd ws) h → X) → Unless3 ws N X
  opened h e x = let i = O.good h e in pass (head_good i) (λ b g. b g) (x i)

-- the words opened as a graph to be read: it has these very words, and of its head, or of why it is refused, P says what there is to say
abbrev pub head_in : Result LentGraph Refusal → Result Head Refusal
head_in (Ok g) = Ok g.h
head_in (Err q) = Err q

pub record AsGraph (P : Result Head Refusal → Type 0) (ws : List ℕ) (r : Result LentGraph Refusal) : Type 0 where
  pub head : P (head_in r)
  pub words : (g : LentGraph) → r ≡ Ok g → g.ws.now ≡ ws

pub no_graph : {P : Result Head Refusal → Type 0} {ws : List ℕ} {q : Refusal} → P (Err q) → AsGraph P ws (Err q)
no_graph p = record { head = p; words = λ g e. err≢ok e }

pub a_graph : {P : Result Head Refusal → Type 0} {ws : List ℕ} (g : LentGraph) → P (Ok g.h) → g.ws.now ≡ ws → AsGraph P ws (Ok g)
a_graph g p e = record { head = p; words = λ k d. let z : g ≡ k = cc in rw (← z) e }

-- what a call hands on where the head could not be read
pub handed_on : {T : Type 0} (ws : List ℕ) (r : Result Head Refusal) → Opens ws r → (q : Refusal) → r ≡ Err q → (a : Result T Refusal) → IsErrAnd a (λ x. x ≡ q)
    → a ≡ Err BadHead
handed_on ws r O q e a i = error_is a q i ∙ ap Err (O.bad q e).0

-- what it then says, with nothing else promised, and with words that stay
module _ {A X : Type 0} (values : A → List ℕ) (ws : List ℕ) (r : Result Head Refusal) (O : Opens ws r) (q : Refusal) (e : r ≡ Err q) where
  pub head_refused : (a : Result A Refusal) → IsErrAnd a (λ x. x ≡ q) → Unless3 ws (says values a ≡ no_by 3) X
  head_refused a i = shut ws r O q e (ap (says values) (handed_on ws r O q e a i))

  pub head_refused_still : (a : Result A Refusal) → IsErrAnd a (λ x. x ≡ q) → Unless3 ws ((says values a ≡ no_by 3) × (ws ≡ ws)) X
  head_refused_still a i = shut ws r O q e (ap (says values) (handed_on ws r O q e a i), refl)

-- a flag that the code tests by its opposite
pub not_set : (b : Bool) → not b ≡ true → b ≡ false
not_set true e = cc
not_set false e = refl

pub set_then : (b : Bool) → not b ≡ false → b ≡ true
set_then true e = refl
set_then false e = cc

-- the numbers that stand in the head of ws
abbrev pub head_of : List ℕ → Head
head_of ws = numbers (hd ws)

-- 7: the graph is not clean, as its head says
abbrev pub Unless7 : List ℕ → Type 0 → Type 0 → Type 0
Unless7 ws No Next = Else ((head_of ws).clean ≡ false) No ((head_of ws).clean ≡ true) Next

-- 9: the words are not whole as far as the call reads them
abbrev pub Unless9 : Type 0 → Type 0 → Type 0 → Type 0
Unless9 Whole No Next = Else (Whole → ⊥) No Whole Next

-- a list that whole words read as: 9 where they are not whole, else 8 where the list xs is longer than out, both with out as it was; else xs stands at the start of out'
abbrev pub ListAt : Type 0 → List ℕ → List ℕ → Result ℕ Refusal → List ℕ → Type 0
ListAt Whole xs out r out' = Unless9 Whole ((count_says r ≡ no_by 9) × (out' ≡ out)) (Lists xs out r out')

-- what is left for a list of a graph, once nothing before 9 refuses it: on any words what they read as, and on words that hold a graph its list
pub record ListOpen (list : Graph → List ℕ) (Whole : Head → List ℕ → Type 0) (reads : Head → List ℕ → List ℕ) (ws out : List ℕ) (r : Result ℕ Refusal) (out' : List ℕ) : Type 0 where
  pub exact : ListAt (Whole (head_of ws) ws) (reads (head_of ws) ws) out r out'
  pub inside : (k : ℕ) → r ≡ Ok k → k ≤ length out
  pub size : length out' ≡ length out
  pub refused : (k : ℕ) → count_says r ≡ no_by k → ((k ≡ 9) ⊎ (k ≡ 8)) × (out' ≡ out)
  pub sound : (g : Graph) → Holds ws g → Lists (list g) out r out'

-- the three ways out of a list, with the head h in hand; what whole words read as is for a graph that they hold its list
module _ (list : Graph → List ℕ) (Whole : Head → List ℕ → Type 0) (reads : Head → List ℕ → List ℕ) (ws : List ℕ) (h : Head) (q : HeadIs (length ws) (hd ws) h) (out : List ℕ) where
  pub open_broken : (Whole h ws → ⊥) → ((g : Graph) → Holds ws g → Whole h ws) → ListOpen list Whole reads ws out (Err BrokenWords) out
  open_broken b w = record {
    exact = subst (λ (s : Head). ListAt (Whole s ws) (reads s ws) out (Err BrokenWords) out) q.is (stop b (λ x y. x y) (refl, refl));
    inside = λ k p. err≢ok p;
    size = refl;
    refused = λ k p. (inl (nine k p), refl);
    sound = λ g H. absurd (b (w g H));
  }

  module _ (u : Whole h ws) (is : (g : Graph) → Holds ws g → reads h ws ≡ list g) where
    told : (r : Result ℕ Refusal) (out' : List ℕ) → Lists (reads h ws) out r out' → ListAt (Whole (head_of ws) ws) (reads (head_of ws) ws) out r out'
    told r out' L = subst (λ (s : Head). ListAt (Whole s ws) (reads s ws) out r out') q.is (pass u (λ x y. x y) L)

    held : (r : Result ℕ Refusal) (out' : List ℕ) → Lists (reads h ws) out r out' → (g : Graph) → Holds ws g → Lists (list g) out r out'
    held r out' L g H = subst (λ (xs : List ℕ). Lists xs out r out') (is g H) L

    pub open_long : length out < length (reads h ws) → ListOpen list Whole reads ws out (Err TooLong) out
    open_long l =
        let L : Lists (reads h ws) out (Err TooLong) out = record { long = λ _. (refl, refl); fits = λ b. absurd (omega arith) } in
        record {
          exact = told (Err TooLong) out L;
          inside = λ k p. err≢ok p;
          size = refl;
          refused = λ k p. (inr (sym (ap (λ (a : Answer). a.number) p)), refl);
          sound = held (Err TooLong) out L;
        }

    pub open_written : length (reads h ws) ≤ length out → (k : ℕ) (out' : List ℕ) → Wrote out 0 (reads h ws) k out' → ListOpen list Whole reads ws out (Ok k) out'
    open_written fits k out' w =
        let e : k ≡ length (reads h ws) = omega (arith, w.next) in
        let L : Lists (reads h ws) out (Ok k) out' =
        record { long = λ b. absurd (omega arith); fits = λ _. (ap (λ (x : ℕ). yes_with (x ∷ [])) e, wrote_front w fits, wrote_back w fits) } in
        record {
          exact = told (Ok k) out' L;
          inside = λ j p. let t : j ≡ k = cc in omega arith;
          size = w.size;
          refused = λ j p. absurd (never j k p);
          sound = held (Ok k) out' L;
        }

-- what the head says is what the graph says
pub held_clean : {ws : List ℕ} {g : Graph} → Holds ws g → (head_of ws).clean ≡ g.clean
held_clean H = H.at_rest.clean_is

module _ (ws : List ℕ) (h : Head) (q : HeadIs (length ws) (hd ws) h) where
  clean_of : (head_of ws).clean ≡ h.clean
  clean_of = sym (ap (λ (s : Head). s.clean) q.is)

  pub unclean : {N X : Type 0} → h.clean ≡ false → N → Unless7 ws N X
  unclean e n = stop (clean_of ∙ e) (λ a b. false≢true (sym a ∙ b)) n

  pub cleaned : {N X : Type 0} → h.clean ≡ true → X → Unless7 ws N X
  cleaned e x = pass (clean_of ∙ e) (λ a b. false≢true (sym a ∙ b)) x

-- the head of a clean graph as a call reads it, or why it refuses
pub record OpensClean (ws : List ℕ) (r : Result Head Refusal) : Type 0 where
  pub good : (h : Head) → r ≡ Ok h → HeadIs (length ws) (hd ws) h × (h.clean ≡ true)
  pub bad : (q : Refusal) → r ≡ Err q → Unless3 ws (q ≡ BadHead) (Unless7 ws (q ≡ NotRebuilt) ⊥)

-- as the head is read
module _ (ws : List ℕ) (o : Result Head Refusal) (O : Opens ws o) where
  pub clean_no_head : (q : Refusal) → o ≡ Err q → OpensClean ws (Err BadHead)
  clean_no_head q e = record { good = λ h p. err≢ok p; bad = λ x p. let z : x ≡ BadHead = cc in shut ws o O q e z }

  module _ (h : Head) (e : o ≡ Ok h) where
    pub clean_not_rebuilt : h.clean ≡ false → OpensClean ws (Err NotRebuilt)
    clean_not_rebuilt f = record { good = λ k p. err≢ok p; bad = λ x p. let z : x ≡ NotRebuilt = cc in opened ws o O h e (λ q. unclean ws h q f z) }

    pub clean_read : h.clean ≡ true → OpensClean ws (Ok h)
    clean_read f = record { good = λ k p. let z : h ≡ k = cc in rw (← z) (O.good h e, f); bad = λ x p. err≢ok (sym p) }

-- the ladder of a call that begins with it: refused, No of the refusal's number; or on it goes
module _ (ws : List ℕ) (r : Result Head Refusal) (O : OpensClean ws r) where
  pub clean_shut : {X : Type 0} (No : ℕ → Type 0) (q : Refusal) → r ≡ Err q → No (number_of q) → Unless3 ws (No 3) (Unless7 ws (No 7) X)
  clean_shut No q e n =
      let b = O.bad q e in
      let is : (p : Refusal) → q ≡ p → No (number_of p) = λ p z. subst (λ (x : Refusal). No (number_of x)) z n in
      record { no = λ u. is BadHead (b.no u); on = λ g. let c = b.on g in record { no = λ f. is NotRebuilt (c.no f); on = λ t. absurd (c.on t) } }

  pub clean_opened : {M N X : Type 0} (h : Head) → r ≡ Ok h → X → Unless3 ws M (Unless7 ws N X)
  clean_opened h e x = let g = O.good h e in pass (head_good g.0) (λ b k. b k) (cleaned ws h g.0 g.1 x)

pub ids_is : {len : ℕ} {l : List ℕ} {h : Head} → HeadIs len l h → h.ids ≡ (numbers l).ids
ids_is p = ap (λ (s : Head). s.ids) p.is

-- the head of a graph that knows the id i as a call reads it, or why it refuses
pub record OpensKnown (ws : List ℕ) (i : ℕ) (r : Result Head Refusal) : Type 0 where
  pub good : (h : Head) → r ≡ Ok h → HeadIs (length ws) (hd ws) h × (i < h.ids)
  pub bad : (q : Refusal) → r ≡ Err q → Unless3 ws (q ≡ BadHead) (((head_of ws).ids ≤ i) × (q ≡ UnknownId))

-- as the head is read
module _ (ws : List ℕ) (i : ℕ) (o : Result Head Refusal) (O : Opens ws o) where
  pub known_no_head : (q : Refusal) → o ≡ Err q → OpensKnown ws i (Err BadHead)
  known_no_head q e = record { good = λ h p. err≢ok p; bad = λ x p. let z : x ≡ BadHead = cc in shut ws o O q e z }

  module _ (h : Head) (e : o ≡ Ok h) where
    pub known_unknown : h.ids ≤ i → OpensKnown ws i (Err UnknownId)
    known_unknown l = record {
      good = λ k p. err≢ok p;
      bad = λ x p. let z : x ≡ UnknownId = cc in opened ws o O h e (λ q. (omega (arith, ids_is q), z));
    }

    pub known_read : i < h.ids → OpensKnown ws i (Ok h)
    known_read l = record { good = λ k p. let z : h ≡ k = cc in rw (← z) (O.good h e, l); bad = λ x p. err≢ok (sym p) }

-- the ladder of a call that begins with it, where Bad is an id that is unknown: refused, No of the refusal's number; or on it goes
module _ (ws : List ℕ) (i : ℕ) (r : Result Head Refusal) (O : OpensKnown ws i r) where
  pub known_shut : {Bad Good X : Type 0} (No : ℕ → Type 0) → ((head_of ws).ids ≤ i → Bad) → (Bad → Good → ⊥) → (q : Refusal) → r ≡ Err q → No (number_of q)
      → Unless3 ws (No 3) (Else Bad (No 4) Good X)
  known_shut No far apart q e n =
      let b = O.bad q e in
      let is : (p : Refusal) → q ≡ p → No (number_of p) = λ p z. subst (λ (x : Refusal). No (number_of x)) z n in
      record { no = λ u. is BadHead (b.no u); on = λ g. let c = b.on g in stop (far c.0) apart (is UnknownId c.1) }

  pub known_opened : {N X : Type 0} (h : Head) → r ≡ Ok h → (HeadIs (length ws) (hd ws) h → i < h.ids → X) → Unless3 ws N X
  known_opened h e x = let g = O.good h e in pass (head_good g.0) (λ b k. b k) (x g.0 g.1)

-- an id cannot be both unknown and known
pub far_near : (i k : ℕ) → k ≤ i → i < k → ⊥
far_near i k f n = omega arith

-- the words past the need of the limits that stand in ws
abbrev pub past : List ℕ → List ℕ → List ℕ
past ws ws' = drop (need (head_of ws).n (head_of ws).m) ws'

-- the rest of a view, in these terms
pub past_rest : (ws : List ℕ) (h : Head) → HeadIs (length ws) (hd ws) h → (ws' : List ℕ) → (view h.n h.m ws').rest ≡ (view h.n h.m ws).rest
    → past ws ws' ≡ past ws ws
past_rest ws h q ws' e =
    let p : drop (need h.n h.m) ws' ≡ drop (need h.n h.m) ws = sym (view_rest h.n h.m ws') ∙ e ∙ view_rest h.n h.m ws in
    subst (λ (s : Head). drop (need s.n s.m) ws' ≡ drop (need s.n s.m) ws) q.is p

-- the scratch part, as the limits that stand in ws cut it: calls that do not work in it leave it as it was
abbrev pub scratch_of : List ℕ → List ℕ → List ℕ
scratch_of ws ws' = (view (head_of ws).n (head_of ws).m ws').scratch

pub scratch_still : (ws : List ℕ) (h : Head) → HeadIs (length ws) (hd ws) h → (ws' : List ℕ) → (view h.n h.m ws').scratch ≡ (view h.n h.m ws).scratch
    → scratch_of ws ws' ≡ scratch_of ws ws
scratch_still ws h q ws' e = subst (λ (s : Head). (view s.n s.m ws').scratch ≡ (view s.n s.m ws).scratch) q.is e

-- a head that stays in range while the words keep their number
pub ok_still : {len len' : ℕ} {h k : Head} → Near len h k → len' ≡ len → HeadOk len' k
ok_still {k = k} p e = subst (λ (l : ℕ). HeadOk l k) (sym e) p.ok

-- the limits stay: they are no part of the graph, but which adds have room depends on them
abbrev pub SameLimits : List ℕ → List ℕ → Type 0
SameLimits ws ws' = ((head_of ws').n ≡ (head_of ws).n) × ((head_of ws').m ≡ (head_of ws).m)

-- the head was not written
pub limits_stay : (ws ws' : List ℕ) → hd ws' ≡ hd ws → SameLimits ws ws'
limits_stay ws ws' e = (ap (λ (l : List ℕ). (numbers l).n) e, ap (λ (l : List ℕ). (numbers l).m) e)

-- the head was written, with the limits that were read
pub limits_written : (ws ws1 ws2 : List ℕ) (h k : Head) {len : ℕ} → HeadIs (length ws) (hd ws) h → Near len h k → HeadOk (length ws1) k → Noted ws1 ws2 (written (hd ws1) k) → SameLimits ws ws2
limits_written ws ws1 ws2 h k q near ok N =
    let p : k ≡ numbers (hd ws2) = rw (noted_hd N) (head_written (length ws1) (hd ws1) k ok).is in
    (sym (ap (λ (s : Head). s.n) p) ∙ near.n_is ∙ ap (λ (s : Head). s.n) q.is, sym (ap (λ (s : Head). s.m) p) ∙ near.m_is ∙ ap (λ (s : Head). s.m) q.is)

-- the ids and the places in use, which only an add changes
abbrev pub SameCounts : List ℕ → List ℕ → Type 0
SameCounts ws ws' = ((head_of ws').ids ≡ (head_of ws).ids) × ((head_of ws').places ≡ (head_of ws).places)

pub counts_stay : (ws ws' : List ℕ) → hd ws' ≡ hd ws → SameCounts ws ws'
counts_stay ws ws' e = (ap (λ (l : List ℕ). (numbers l).ids) e, ap (λ (l : List ℕ). (numbers l).places) e)

pub counts_written : (ws ws1 ws2 : List ℕ) (h k : Head) {len : ℕ} → HeadIs (length ws) (hd ws) h → NearIds len h k → Noted ws1 ws2 (written (hd ws1) k) → SameCounts ws ws2
counts_written ws ws1 ws2 h k q near N =
    let p : numbers (hd ws2) ≡ k = rw (noted_hd N) (numbers_written (hd ws1) k) in
    (ap (λ (s : Head). s.ids) p ∙ near.ids_is ∙ ap (λ (s : Head). s.ids) q.is, ap (λ (s : Head). s.places) p ∙ near.places_is ∙ ap (λ (s : Head). s.places) q.is)

-- the spare words of the head, which no call but setup writes
abbrev pub spare_of : List ℕ → List ℕ
spare_of ws = drop 7 (hd ws)

pub spare_stay : (ws ws' : List ℕ) → hd ws' ≡ hd ws → spare_of ws' ≡ spare_of ws
spare_stay ws ws' e = ap (λ (l : List ℕ). drop 7 l) e

pub spare_noted : (ws ws1 ws2 : List ℕ) (k : Head) → hd ws1 ≡ hd ws → Noted ws1 ws2 (written (hd ws1) k) → spare_of ws2 ≡ spare_of ws
spare_noted ws ws1 ws2 k e N = ap (λ (l : List ℕ). drop 7 l) (noted_hd N) ∙ spare_written (hd ws1) k ∙ spare_stay ws ws1 e

-- the head written back, with numbers near those that were read: the words hold what the parts hold
pub written_back : (ws ws1 ws2 : List ℕ) (h k : Head) → length ws1 ≡ length ws → NearIds (length ws) h k → Noted ws1 ws2 (written (hd ws1) k)
    → (g : Graph) → HoldsAt k h.places (view h.n h.m ws1) g → Holds ws2 g
written_back ws ws1 ws2 h k size near N g H =
    let K = subst (λ (v : View). HoldsAt k h.places v g) (sym (view_near near ws1)) H in
    holds_written ws1 ws2 k g (ok_still near.near size) N (subst (λ (u : ℕ). HoldsAt k u (view k.n k.m ws1) g) (sym near.places_is) K)
