-- The last of pending is taken. What `take` and the two functions inside it promise, and one law for each way out.
-- Assumes nothing.
use Rattle.std.specs.Prelude.{Err, None, Ok, Option, Result, Some, ◌⊎◌, ◌≡◌, refl, ◌+◌, ◌-◌, ◌<◌, ◌≤◌, ℕ, length}
use Rattle.broken.specs.declared.Broken.{Broken}
use Rattle.broken.specs.Words.{broken}
use mathlib.Core.List.{List, [], ◌∷◌, cons≢nil, head-eq_of_cons-eq, tail-eq_of_cons-eq}
use Rattle.std.proofs.Common.{inl, inr, ◌∙◌, ap, subst, sym, arith}
use Rattle.lists.specs.Reads.{at, Word}
use Rattle.lists.specs.Tests.{lt_or, zero_one}
use Rattle.language.specs.declared.Id.{Id}
use Rattle.steps.specs.Graph.{Graph, ids}
use Rattle.steps.specs.Machine.{popped}
use Rattle.holds.specs.Holds.{HoldsAt}
use Rattle.holds.specs.Inside.{Inside, inside_lent, inside_same}
use Rattle.holds.specs.Parents.{Parents}
use Rattle.holds.specs.ParentsLaws.{Took, parents_empty, parents_many_low, parents_some, parents_take_many, parents_take_one}
use Rattle.layout.specs.Cut.{pending}
use Rattle.layout.specs.Head.{HeadOk}
use Rattle.layout.specs.Lent.{Lent, lent_next}
use Rattle.layout.specs.View.{View, put, view}
use Rattle.layout.specs.declared.Head.{Head}
use Rattle.pending.specs.Promise.{PushesStretch, Tops}
use Rattle.pending.specs.declared.OnTop.{OnTop}
use Rattle.pending.specs.declared.OnTop.TheVariants.{TopMany, TopOne}
use Rattle.uniting.specs.Near.{NearIds}
use Rattle.holds.specs.HoldsLaws.{at_depth}

-- an id taken, and the head that is left
pub record Taken : Type 0 where
  pub id : Id
  pub head : Head

abbrev pub entry : ℕ → Head → Taken
entry i k = record { id = record { 0 = i }; head = k }

-- an id that was handed out, and an answer of `take`, with the head that is left, where they were not refused
abbrev pub handed : Head → Result Id Broken → Result Taken Broken
handed k (Ok x) = Ok (entry x.0 k)
handed k (Err e) = Err e

abbrev pub taken : Head → Result (Option Id) Broken → Result (Option Taken) Broken
taken k (Ok (Some x)) = Ok (Some (entry x.0 k))
taken k (Ok None) = Ok None
taken k (Err e) = Err e

-- ---- the promises

pub record Hands (h : Head) (d i : ℕ) (r : Result Taken Broken) : Type 0 where
  pub known : i < h.ids → r ≡ Ok (entry i (at_depth h d))
  pub unknown : h.ids ≤ i → r ≡ broken

pub record LastSays (h : Head) (place count : ℕ) (ws : List ℕ) (r : Result Taken Broken) (ws' : List ℕ) : Type 0 where
  pub inside : Inside h.n h.m ws ws'
  pub range : (x : Taken) → r ≡ Ok x → (x.id.0 < h.ids) × NearIds (length ws) h x.head
  pub sound : (g : Graph) (u : ℕ) → HoldsAt h u (view h.n h.m ws) g → (t : OnTop ℕ) → Tops (view h.n h.m ws).pending h.depth t → t ≡ TopMany place count
      → (i : ℕ) (rest : List ℕ) → g.pending ≡ i ∷ rest → i < ids g → (k : Head) × (r ≡ Ok (entry i k)) × HoldsAt k u (view h.n h.m ws') (popped g rest)

pub record TakeSays (h : Head) (ws : List ℕ) (r : Result (Option Taken) Broken) (ws' : List ℕ) : Type 0 where
  pub inside : Inside h.n h.m ws ws'
  pub range : (x : Taken) → r ≡ Ok (Some x) → (x.id.0 < h.ids) × NearIds (length ws) h x.head
  pub none : (g : Graph) (u : ℕ) → HoldsAt h u (view h.n h.m ws) g → g.pending ≡ [] → (r ≡ Ok None) × (ws' ≡ ws)
  pub some : (g : Graph) (u : ℕ) → HoldsAt h u (view h.n h.m ws) g
      → (i : ℕ) (rest : List ℕ) → g.pending ≡ i ∷ rest → i < ids g → (k : Head) × (r ≡ Ok (Some (entry i k))) × HoldsAt k u (view h.n h.m ws') (popped g rest)

-- ---- on the view

module _ {h : Head} {u : ℕ} {v : View} {g : Graph} (H : HoldsAt h u v g) where
  -- another stack, of no more entries, which stands for what is left
  pub holds_popped : (d i x : ℕ) (rest st : List ℕ) → d ≤ h.depth → g.pending ≡ i ∷ rest → Took h.n h.m h.ids u d v.uses v.owners st g.parents g.pending x
      → (x ≡ i) × HoldsAt (at_depth h d) u (put pending v st) (popped g rest)
  holds_popped d i x rest st le e T =
      let q = sym T.all ∙ e in
      let R = H.range in
      let few = H.few in (
        head-eq_of_cons-eq q,
        record {
          range = record { n_low = R.n_low; n_high = R.n_high; m_high = R.m_high; ids_in = R.ids_in; places_in = R.places_in; depth_in = omega arith; classes_in = R.classes_in };
          ids_are = H.ids_are;
          places_are = H.places_are;
          clean_is = H.clean_is;
          few = omega arith;
          linked = H.linked;
          forest = H.forest;
          nodes = H.nodes;
          parents = subst (λ (l : List ℕ). Parents h.n h.m h.ids u d v.uses v.owners st g.parents l) (tail-eq_of_cons-eq q) T.parents;
          members = H.members;
          tidy_keys = H.tidy_keys;
          tidy_lists = H.tidy_lists;
          scratch = H.scratch;
        },
      )

-- ---- an id handed out

near_depth : (len : ℕ) (h : Head) (d : ℕ) → HeadOk len h → d ≤ h.depth → NearIds len h (at_depth h d)
near_depth len h d ok le = record { near = record { ok = omega arith; n_is = refl; m_is = refl }; ids_is = refl; places_is = refl }

hands_range : (len : ℕ) (h : Head) (d i : ℕ) (r : Result Taken Broken) → HeadOk len h → d ≤ h.depth → Hands h d i r
    → (x : Taken) → r ≡ Ok x → (x.id.0 < h.ids) × NearIds len h x.head
hands_range len h d i r ok le K x e = go (lt_or i h.ids)
  where
    go : (i < h.ids) ⊎ (h.ids ≤ i) → (x.id.0 < h.ids) × NearIds len h x.head
    go (inl l) =
        let f = K.known l in
        let same : entry i (at_depth h d) ≡ x = cc in
        subst (λ (y : Taken). (y.id.0 < h.ids) × NearIds len h y.head) same (l, near_depth len h d ok le)
    go (inr l) = let f = K.unknown l in zero_one cc

module _ (h : Head) (ws : List ℕ) (ok : HeadOk (length ws) h) where
  -- ---- the ways out of `take_last`

  module _ (place count : ℕ) (q : (0 < h.depth) × (0 < count)) where
    pub last_broken : h.m ≤ place → LastSays h place count ws broken ws
    last_broken le = record {
      inside = inside_same h.n h.m ws;
      range = λ x e. zero_one cc;
      sound = λ g u H t T is i rest e l. absurd (let w = parents_many_low _ _ _ _ _ _ _ _ _ _ H.parents place count t q.0 T is in omega arith);
    }

    pub last_done : (ws1 : List ℕ) (i b d : ℕ) (r : Result Taken Broken) → Word (view h.n h.m ws).owners place i → Word (view h.n h.m ws).uses (h.n + h.n + h.n + place) b
        → Lent pending h.n h.m (λ w w'. PushesStretch w (h.depth - 1) b (count - 1) d w') ws ws1 → Hands h d i r → LastSays h place count ws r ws1
    last_done ws1 i b d r O W L K =
        let a = lent_next L refl in
        record {
          inside = inside_lent (λ v l. refl) L;
          range = hands_range (length ws) h d i r ok (omega (arith, L.did.high)) K;
          sound = λ g u H t T is j rest e l.
              let P = parents_take_many _ _ _ _ _ _ _ _ _ _ H.parents place count t q.0 T is b d a.new W.exact a.did in
              let p = holds_popped H d j (at (view h.n h.m ws).owners place) rest a.new (omega (arith, L.did.high)) e P in
              let ij : i ≡ j = O.exact ∙ p.0 in
              let low : i < h.ids = omega (arith, H.ids_are) in
              (at_depth h d, K.known low ∙ ap (λ (x : ℕ). Ok (entry x (at_depth h d))) ij, subst (λ (z : View). HoldsAt (at_depth h d) u z (popped g rest)) (sym a.is) p.1);
        }

  -- ---- the ways out of `take`

  pub take_none : h.depth ≡ 0 → TakeSays h ws (Ok None) ws
  take_none z = record {
    inside = inside_same h.n h.m ws;
    range = λ x e. zero_one cc;
    none = λ g u H e. (refl, refl);
    some = λ g u H i rest e l. absurd (cons≢nil (sym e ∙ parents_empty _ _ _ _ _ _ _ _ _ _ H.parents z));
  }

  -- an entry that was taken, or none where the step before it met broken words
  abbrev pub entry_of : Result Taken Broken → Result (Option Taken) Broken
  entry_of (Ok x) = Ok (Some x)
  entry_of (Err e) = Err e

  entry_is : (r : Result Taken Broken) (x : Taken) → entry_of r ≡ Ok (Some x) → r ≡ Ok x
  entry_is (Ok y) x e = cc
  entry_is (Err _) x e = zero_one cc

  module _ (some : 0 < h.depth) (t : OnTop ℕ) (T : Tops (view h.n h.m ws).pending h.depth t) (r : Result Taken Broken) where
    full : (g : Graph) (u : ℕ) → HoldsAt h u (view h.n h.m ws) g → g.pending ≡ [] → ⊥
    full g u H e = parents_some _ _ _ _ _ _ _ _ _ _ H.parents some e

    pub take_one : (x : ℕ) → t ≡ TopOne x → Hands h (h.depth - 1) x r → TakeSays h ws (entry_of r) ws
    take_one x is K = record {
      inside = inside_same h.n h.m ws;
      range = λ y e. hands_range (length ws) h (h.depth - 1) x r ok (omega arith) K y (entry_is r y e);
      none = λ g u H e. absurd (full g u H e);
      some = λ g u H i rest e l.
          let P = parents_take_one _ _ _ _ _ _ _ _ _ _ H.parents x t some T is in
          let p = holds_popped H (h.depth - 1) i x rest (view h.n h.m ws).pending (omega arith) e P in
          let low : x < h.ids = omega (arith, H.ids_are, p.0) in
          (at_depth h (h.depth - 1), ap entry_of (K.known low) ∙ ap (λ (y : ℕ). Ok (Some (entry y (at_depth h (h.depth - 1))))) p.0, p.1);
    }

    pub take_many : (place count : ℕ) (ws1 : List ℕ) → t ≡ TopMany place count → LastSays h place count ws r ws1 → TakeSays h ws (entry_of r) ws1
    take_many place count ws1 is L = record {
      inside = L.inside;
      range = λ x e. L.range x (entry_is r x e);
      none = λ g u H e. absurd (full g u H e);
      some = λ g u H i rest e l. let a = L.sound g u H t T is i rest e l in (a.0, ap entry_of a.1, a.2);
    }
