-- One step of the walk: `step` promises that it goes on by one of the two moves of Way, so that the words still hold the walk on its way to the same listing, and that
-- it never refuses words that hold a clean graph with its prices. `Onward` bounds the number of steps on any words.
-- Assumes nothing.
use Rattle.std.specs.Prelude.{None, Ok, Option, Result, Some, List, [], ◌∷◌, ◌≢◌, ◌≡◌, refl, ◌*◌, ◌+◌, ◌-◌, ◌<◌, ◌≤◌, suc, ℕ, length, set}
use Rattle.broken.specs.declared.Broken.{Broken}
use Rattle.broken.specs.Words.{broken, err≢ok}
use Rattle.std.proofs.Common.{◌∙◌, ap, subst, sym, arith}
use Rattle.std.proofs.Math.Decide.{ℕ_discrete}
use Rattle.lists.specs.Keeps.{length_filter, length_upto, upto}
use Rattle.lists.specs.Reads.{at, Word}
use Rattle.lists.specs.Stores.{puts, puts_hit, puts_miss}
use Rattle.language.specs.declared.Id.{Id}
use Rattle.steps.specs.Classes.{class_nodes, class_roots}
use Rattle.steps.specs.Graph.{Graph, ids, root}
use Rattle.closure.specs.Listed.{roots_from}
use Rattle.egraph.specs.ClassReads.{Classed, classed_ids, classed_listed}
use Rattle.layout.specs.Cut.{scratch}
use Rattle.layout.specs.Head.{HeadOk}
use Rattle.layout.specs.Idle.{lent_same}
use Rattle.layout.specs.Lent.{Lent, Stored, lent_map, lent_twice}
use Rattle.layout.specs.View.{View, view}
use Rattle.layout.proofs.Sizes.{get_length}
use Rattle.layout.specs.declared.Head.{Head}
use Rattle.price.specs.Chosen.{Backed, Ranked, in_list}
use Rattle.price.specs.Listing.{Listing, with_places}
use Rattle.price.specs.Pass.{Table}
use Rattle.price.specs.Shown.{Fine}
use Rattle.price.specs.Size.{AstSize}
use Rattle.walking.specs.Kids.{NextKidOf}
use Rattle.walking.specs.State.{Behind, Stacked, Standing, laid_kept, laid_more, listing_stores, prices_kept, stacked_kept}
use Rattle.walking.specs.Way.{Top, Way, few_listed, fine_list, unlisted, way_list, way_push, way_top}
use Rattle.walking.specs.declared.Reached.{Reached}
use Rattle.language.specs.Told.{told_id, told_none, told_not, told_some}

-- ---- a class listed

abbrev pub ListsAt : ℕ → ℕ → ℕ → List ℕ → List ℕ → Type 0
ListsAt n k c s s' = s' ≡ puts s (listing_stores n k c)

-- the two stores of `list_class`
pub listed_class : (n m k c : ℕ) (ws ws1 ws2 : List ℕ) → Lent scratch n m (Stored (4 * n + k) c) ws ws1 → Lent scratch n m (Stored (3 * n + c) (k + 1)) ws1 ws2
    → Lent scratch n m (ListsAt n k c) ws ws2
listed_class n m k c ws ws1 ws2 A B = lent_twice (λ x y z p q. q ∙ ap (λ (l : List ℕ). set l (3 * n + c) (k + 1)) p) A B

-- ---- the promise

-- with k classes listed and d on the stack: a step has listed one or stacked one
abbrev pub Onward : ℕ → ℕ → ℕ → Reached → Type 0
Onward n k d a = (a.listed ≤ n) × (a.depth ≤ n) × (2 * a.listed + a.depth ≡ 2 * k + d + 1)

pub record Steps (h : Head) (k d : ℕ) (ws : List ℕ) (r : Result Reached Broken) (ws' : List ℕ) : Type 0 where
  pub only : Lent scratch h.n h.m (Behind h.n) ws ws'
  pub onward : (a : Reached) → r ≡ Ok a → Onward h.n k d a
  pub law : (g : Graph) (t : Table ℕ) (B : Backed AstSize (class_nodes g) t) (K : Ranked AstSize (class_nodes g) t) (m : Listing) → Classed h (view h.n h.m ws) g
      → Standing h g t B K m (view h.n h.m ws).scratch k d
      → (a : Reached) × (r ≡ Ok a) × Standing h g t B K m (view h.n h.m ws').scratch a.listed a.depth

-- ---- the top of the stack

-- class c is on top
pub record Atop (n : ℕ) (g : Graph) (t : Table ℕ) (B : Backed AstSize (class_nodes g) t) (K : Ranked AstSize (class_nodes g) t) (m : Listing) (ss : List ℕ) (d c left : ℕ) (now : Listing) : Type 0 where
  pub below : List ℕ
  pub deep : suc (length below) ≡ d
  pub stacked : Stacked n ss (c ∷ below)
  pub top : Top AstSize (class_nodes g) t B K left c below now m

few_roots : (g : Graph) → length (class_roots g) ≤ ids g
few_roots g = omega (arith, length_filter (λ (i : ℕ). ℕ_discrete (root g.roots i) i) (upto (ids g)), length_upto (ids g))

module _ (h : Head) (g : Graph) (t : Table ℕ) (B : Backed AstSize (class_nodes g) t) (K : Ranked AstSize (class_nodes g) t) (m : Listing) (ss : List ℕ) (k d c : ℕ)
    (S : Standing h g t B K m ss k d) where
  pub atop : 0 < d → c ≡ at ss (5 * h.n + (d - 1)) → Atop h.n g t B K m ss d c S.left S.now
  atop some_deep is = go S.stack S.stacked S.deep S.way
    where
      go : (q : List ℕ) → Stacked h.n ss q → length q ≡ d → Way AstSize (class_nodes g) t B K S.left q S.now m → Atop h.n g t B K m ss d c S.left S.now
      go [] s e w = absurd (omega arith)
      go (x ∷ st) s e w =
          let i : length st ≡ d - 1 = omega arith in
          let z : x ≡ c = sym s.0 ∙ ap (λ (y : ℕ). at ss (5 * h.n + y)) i ∙ sym is in
          record {
            below = st;
            deep = e;
            stacked = (s.0 ∙ z, s.1);
            top = subst (λ (y : ℕ). Top AstSize (class_nodes g) t B K S.left y st S.now m) z (way_top AstSize (class_nodes g) t B K S.left x st S.now m w);
          }

  module _ (A : Atop h.n g t B K m ss d c S.left S.now) (size : length ss ≡ 6 * h.n) (ss' : List ℕ) where
    -- the child x of the top goes onto the stack
    module _ (x : ℕ) (e : unlisted S.now A.top.best.node.kids ≡ Some x) where
      pushed : (j : ℕ) × (suc j ≡ S.left) × Way AstSize (class_nodes g) t B K j (x ∷ c ∷ A.below) S.now m
      pushed = way_push AstSize (class_nodes g) t B K S.left c A.below S.now m S.fine A.top x e

      pub push_room : d < length (class_roots g)
      push_room = let p = pushed in omega (arith, p.1, S.room)

      pub stand_push : d < h.n → ss' ≡ set ss (5 * h.n + d) x → Standing h g t B K m ss' k (d + 1)
      stand_push lt q =
          let p = pushed in
          record {
            prices = prices_kept g h.n ss ss' t (λ i l. miss i (omega arith)) S.prices;
            now = S.now;
            laid = laid_kept h.n ss ss' S.now (λ i l. miss i (omega arith)) S.laid;
            count = S.count;
            stack = x ∷ c ∷ A.below;
            stacked = (ap (λ (y : ℕ). at ss' (5 * h.n + y)) A.deep ∙ hit, stacked_kept h.n ss ss' (c ∷ A.below) (λ i l. miss (5 * h.n + i) (omega (arith, A.deep))) A.stacked);
            deep = omega (arith, A.deep);
            left = p.0;
            room = omega (arith, p.1, S.room);
            fine = S.fine;
            way = p.2;
          }
        where
          miss : (i : ℕ) → i ≢ 5 * h.n + d → at ss' i ≡ at ss i
          miss i ne = rw q (puts_miss ((5 * h.n + d, x) ∷ []) ss i (ne, tt))

          hit : at ss' (5 * h.n + d) ≡ x
          hit = rw q (puts_hit ((5 * h.n + d, x) ∷ []) ss 0 (omega arith) (omega arith) tt)

    -- the top is listed
    module _ (e : unlisted S.now A.top.best.node.kids ≡ None) where
      fine_more : Fine AstSize (class_nodes g) t B K ((c, with_places S.now A.top.best.node) ∷ S.now)
      fine_more = fine_list AstSize (class_nodes g) t B K S.left c A.below S.now m S.fine A.top e

      pub list_room : {v : View} → Classed h v g → k < length (class_roots g)
      list_room C =
          let f = few_listed AstSize (class_nodes g) (class_roots g) (classed_listed C) t B K ((c, with_places S.now A.top.best.node) ∷ S.now) fine_more in
          omega (arith, f, S.count)

      pub stand_list : k < h.n → c < h.n → ListsAt h.n k c ss ss' → Standing h g t B K m ss' (k + 1) (d - 1)
      stand_list hk hc q = record {
        prices = prices_kept g h.n ss ss' t (λ i l. miss i (omega arith)) S.prices;
        now = (c, with_places S.now A.top.best.node) ∷ S.now;
        laid = laid_more h.n ss ss' S.now k c (with_places S.now A.top.best.node) size S.laid A.top.new hc hk S.count q;
        count = omega (arith, S.count);
        stack = A.below;
        stacked = stacked_kept h.n ss ss' A.below (λ i l. miss (5 * h.n + i) (omega arith)) A.stacked.1;
        deep = omega (arith, A.deep);
        left = suc S.left;
        room = omega (arith, S.room, A.deep);
        fine = fine_more;
        way = way_list AstSize (class_nodes g) t B K S.left c A.below S.now m S.fine A.top e;
      }
        where
          miss : (i : ℕ) → (i ≢ 4 * h.n + k) × (i ≢ 3 * h.n + c) → at ss' i ≡ at ss i
          miss i ne = rw q (puts_miss (listing_stores h.n k c) ss i (ne.0, (ne.1, tt)))

-- ---- the ways out

module _ (h : Head) (k d : ℕ) (ws : List ℕ) (ok : HeadOk (length ws) h) (in_range : (k ≤ h.n) × (0 < d) × (d ≤ h.n)) (c : ℕ)
    (L : Word (view h.n h.m ws).scratch (5 * h.n + (d - 1)) c) where
  -- the words hold no walk of g
  abbrev NoWalk : Graph → Type 0
  NoWalk g = (t : Table ℕ) (B : Backed AstSize (class_nodes g) t) (K : Ranked AstSize (class_nodes g) t) (m : Listing) → Standing h g t B K m (view h.n h.m ws).scratch k d → ⊥

  -- a refusal, where no clean graph's words come to it
  refused : ((g : Graph) → Classed h (view h.n h.m ws) g → NoWalk g) → Steps h k d ws broken ws
  refused never = record { only = lent_same ws (λ i l. refl); onward = λ a e. err≢ok e; law = λ g t B K m C S. absurd (never g C t B K m S) }

  module _ (g : Graph) (C : Classed h (view h.n h.m ws) g) (t : Table ℕ) (B : Backed AstSize (class_nodes g) t) (K : Ranked AstSize (class_nodes g) t) (m : Listing)
      (S : Standing h g t B K m (view h.n h.m ws).scratch k d) where
    on : Atop h.n g t B K m (view h.n h.m ws).scratch d c S.left S.now
    on = atop h g t B K m (view h.n h.m ws).scratch k d c S in_range.1 L.exact

    top_in : c < h.ids
    top_in =
        let q = roots_from g c (in_list AstSize (class_nodes g) (class_roots g) (classed_listed C) t B K c on.top.best on.top.chosen) in
        omega (arith, q.0, classed_ids C)

    next_is : (r : Result (Option Id) Broken) → NextKidOf h c (view h.n h.m ws) r → r ≡ told_id (unlisted S.now on.top.best.node.kids)
    next_is r N = N.law g t on.top.best S.now C S.prices on.top.chosen S.laid.places

    room : length (class_roots g) ≤ h.n
    room = omega (arith, few_roots g, classed_ids C, ok.ids_in)

  pub step_stray : h.ids ≤ c → Steps h k d ws broken ws
  step_stray off = refused (λ g C t B K m S. omega (arith, top_in g C t B K m S))

  size : length (view h.n h.m ws).scratch ≡ 6 * h.n
  size = get_length scratch h.n h.m ws ok.lent

  module _ (lt : c < h.ids) (r : Result (Option Id) Broken) (N : NextKidOf h c (view h.n h.m ws) r) where
    pub step_broken : r ≡ broken → Steps h k d ws broken ws
    step_broken e = refused (λ g C t B K m S. told_not (unlisted S.now (on g C t B K m S).top.best.node.kids) (sym e ∙ next_is g C t B K m S r N))

    module _ (x : Id) (e : r ≡ Ok (Some x)) where
      first_is : (g : Graph) (C : Classed h (view h.n h.m ws) g) (t : Table ℕ) (B : Backed AstSize (class_nodes g) t) (K : Ranked AstSize (class_nodes g) t) (m : Listing)
          (S : Standing h g t B K m (view h.n h.m ws).scratch k d) → unlisted S.now (on g C t B K m S).top.best.node.kids ≡ Some x.0
      first_is g C t B K m S = told_some (unlisted S.now (on g C t B K m S).top.best.node.kids) x (sym e ∙ next_is g C t B K m S r N)

      pub step_full : d ≡ h.n → Steps h k d ws broken ws
      step_full f =
          refused
          (λ g C t B K m S.
          omega (arith, push_room h g t B K m (view h.n h.m ws).scratch k d c S (on g C t B K m S) size [] x.0 (first_is g C t B K m S), room g C t B K m S))

      pub step_push : (ws' : List ℕ) → d ≢ h.n → Lent scratch h.n h.m (Stored (5 * h.n + d) x.0) ws ws' → Steps h k d ws (Ok (record { listed = k; depth = d + 1 })) ws'
      step_push ws' ne T = record {
        only = lent_map (λ s s' q i l. rw q (puts_miss ((5 * h.n + d, x.0) ∷ []) s i (omega arith, tt))) T;
        onward = λ a q. let z : record { listed = k; depth = d + 1 } ≡ a = cc in rw (← z) (in_range.0, omega (arith, in_range.2), omega arith);
        law = λ g t B K m C S. (
          record { listed = k; depth = d + 1 },
          refl,
          stand_push h g t B K m (view h.n h.m ws).scratch k d c S (on g C t B K m S)
              size _ x.0 (first_is g C t B K m S) (omega (arith, in_range.2)) T.did,
        );
      }

    module _ (e : r ≡ Ok None) where
      none_left : (g : Graph) (C : Classed h (view h.n h.m ws) g) (t : Table ℕ) (B : Backed AstSize (class_nodes g) t) (K : Ranked AstSize (class_nodes g) t) (m : Listing)
          (S : Standing h g t B K m (view h.n h.m ws).scratch k d) → unlisted S.now (on g C t B K m S).top.best.node.kids ≡ None
      none_left g C t B K m S = told_none (unlisted S.now (on g C t B K m S).top.best.node.kids) (sym e ∙ next_is g C t B K m S r N)

      pub step_crowded : k ≡ h.n → Steps h k d ws broken ws
      step_crowded f =
          refused
          (λ g C t B K m S.
          omega (arith, list_room h g t B K m (view h.n h.m ws).scratch k d c S (on g C t B K m S) size [] (none_left g C t B K m S) C, room g C t B K m S))

      pub step_list : (ws' : List ℕ) → k ≢ h.n → Lent scratch h.n h.m (ListsAt h.n k c) ws ws' → Steps h k d ws (Ok (record { listed = k + 1; depth = d - 1 })) ws'
      step_list ws' ne T = record {
        only = lent_map (λ s s' q i l. rw q (puts_miss (listing_stores h.n k c) s i (omega arith, (omega arith, tt)))) T;
        onward = λ a q.
            let z : record { listed = k + 1; depth = d - 1 } ≡ a = cc in
            rw (← z) (omega (arith, in_range.0), omega (arith, in_range.2), omega (arith, in_range.1));
        law = λ g t B K m C S. (
          record { listed = k + 1; depth = d - 1 },
          refl,
          stand_list h g t B K m (view h.n h.m ws).scratch k d c S (on g C t B K m S)
              size _ (none_left g C t B K m S) (omega (arith, in_range.0)) (omega (arith, ok.ids_in)) T.did,
        );
      }
