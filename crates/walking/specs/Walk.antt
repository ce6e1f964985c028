-- The whole walk: `list_form` promises that on the words of a clean graph with its prices, where no class is listed yet, it leaves the listing of the asked class's
-- cheapest form (`listing` of price) in the scratch part as Laid (pricing) has it, and answers its length. On any words it writes the scratch words from 3n on only.
-- Assumes nothing.
use Rattle.std.specs.Prelude.{Ok, Result, Some, List, [], ◌∷◌, ◌≢◌, ◌≡◌, refl, ◌*◌, ◌+◌, ◌<◌, ◌≤◌, ℕ, length}
use Rattle.broken.specs.declared.Broken.{Broken}
use Rattle.broken.specs.Words.{broken, err≢ok}
use Rattle.std.proofs.Common.{◌∙◌, ap, sym}
use native.Mathlib.Omega.{arith}
use Rattle.lists.specs.Reads.{at, get_or_copies}
use Rattle.lists.specs.Stores.{puts_hit, puts_miss}
use Rattle.lists.specs.Tests.{zero_one}
use Rattle.steps.specs.Classes.{class_nodes, class_roots}
use Rattle.steps.specs.Graph.{Graph}
use Rattle.egraph.specs.ClassReads.{AtRest, Classed, classed_lent, classed_listed}
use Rattle.layout.specs.Cut.{scratch}
use Rattle.layout.specs.Head.{HeadOk}
use Rattle.layout.specs.Idle.{lent_same}
use Rattle.layout.specs.Lent.{Lent, Stored, lent_twice}
use Rattle.layout.specs.View.{View, view}
use Rattle.layout.proofs.Sizes.{get_length}
use Rattle.layout.specs.declared.Head.{Head}
use Rattle.price.specs.Chosen.{Backed, Ranked, backed, no_circle, ranked}
use Rattle.price.specs.Extract.{listing, table}
use Rattle.price.specs.Listing.{Listing, spot}
use Rattle.price.specs.Pass.{Best, Table, look}
use Rattle.price.specs.Shown.{Fine}
use Rattle.price.specs.Size.{AstSize}
use Rattle.pricing.specs.Costs.{FindsCosts}
use Rattle.pricing.specs.Entries.{Prices}
use Rattle.pricing.specs.Laid.{Laid}
use Rattle.walking.specs.State.{Behind, Standing, laid_kept, laid_none, prices_kept}
use Rattle.walking.specs.Step.{Steps}
use Rattle.walking.specs.Way.{Way, way_end, way_start}
use Rattle.walking.specs.declared.Reached.{Reached}
use Rattle.std.proofs.lemmas.Option.{none-some}

-- ---- the promises

-- the scratch words ss have the listing m, with the prices by which it was made
pub record FormLaid (h : Head) (g : Graph) (t : Table ℕ) (m : Listing) (o : Result ℕ Broken) (ss : List ℕ) : Type 0 where
  pub is : o ≡ Ok (length m)
  pub laid : Laid h.n ss m
  pub prices : Prices g h.n ss t

-- from one class on the stack, and none listed
pub record Walks (h : Head) (ws : List ℕ) (o : Result ℕ Broken) (ws' : List ℕ) : Type 0 where
  pub only : Lent scratch h.n h.m (Behind h.n) ws ws'
  pub few : (k : ℕ) → o ≡ Ok k → k ≤ h.n
  pub law : (g : Graph) (t : Table ℕ) (B : Backed AstSize (class_nodes g) t) (K : Ranked AstSize (class_nodes g) t) (m : Listing) → Classed h (view h.n h.m ws) g
      → Standing h g t B K m (view h.n h.m ws).scratch 0 1 → FormLaid h g t m o (view h.n h.m ws').scratch

-- the scratch words ss have the prices of g in the end, class r has one, and no class is listed
pub record Ready (h : Head) (g : Graph) (r : ℕ) (ss : List ℕ) : Type 0 where
  pub prices : Prices g h.n ss (table AstSize g)
  pub unplaced : (c : ℕ) → c < h.n → at ss (3 * h.n + c) ≡ 0
  pub best : Best ℕ
  pub entry : look r (table AstSize g) ≡ Some best

pub record ListsForm (h : Head) (r : ℕ) (ws : List ℕ) (o : Result ℕ Broken) (ws' : List ℕ) : Type 0 where
  pub only : Lent scratch h.n h.m (Behind h.n) ws ws'
  pub few : (k : ℕ) → o ≡ Ok k → k ≤ h.n
  pub law : (g : Graph) → Classed h (view h.n h.m ws) g → Ready h g r (view h.n h.m ws).scratch
      → FormLaid h g (table AstSize g) (listing g (table AstSize g) r) o (view h.n h.m ws').scratch

-- ---- the loop

-- k classes are listed and d stand on the stack
pub record Walking (h : Head) (k d : ℕ) (ws ws' : List ℕ) : Type 0 where
  pub only : Lent scratch h.n h.m (Behind h.n) ws ws'
  pub law : (g : Graph) (t : Table ℕ) (B : Backed AstSize (class_nodes g) t) (K : Ranked AstSize (class_nodes g) t) (m : Listing) → Classed h (view h.n h.m ws) g
      → Standing h g t B K m (view h.n h.m ws).scratch 0 1 → Standing h g t B K m (view h.n h.m ws').scratch k d

module _ (h : Head) (ws : List ℕ) where
  pub walking_start : Walking h 0 1 ws ws
  walking_start = record { only = lent_same ws (λ i l. refl); law = λ g t B K m C S. S }

  module _ (k d : ℕ) (ws1 ws2 : List ℕ) (A : Walking h k d ws ws1) (o : Result Reached Broken) (W : Steps h k d ws1 o ws2) where
    both : Lent scratch h.n h.m (Behind h.n) ws ws2
    both = lent_twice (λ x y z p q i l. q i l ∙ p i l) A.only W.only

    pub walking_more : (a : Reached) → o ≡ Ok a → Walking h a.listed a.depth ws ws2
    walking_more a e = record { only = both; law = λ g t B K m C S. one g t B K m (W.law g t B K m (classed_lent A.only C) (A.law g t B K m C S)) }
      where
        one : (g : Graph) (t : Table ℕ) (B : Backed AstSize (class_nodes g) t) (K : Ranked AstSize (class_nodes g) t) (m : Listing)
            → (x : Reached) × (o ≡ Ok x) × Standing h g t B K m (view h.n h.m ws2).scratch x.listed x.depth
            → Standing h g t B K m (view h.n h.m ws2).scratch a.listed a.depth
        one g t B K m (x, q, S) = let z : x ≡ a = cc (q, e) in rw (← z) S

    pub walk_broken : o ≡ broken → Walks h ws broken ws2
    walk_broken e = record {
      only = both;
      few = λ j q. zero_one cc;
      law = λ g t B K m C S. let s = W.law g t B K m (classed_lent A.only C) (A.law g t B K m C S) in err≢ok (sym e ∙ s.1);
    }

  -- the stack is empty
  pub walk_done : (k d : ℕ) (ws' : List ℕ) → k ≤ h.n → d ≡ 0 → Walking h k d ws ws' → Walks h ws (Ok k) ws'
  walk_done k d ws' le e A = record {
    only = A.only;
    few = λ j q. let z : k ≡ j = cc in rw (← z) le;
    law = λ g t B K m C S. last g t B K m (A.law g t B K m C S);
  }
    where
      last : (g : Graph) (t : Table ℕ) (B : Backed AstSize (class_nodes g) t) (K : Ranked AstSize (class_nodes g) t) (m : Listing)
          → Standing h g t B K m (view h.n h.m ws').scratch k d → FormLaid h g t m (Ok k) (view h.n h.m ws').scratch
      last g t B K m S = record { is = ap Ok (sym S.count ∙ ap length done); laid = rw (← done) S.laid; prices = S.prices }
        where
          go : (q : List ℕ) → length q ≡ d → Way AstSize (class_nodes g) t B K S.left q S.now m → S.now ≡ m
          go [] l w = way_end AstSize (class_nodes g) t B K S.left S.now m w
          go (x ∷ q) l w = absurd (omega arith)

          done : S.now ≡ m
          done = go S.stack S.deep S.way

-- ---- the asked class

-- the choices of the table in the end
backs : (g : Graph) → Backed AstSize (class_nodes g) (table AstSize g)
backs g = backed AstSize (class_nodes g) (class_roots g) (length (class_roots g))

ranks : (g : Graph) → Ranked AstSize (class_nodes g) (table AstSize g)
ranks g = ranked AstSize (class_nodes g) (class_roots g) (length (class_roots g))

fine_none : (g : Graph) → Fine AstSize (class_nodes g) (table AstSize g) (backs g) (ranks g) []
unfolding spot
fine_none g = record { once = tt; shown = λ c p e. absurd (none-some _ e) }

module _ (h : Head) (r : ℕ) (ws ws1 : List ℕ) (ok : HeadOk (length ws) h) (T : Lent scratch h.n h.m (Stored (5 * h.n) r) ws ws1) where
  ss : List ℕ
  ss = (view h.n h.m ws).scratch

  ss1 : List ℕ
  ss1 = (view h.n h.m ws1).scratch

  miss : (i : ℕ) → i ≢ 5 * h.n → at ss1 i ≡ at ss i
  unfolding ss ss1
  miss i ne = rw T.did (puts_miss ((5 * h.n, r) ∷ []) (view h.n h.m ws).scratch i (ne, tt))

  hit : at ss1 (5 * h.n + 0) ≡ r
  unfolding ss ss1
  hit =
      let z : 5 * h.n + 0 ≡ 5 * h.n = omega arith in
      rw (z, T.did) (puts_hit ((5 * h.n, r) ∷ []) (view h.n h.m ws).scratch 0 (omega arith) (omega (arith, ok.n_low, get_length scratch h.n h.m ws ok.lent)) tt)

  -- the asked class alone on the stack
  stand_start : (g : Graph) {v : View} → Classed h v g → Ready h g r ss → Standing h g (table AstSize g) (backs g) (ranks g) (listing g (table AstSize g) r) ss1 0 1
  stand_start g C R =
      go
      (way_start AstSize (class_nodes g) (table AstSize g) (backs g) (ranks g) (length (class_roots g)) r
      (no_circle AstSize (class_nodes g) (class_roots g) (classed_listed C) (table AstSize g) (backs g) (ranks g) r R.best R.entry))
    where
      go : (k : ℕ) × (k + 1 ≡ length (class_roots g)) × Way AstSize (class_nodes g) (table AstSize g) (backs g) (ranks g) k (r ∷ []) [] (listing g (table AstSize g) r)
          → Standing h g (table AstSize g) (backs g) (ranks g) (listing g (table AstSize g) r) ss1 0 1
      go (k, e, w) = record {
        prices = prices_kept g h.n ss ss1 (table AstSize g) (λ i l. miss i (omega (arith, ok.n_low))) R.prices;
        now = [];
        laid = laid_kept h.n ss ss1 [] (λ i l. miss i (omega arith)) (laid_none h.n ss R.unplaced);
        count = refl;
        stack = r ∷ [];
        stacked = (hit, tt);
        deep = refl;
        left = k;
        room = e;
        fine = fine_none g;
        way = w;
      }

  pub form_done : (ws2 : List ℕ) (o : Result ℕ Broken) → Walks h ws1 o ws2 → ListsForm h r ws o ws2
  unfolding ss ss1
  form_done ws2 o W = record {
    only = lent_twice (λ x y z p q i l. q i l ∙ rw p (puts_miss ((5 * h.n, r) ∷ []) x i (omega (arith, ok.n_low), tt))) T W.only;
    few = W.few;
    law = λ g C R. W.law g (table AstSize g) (backs g) (ranks g) (listing g (table AstSize g) r) (classed_lent T C) (stand_start g C R);
  }

-- ---- after the passes

-- what `find_costs` leaves of words that hold a clean graph
pub ready : (h : Head) (ws ws1 : List ℕ) (o : Result Unit Broken) → FindsCosts h ws o ws1 → (g : Graph) → AtRest h (view h.n h.m ws) g
    → (r : ℕ) (b : Best ℕ) → look r (table AstSize g) ≡ Some b → Ready h g r (view h.n h.m ws1).scratch
ready h ws ws1 o F g R r b e = record {
  prices = (F.law g R).1;
  unplaced = λ i l. F.only.did (3 * h.n + i) (omega arith) ∙ rw R.clear (get_or_copies (6 * h.n) (3 * h.n + i) 0);
  best = b;
  entry = e;
}
