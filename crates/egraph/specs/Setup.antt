-- What `setup` promises: 1 and 2 exactly when document 01 says, with nothing changed; else words that hold the fresh graph.
-- Assumes nothing.
use Rattle.egraph.specs.declared.Refusal.{Refusal}
use Rattle.std.specs.Prelude.{Err, Ok, Result, List, [], ◌≡◌, refl, ◌*◌, ◌<◌, ◌≤◌, ℕ, drop, length, SomeIff, None, Some, Option}
use Rattle.std.proofs.Common.{◌∙◌, ap, subst, sym}
use Rattle.std.proofs.lemmas.Bool.{false≢true}
use native.Mathlib.Omega.{arith}
use Rattle.std.proofs.Math.Dec.{T}
use Rattle.std.proofs.Math.ListN.{replicate}
use Rattle.steps.specs.Graph.{kept}
use Rattle.steps.specs.Machine.{fresh}
use Rattle.cells.specs.Empty.{Cleared, cleared_pool}
use Rattle.cells.specs.Rows.{fits}
use Rattle.egraph.specs.Answers.{Else, no_by, pass, setup_says, stop, yes_with}
use Rattle.egraph.specs.declared.Refusal.TheVariants.{BadLimits, TooFewWords}
use Rattle.holds.specs.Holds.{Holds, HoldsAt}
use Rattle.holds.specs.HoldsLaws.{holds_out}
use Rattle.holds.specs.MembersLaws.{members_fresh}
use Rattle.holds.specs.ParentsLaws.{parents_fresh}
use Rattle.layout.specs.Cut.{members, need, rows, scratch, table, uses}
use Rattle.layout.specs.Head.{HeadIs, HeadOk, numbers}
use Rattle.layout.specs.Lent.{Lent, lent_next}
use Rattle.layout.specs.View.{View, hd, put, put_head, view, view_rest}
use Rattle.layout.proofs.Sizes.{get_length}
use Rattle.layout.specs.Written.{Noted, fresh_head, fresh_is, fresh_numbers, fresh_spare, noted_hd, noted_is}
use Rattle.rows.specs.Determined.{rows_none}
use Rattle.rows.specs.Rows.{size}
use Rattle.table.specs.Keys.{not_held_none, table_none}
use Rattle.unionfind.specs.Forest.{forest_none}
use Rattle.std.proofs.lemmas.Option.{none-some}
use Rattle.std.specs.Option.{ok_or}
use Rattle.broken.specs.Words.{err≢ok}

pub record Limits (n m : ℕ) : Type 0 where
  pub n_low : 1 ≤ n
  pub n_high : n ≤ 65536
  pub m_high : m ≤ 262144

-- the words that the limits need, with the refusal of limits that are out of range
module _ (n m : ℕ) (o : Option ℕ) (W : SomeIff o ((1 ≤ n) × (n ≤ 65536) × (m ≤ 262144)) (need n m)) (r : Result ℕ Refusal) (e : r ≡ ok_or o BadLimits) where
  pub limits_bad : (q : Refusal) → r ≡ Err q → (q ≡ BadLimits) × (Limits n m → ⊥)
  limits_bad q p = go o W (sym e ∙ p)
    where
      go : (o : Option ℕ) → SomeIff o ((1 ≤ n) × (n ≤ 65536) × (m ≤ 262144)) (need n m) → ok_or o BadLimits ≡ Err q → (q ≡ BadLimits) × (Limits n m → ⊥)
      go None w p = (cc, λ l. w (l.n_low, l.n_high, l.m_high))
      go (Some k) w p = err≢ok (sym p)

  pub limits_good : (k : ℕ) → r ≡ Ok k → Limits n m × (k ≡ need n m)
  limits_good k p = go o W (sym e ∙ p)
    where
      go : (o : Option ℕ) → SomeIff o ((1 ≤ n) × (n ≤ 65536) × (m ≤ 262144)) (need n m) → ok_or o BadLimits ≡ Ok k → Limits n m × (k ≡ need n m)
      go None w p = err≢ok p
      go (Some j) w p = let same : j ≡ k = cc in (record { n_low = w.0.0; n_high = w.0.1; m_high = w.0.2 }, sym same ∙ w.1)

pub record SetupOpen (ws : List ℕ) (n m : ℕ) (r : Result Unit Refusal) (ws' : List ℕ) : Type 0 where
  pub done : setup_says r ≡ yes_with []
  pub size : length ws' ≡ length ws
  pub rest : drop (need n m) ws' ≡ drop (need n m) ws
  pub limits : numbers (hd ws') ≡ fresh_numbers n m
  pub spare : drop 7 (hd ws') ≡ replicate 25 0
  pub held : Holds ws' fresh

abbrev pub SetupSays : List ℕ → ℕ → ℕ → Result Unit Refusal → List ℕ → Type 0
SetupSays ws n m r ws' =
    Else (Limits n m → ⊥) ((setup_says r ≡ no_by 1) × (ws' ≡ ws)) (Limits n m)
    (Else (length ws < need n m) ((setup_says r ≡ no_by 2) × (ws' ≡ ws)) (need n m ≤ length ws)
    (SetupOpen ws n m r ws'))

-- ---- the fresh graph

-- every part as setup leaves it
module _ (n m : ℕ) (v : View) (l : Limits n m) (rl : length v.rows ≡ size n m) where
  pub holds_fresh : (us ms ts sc hh : List ℕ) → Cleared v.uses us n n → Cleared v.members ms n n → Cleared v.table ts n n → sc ≡ replicate (6 * n) 0
      → HoldsAt (fresh_numbers n m) 0 (put_head (put scratch (put table (put members (put uses v us) ms) ts) sc) hh) fresh
  unfolding kept
  holds_fresh us ms ts sc hh U M T S = record {
    range = record { n_low = l.n_low; n_high = l.n_high; m_high = l.m_high; ids_in = omega arith; places_in = omega arith; depth_in = omega arith; classes_in = omega arith };
    ids_are = refl;
    places_are = refl;
    clean_is = refl;
    few = omega arith;
    linked = omega arith;
    forest = forest_none v.forest;
    nodes = record {
      keys = [];
      rows = rows_none v.rows n m rl;
      buckets = replicate n [];
      table = table_none v.table ts n T;
      found = λ k i live e. absurd (none-some _ e);
      only = λ k i live h e. absurd (not_held_none n i h);
    };
    parents = parents_fresh n m us v.owners v.pending (cleared_pool v.uses us n m U);
    members = members_fresh n ms (cleared_pool v.members ms n n M);
    tidy_keys = λ e. absurd (false≢true e);
    tidy_lists = λ e. absurd (false≢true e);
    scratch = S;
  }

-- ---- how the returns of the code stand on the ladder

module _ (ws : List ℕ) (n m : ℕ) where
  pub setup_bad : (Limits n m → ⊥) → SetupSays ws n m (Err BadLimits) ws
  setup_bad b = stop b (λ x g. x g) (refl, refl)

  pub setup_short : Limits n m → length ws < need n m → SetupSays ws n m (Err TooFewWords) ws
  setup_short l b = pass l (λ x g. x g) (stop b (λ x g. omega arith) (refl, refl))

  pub setup_open : Limits n m → need n m ≤ length ws → (r : Result Unit Refusal) (ws' : List ℕ) → SetupOpen ws n m r ws' → SetupSays ws n m r ws'
  setup_open l b r ws' o = pass l (λ x g. x g) (pass b (λ x g. omega arith) o)

-- the lists of all parts emptied
pub record Emptied (n m : ℕ) (ws ws' : List ℕ) : Type 0 where
  pub us : List ℕ
  pub ms : List ℕ
  pub ts : List ℕ
  pub size : length ws' ≡ length ws
  pub is : view n m ws' ≡ put table (put members (put uses (view n m ws) us) ms) ts
  pub uses_cleared : Cleared (view n m ws).uses us n n
  pub members_cleared : Cleared (view n m ws).members ms n n
  pub table_cleared : Cleared (view n m ws).table ts n n

pub emptied : (n m : ℕ) (ws ws1 ws2 ws3 : List ℕ) → Lent uses n m (λ w w'. Cleared w w' n n) ws ws1 → Lent members n m (λ w w'. Cleared w w' n n) ws1 ws2
    → Lent table n m (λ w w'. Cleared w w' n n) ws2 ws3 → Emptied n m ws ws3
emptied n m ws ws1 ws2 ws3 U M T =
    let a = lent_next U refl in
    let b = lent_next M a.is in
    let c = lent_next T b.is in
    record { us = a.new; ms = b.new; ts = c.new; size = T.size ∙ M.size ∙ U.size; is = c.is; uses_cleared = a.did; members_cleared = b.did; table_cleared = c.did }

-- all of it: the lists, then the scratch part, then the head
pub set_up : (n m : ℕ) (ws ws1 ws2 ws3 : List ℕ) → Limits n m → need n m ≤ length ws → Emptied n m ws ws1
    → Lent scratch n m (λ s s'. s' ≡ replicate (6 * n) 0) ws1 ws2 → Noted ws2 ws3 (fresh_head n m) → SetupOpen ws n m (Ok tt) ws3
set_up n m ws ws1 ws2 ws3 l fits E S N =
    let v = view n m ws in
    let s = lent_next S E.is in
    let size3 : length ws3 ≡ length ws = N.size ∙ S.size ∙ E.size in
    let ok : HeadOk (length ws2) (fresh_numbers n m) = fresh_ok (length ws2) (omega (arith, S.size, E.size)) in
    let q : HeadIs (length ws3) (hd ws3) (fresh_numbers n m) = noted_is N (fresh_is (length ws2) n m ok) in
    let e : view n m ws3 ≡ put_head (put scratch (put table (put members (put uses v E.us) E.ms) E.ts) s.new) (fresh_head n m) =
    N.else n m ∙ ap (λ (x : View). put_head x (fresh_head n m)) s.is in
    let rl : length v.rows ≡ size n m = omega (arith, get_length rows n m ws fits) in
    record {
      done = refl;
      size = size3;
      rest = sym (view_rest n m ws3) ∙ ap (λ (x : View). x.rest) e ∙ view_rest n m ws;
      limits = sym q.is;
      spare = ap (λ (x : List ℕ). drop 7 x) (noted_hd N) ∙ fresh_spare n m;
      held = holds_out ws3 (fresh_numbers n m) fresh q (subst (λ (x : View). HoldsAt (fresh_numbers n m) 0 x fresh) (sym e)
          (holds_fresh n m v l rl E.us E.ms E.ts s.new (fresh_head n m) E.uses_cleared E.members_cleared E.table_cleared s.did));
    }
  where
    fresh_ok : (len : ℕ) → need n m ≤ len → HeadOk len (fresh_numbers n m)
    fresh_ok len h = record { n_low = l.n_low; n_high = l.n_high; m_high = l.m_high; ids_in = omega arith; places_in = omega arith; depth_in = omega arith; classes_in = omega arith; lent = h }
