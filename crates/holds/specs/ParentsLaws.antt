-- The micro-steps of the machine on parent lists and pending, as what the parts `uses`, `owners` and `pending` do: none at first, a new id, an id linked to one
-- parent list, an id pushed, two classes merged, the id pushed last taken. And: the words determine the lists.
-- Assumes nothing.
use Rattle.std.specs.Prelude.{Ok, Result, ◌≢◌, ◌≡◌, refl, replicate, take}
use Rattle.broken.specs.declared.Broken.{Broken}
use mathlib.Core.List.{List, [], ◌++◌, ◌∷◌, map, map-append, reverse}
use Rattle.std.proofs.Math.Logic.{⊎_elim}
use Rattle.std.proofs.Common.{◌∙◌, ext_get_or}
use Rattle.std.proofs.Math.Path.{ap, sym}
use Prim.Native.Nat.{◌+◌, ◌-◌, ◌<◌, ◌≤◌, suc, ℕ}
use native.Mathlib.Omega.{arith}
use Rattle.std.proofs.Math.ListN.{get_or-eq_default, get_or, length, length-append, length-set, set}
use Rattle.std.proofs.lemmas.List.{length-map, take-map}
use Rattle.std.proofs.Math.Seq.{get_or-set_other, get_or-set_same}
use Rattle.lists.specs.Reads.{at, get_or_map_lt, get_or_more, get_or_copies, map_at}
use Rattle.lists.specs.Tests.{lt_or}
use Rattle.steps.specs.Graph.{uses}
use Rattle.steps.specs.Machine.{link}
use Rattle.cells.specs.Changes.{Joined, Pushed}
use Rattle.cells.specs.Free.{under_free, under_join, under_none, under_push}
use Rattle.cells.specs.Join.{join_cases, join_else}
use Rattle.cells.specs.Pool.{Apart, Pool, Under, join_l, push_l, row}
use Rattle.cells.specs.Push.{push_cases, push_else}
use Rattle.cells.specs.Rows.{determined}
use Rattle.cells.specs.Stretch.{stretch_determined, Stretch, part_under, stretch_join, stretch_list, stretch_low, stretch_pop, stretch_push}
use Rattle.holds.specs.Parents.{Owned, Parents}
use Rattle.pending.specs.Moves.{StretchOn, Taken, depth_le, pending_determined, pending_empty, pending_map, pending_none, pending_one, pending_stretch, take_last, take_one, top_stretch}
use Rattle.pending.specs.Promise.{Pushes, PushesStretch, Tops}
use Rattle.pending.specs.declared.OnTop.{OnTop}
use Rattle.pending.specs.declared.OnTop.TheVariants.{TopMany, TopOne}

-- ---- stretches and their owners

owned_determined : (own : List ℕ) (L : List (List ℕ)) → Apart L → (c k : ℕ) (xs ys : List ℕ) → Owned own L c (suc k) xs → Owned own L c (suc k) ys → xs ≡ ys
owned_determined own L A c k xs ys o p =
    o.are ∙ ap (map (at own)) (stretch_determined L A c k o.places p.places o.stretch p.stretch) ∙ sym p.are

owned_length : (own : List ℕ) (L : List (List ℕ)) (c k : ℕ) (xs : List ℕ) → Owned own L c k xs → length xs ≡ k
owned_length own L c k xs o = ap length o.are ∙ length-map o.places (at own) ∙ o.stretch.size

-- a place that is in no list may change its owner
owner_free : (own : List ℕ) (u i : ℕ) (xs : List ℕ) → ((j : ℕ) → j < length xs → at xs j < u) → map (at (set own u i)) xs ≡ map (at own) xs
owner_free own u i xs h = map_at (at (set own u i)) (at own) xs (λ j l. get_or-set_other own u (at xs j) i 0 (omega (arith, h j l)))

-- and where it is appended to a list, its owner is
owner_more : (own : List ℕ) (u i : ℕ) (xs : List ℕ) → u < length own → ((j : ℕ) → j < length xs → at xs j < u)
    → map (at own) xs ++ (i ∷ []) ≡ map (at (set own u i)) (xs ++ (u ∷ []))
owner_more own u i xs l h =
    let a = get_or-set_same own u i 0 l in
    let b = owner_free own u i xs h in
    sym (map-append (at (set own u i)) xs (u ∷ []) ∙ (λ j. b j ++ (a j ∷ [])))

owned_push : (own : List ℕ) (L : List (List ℕ)) (list u i : ℕ) → list < length L → Under L u
    → (c k : ℕ) (xs : List ℕ) → Owned own L c k xs → Owned (set own u i) (push_l L list u) c k xs
owned_push own L list u i h f c k xs o = record {
  places = o.places;
  stretch = stretch_push L list u c k o.places h o.stretch;
  are = o.are ∙ sym (owner_free own u i o.places (part_under L u o.places f o.stretch.part));
}

owned_join : (own : List ℕ) (L : List (List ℕ)) (a b : ℕ) → a < length L → b < length L → a ≢ b
    → (c k : ℕ) (xs : List ℕ) → Owned own L c k xs → Owned own (join_l L a b) c k xs
owned_join own L a b h l ne c k xs o = record { places = o.places; stretch = stretch_join L a b c k o.places h l ne o.stretch; are = o.are }

-- ---- none at first

pub parents_fresh : (n m : ℕ) (us own st : List ℕ) → Pool us n m (replicate n []) → Parents n m 0 0 0 us own st [] []
parents_fresh n m us own st p = record {
  lists = replicate n [];
  pool = p;
  count = refl;
  are = λ a h. absurd (omega arith);
  none = λ a h. get_or_copies n a [];
  under = under_none n 0;
  pending = pending_none st;
}

module _ (n m N u d : ℕ) (us own st : List ℕ) (ps : List (List ℕ)) (pend : List ℕ) (P : Parents n m N u d us own st ps pend) where
  -- ---- a new id has no parents

  pub parents_more : Parents n m (N + 1) u d us own st (ps ++ ([] ∷ [])) pend
  unfolding uses
  parents_more = record {
    lists = P.lists;
    pool = P.pool;
    count = length-append ps ([] ∷ []) ∙ ap (λ (z : ℕ). z + 1) P.count;
    are = λ a h. get_or_more (λ _. []) ps a ∙ ⊎_elim (λ (l : a < N). P.are a l) (λ (l : N ≤ a). past a l ∙ sym (ap (map (at own)) (P.none a l))) (lt_or a N);
    none = λ a h. P.none a (omega arith);
    under = P.under;
    pending = P.pending;
  }
    where
      past : (a : ℕ) → N ≤ a → get_or ps a [] ≡ []
      past a h = get_or-eq_default ps [] {n = a} (rw P.count h)

  -- ---- how many parents

  pub parents_len : (a : ℕ) → a < N → N ≤ n → at us (a + n + n) ≡ length (uses ps a)
  parents_len a h nN = (P.pool.rows a (omega arith)).size ∙ sym (ap length (P.are a h) ∙ length-map (row P.lists a) (at own))

  -- ---- id i becomes the owner of the next place, which goes to the end of one list

  module _ (list i : ℕ) (hl : list < N) (nN : N ≤ n) (hu : u < m) (lo : length own ≡ m) where
    lists_link : (a : ℕ) → a < N → uses (link i (list ∷ []) ps) a ≡ map (at (set own u i)) (row (push_l P.lists list u) a)
    unfolding uses link
    lists_link a h =
        let L = P.lists in
        let all = P.under.all in
        push_cases (λ x zs. x < N → get_or (set ps list (get_or ps list [] ++ (i ∷ []))) x [] ≡ map (at (set own u i)) zs) L list u (omega (arith, P.pool.count))
        (λ _. get_or-set_same ps list (get_or ps list [] ++ (i ∷ [])) [] (omega (arith, P.count))
        ∙ ap (λ (xs : List ℕ). xs ++ (i ∷ [])) (P.are list hl) ∙ owner_more own u i (row L list) (omega arith) (all list))
        (λ x ne k. get_or-set_other ps list x (get_or ps list [] ++ (i ∷ [])) [] ne ∙ P.are x k ∙ sym (owner_free own u i (row L x) (all x)))
        a h

    pub parents_link : (us' own' : List ℕ) (r : Result Unit Broken) → own' ≡ set own u i → Pushed us us' n m list u r
        → (r ≡ Ok tt) × Parents n m N (u + 1) d us' own' st (link i (list ∷ []) ps) pend
    unfolding link
    parents_link us' own' r e q =
        let L = P.lists in
        let j = q.law L P.pool (under_free L u u P.under (omega arith)) in
        let hL : list < length L = omega (arith, P.pool.count) in
        let one : suc u ≡ u + 1 = omega arith in (
          j.0,
          rw e (record {
            lists = push_l L list u;
            pool = j.1;
            count = length-set ps list (uses ps list ++ (i ∷ [])) ∙ P.count;
            are = lists_link;
            none = λ a h. push_else L list u a (omega arith) ∙ P.none a h;
            under = rw one at (under_push L list u hL P.under);
            pending = pending_map (owned_push own L list u i hL P.under) P.pending;
          }),
        )

  -- ---- an id is pushed

  pub parents_push : (i : ℕ) (st' : List ℕ) → Pushes st d i 0 st' → Parents n m N u (d + 1) us own st' ps (i ∷ pend)
  parents_push i st' q = record {
    lists = P.lists;
    pool = P.pool;
    count = P.count;
    are = P.are;
    none = P.none;
    under = P.under;
    pending = pending_one i P.pending q;
  }

  -- ---- the list of `lose` goes to the end of that of `stay`, and its ids on pending

  module _ (stay lose : ℕ) (hs : stay < N) (hl : lose < N) (ne : stay ≢ lose) (nN : N ≤ n) where
    lists_merge : (a : ℕ) → a < N → uses (set (set ps stay (uses ps stay ++ uses ps lose)) lose []) a ≡ map (at own) (row (join_l P.lists stay lose) a)
    unfolding uses
    lists_merge a h =
        let L = P.lists in
        let both : List ℕ = get_or ps stay [] ++ get_or ps lose [] in
        let mid : List (List ℕ) = set ps stay both in
        let lm : length mid ≡ length ps = length-set ps stay both in
        let lp = P.count in
        let lL = P.pool.count in
        join_cases (λ x zs. x < N → get_or (set mid lose []) x [] ≡ map (at own) zs) L stay lose (omega arith) (omega arith)
        (λ _. get_or-set_same mid lose [] [] (omega arith))
        (λ _. get_or-set_other mid lose stay [] [] ne ∙ get_or-set_same ps stay both [] (omega arith)
        ∙ (λ j. P.are stay hs j ++ P.are lose hl j) ∙ sym (map-append (at own) (row L stay) (row L lose)))
        (λ x na nb k. get_or-set_other mid lose x [] [] nb ∙ get_or-set_other ps stay x both [] na ∙ P.are x k)
        a h

    pub parents_merge : (k : ℕ) (us' st' : List ℕ) (r : Result Unit Broken) → Joined us us' n m stay lose r → PushesStretch st d (at us lose) (at us (lose + n + n)) k st'
        → (r ≡ Ok tt)
        × Parents n m N u k us' own st' (set (set ps stay (uses ps stay ++ uses ps lose)) lose []) (reverse (uses ps lose) ++ pend)
    parents_merge k us' st' r J q =
        let L = P.lists in
        let j = J.law L P.pool in
        let hs' : stay < length L = omega (arith, P.pool.count) in
        let hl' : lose < length L = omega (arith, P.pool.count) in
        let owned : Owned own (join_l L stay lose) (at us lose) (at us (lose + n + n)) (uses ps lose) =
        record {
          places = row L lose;
          stretch = stretch_join L stay lose _ _ (row L lose) hs' hl' ne (stretch_list us n m L lose P.pool (omega arith));
          are = P.are lose hl;
        } in (
          j.0,
          record {
            lists = join_l L stay lose;
            pool = j.1;
            count = length-set (set ps stay (uses ps stay ++ uses ps lose)) lose [] ∙ length-set ps stay (uses ps stay ++ uses ps lose) ∙ P.count;
            are = lists_merge;
            none = λ a h. join_else L stay lose a (omega arith) (omega arith) ∙ P.none a h;
            under = under_join L stay lose u hs' hl' ne P.under;
            pending = pending_stretch (at us lose) (at us (lose + n + n)) (uses ps lose) (λ _. owned) (sym (parents_len lose hl nN))
                (pending_map (owned_join own L stay lose hs' hl' ne) P.pending) q;
          },
        )

-- ---- the id pushed last is taken

-- pending is i and then the rest, which stands at depth d
pub record Took (n m N u d : ℕ) (us own st : List ℕ) (ps : List (List ℕ)) (pend : List ℕ) (i : ℕ) : Type 0 where
  pub rest : List ℕ
  pub all : pend ≡ i ∷ rest
  pub parents : Parents n m N u d us own st ps rest

module _ (n m N u d : ℕ) (us own st : List ℕ) (ps : List (List ℕ)) (pend : List ℕ) (P : Parents n m N u d us own st ps pend) where
  -- the same lists, and another pending list
  took : (e : ℕ) (st' : List ℕ) (i : ℕ) → Taken (Owned own P.lists) st' e i pend → Took n m N u e us own st' ps pend i
  took e st' i t = record {
    rest = t.left;
    all = t.all;
    parents = record { lists = P.lists; pool = P.pool; count = P.count; are = P.are; none = P.none; under = P.under; pending = t.rest };
  }

  pub parents_empty : d ≡ 0 → pend ≡ []
  parents_empty e = pending_empty (rw e at P.pending)

  pub parents_some : 0 < d → pend ≢ []
  parents_some h e = omega (arith, depth_le (owned_length own P.lists) P.pending, ap length e)

  -- an entry of one id
  pub parents_take_one : (i : ℕ) (r : OnTop ℕ) → 0 < d → Tops st d r → r ≡ TopOne i → Took n m N u (d - 1) us own st ps pend i
  parents_take_one i r some t e = took (d - 1) st i (take_one P.pending some t e)

  -- an entry of k places: the id is the owner of the last, and the other places are put back
  module _ (c k : ℕ) (r : OnTop ℕ) (some : 0 < d) (t : Tops st d r) (many : r ≡ TopMany c k) where
    on_top : StretchOn (Owned own P.lists) st (d - 1) c k pend
    on_top = top_stretch P.pending some t many

    places_on : Stretch P.lists c (suc (k - 1)) on_top.stretch.places
    places_on = let l : suc (k - 1) ≡ k = omega (arith, t.many_small c k many) in rw l on_top.stretch.stretch

    pub parents_many_low : c < m
    parents_many_low = stretch_low us n m P.lists P.pool c (k - 1) on_top.stretch.places places_on

    pub parents_take_many : (b e : ℕ) (st' : List ℕ) → b ≡ at us (n + n + n + c) → PushesStretch st (d - 1) b (k - 1) e st'
        → Took n m N u e us own st' ps pend (at own c)
    parents_take_many b e st' eb q =
        let L = P.lists in
        let top = on_top in
        let o = top.stretch in
        let s = places_on in
        let back : Owned own L b (k - 1) (take (k - 1) top.xs) =
        rw eb (record {
          places = take (k - 1) o.places;
          stretch = stretch_pop us n m L P.pool c (k - 1) o.places s;
          are = ap (take (k - 1)) o.are ∙ take-map (at own) (k - 1) o.places;
        }) in
        let last : at top.xs (k - 1) ≡ at own c =
        ap (λ (l : List ℕ). at l (k - 1)) o.are ∙ get_or_map_lt (at own) o.places (k - 1) (omega (arith, s.size)) ∙ ap (at own) (sym (s.final (k - 1) refl)) in
        took e st' (at own c) (rw last at (take_last b top (t.many_small c k many).1 (owned_length own L c k top.xs o) (λ _. back) q))

-- ---- the words determine the lists

pub parents_determined : (n m N u d : ℕ) (us own st : List ℕ) (ps ps' : List (List ℕ)) (pend pend' : List ℕ)
    → Parents n m N u d us own st ps pend → Parents n m N u d us own st ps' pend' → (ps ≡ ps') × (pend ≡ pend')
unfolding uses
parents_determined n m N u d us own st ps ps' pend pend' P Q =
    let L = determined us n m P.lists Q.lists P.pool Q.pool in (
      ext_get_or [] ps ps' (P.count ∙ sym Q.count)
          (λ a h. let l : a < N = rw P.count at h in
          P.are a l ∙ ap (λ (K : List (List ℕ)). map (at own) (row K a)) L ∙ sym (Q.are a l)),
      pending_determined (owned_determined own Q.lists Q.pool.apart) (rw L at P.pending) Q.pending,
    )
