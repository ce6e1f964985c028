-- An add keeps the invariant. What was forced stays forced when nodes are added.
-- Assumes nothing.
use mathlib.Core.List.{List, [], ◌++◌, ◌∷◌, map}
use Rattle.std.specs.Prelude.{◌⊎◌, ◌≡◌, refl, length, Option, None, Some}
use Rattle.std.proofs.Common.{inl, inr, ◌∙◌, sym, arith}
use Rattle.std.proofs.Math.Path.{ap, fun_ext}
use Prim.Native.Nat.{◌<◌, suc, ℕ}
use Rattle.lists.specs.Members.{Mem, here, mem-cases, mem-map, there}
use Rattle.lists.specs.Reads.{at, length_more, lt_more}
use Rattle.lists.specs.Tests.{zero_one}
use Rattle.language.specs.Term.{Match, Term}
use Rattle.steps.specs.Forced.{Forced, alike, asked, back, self, then}
use Rattle.steps.specs.Graph.{Graph, canon, ids, kept, key_of, node, root, uses}
use Rattle.steps.specs.Machine.{add, add_by, add_uncanonical, grow, link}
use Rattle.closure.specs.Facts.{kept_past, length_link, link_adds, link_from, link_keeps, node_new, node_old, root_more, root_out, uses_more}
use Rattle.closure.specs.Invariant.{Good, Same, Settled, Shape, Sound, Stands, Whole, canon_stands, set_sound}

-- ---- what was forced still is

forced_alike_grow : (ns : List Term) (us : List (ℕ × ℕ)) (x : Term) (i j : ℕ) → i < length ns → j < length ns → Match (node ns i) (node ns j)
    → ((p : ℕ) → p < length (node ns i).kids → Forced (ns ++ (x ∷ [])) us (at (node ns i).kids p) (at (node ns j).kids p)) → Forced (ns ++ (x ∷ [])) us i j
forced_alike_grow ns us x i j i_lt j_lt m e = alike {i = i} {j = j} (omega (arith, length_more ns x)) (omega (arith, length_more ns x)) (rw (node_old ns x i i_lt, node_old ns x j j_lt) m) (rw (node_old ns x i i_lt, node_old ns x j j_lt) e)

pub forced_grow : {ns : List Term} {us : List (ℕ × ℕ)} (x : Term) {i j : ℕ} → Forced ns us i j → Forced (ns ++ (x ∷ [])) us i j
forced_grow x (asked m) = asked m
forced_grow x self = self
forced_grow x (back f) = back (forced_grow x f)
forced_grow x (then f h) = then (forced_grow x f) (forced_grow x h)
forced_grow {ns} {us} x (alike {i = i} {j = j} i_lt j_lt m e) = forced_alike_grow ns us x i j i_lt j_lt m (λ p h. forced_grow x (e p h))

-- ---- add

module _ (us : List (ℕ × ℕ)) (g : Graph) (x : Term) (G : Good Same us g) (kids_in : (c : ℕ) → Mem c x.kids → c < ids g) (absent : kept (canon g.roots x) g.memo ≡ None) where
  n : ℕ
  n = ids g

  ns' : List Term
  ns' = g.nodes ++ (x ∷ [])

  rs' : List ℕ
  rs' = g.roots ++ (ids g ∷ [])

  ps' : List (List ℕ)
  ps' = link (ids g) (canon g.roots x).kids (g.parents ++ ([] ∷ []))

  root_same : (i : ℕ) → root rs' i ≡ root g.roots i
  unfolding rs'
  root_same i = root_more g.roots (ids g) i G.shape.rl

  len : length ns' ≡ suc (ids g)
  unfolding ns'
  len = length_more g.nodes x

  len_ps : length ps' ≡ suc (ids g)
  unfolding ps'
  len_ps = length_link (ids g) (canon g.roots x).kids (g.parents ++ ([] ∷ [])) ∙ (length_more g.parents [] ∙ ap suc G.shape.pl)

  len_rs : length rs' ≡ suc (ids g)
  unfolding rs'
  len_rs = length_more g.roots (ids g) ∙ ap suc G.shape.rl

  from_uses : (r y : ℕ) → Mem y (uses ps' r) → (y ≡ ids g) ⊎ ((q : ℕ) × Mem y (uses (g.parents ++ ([] ∷ [])) q))
  unfolding ps'
  from_uses r y m = link_from (ids g) (canon g.roots x).kids (g.parents ++ ([] ∷ [])) r y m

  to_uses : (r y : ℕ) → Mem y (uses g.parents r) → Mem y (uses ps' r)
  unfolding ps'
  to_uses r y m = link_keeps (ids g) (canon g.roots x).kids (g.parents ++ ([] ∷ [])) r y (rw (uses_more g.parents r) m)

  new_uses : (r : ℕ) → Mem r (canon g.roots x).kids → r < suc (ids g) → Mem (ids g) (uses ps' r)
  unfolding ps'
  new_uses r m h = link_adds (ids g) (canon g.roots x).kids (g.parents ++ ([] ∷ [])) r m (omega (arith, length_more g.parents [], G.shape.pl))

  split : (i : ℕ) → i < length ns' → (i < ids g) ⊎ (i ≡ ids g)
  unfolding ns'
  split i h = lt_more g.nodes x i h

  old_node : (i : ℕ) → i < ids g → node ns' i ≡ node g.nodes i
  unfolding ns'
  old_node i h = node_old g.nodes x i h

  new_node : (i : ℕ) → i ≡ ids g → node ns' i ≡ x
  unfolding ns'
  new_node i e = rw e (node_new g.nodes x)

  grow_shape : Shape ns' rs' ps' (ids g ∷ g.pending)
  grow_shape = record {
    rl = len_rs ∙ sym len;
    pl = len_ps ∙ sym len;
    root_lt = λ i h. rw (root_same i) (lt i (split i h));
    root_root = λ i. rw (root_same i, root_same (root g.roots i)) (G.shape.root_root i);
    kids_lt = λ i c h m. kin i c m (split i h);
    pend_lt = λ i m. pin i (mem-cases m);
    uses_lt = λ r y m. uin y (from_uses r y m);
    linked = λ i c h m. rw (root_same c) (lin i c m (split i h));
  }
    where
      lt : (i : ℕ) → (i < ids g) ⊎ (i ≡ ids g) → root g.roots i < length ns'
      lt i (inl h) = omega (arith, len, G.shape.root_lt i h)
      lt i (inr e) = omega (arith, len, root_out g.roots i (omega (arith, G.shape.rl)))

      kin : (i c : ℕ) → Mem c (node ns' i).kids → (i < ids g) ⊎ (i ≡ ids g) → c < length ns'
      kin i c m (inl h) = omega (arith, len, G.shape.kids_lt i c h (rw (old_node i h) at m))
      kin i c m (inr e) = omega (arith, len, kids_in c (rw (new_node i e) at m))

      pin : (i : ℕ) → (i ≡ ids g) ⊎ Mem i g.pending → i < length ns'
      pin i (inl e) = omega (arith, len)
      pin i (inr m) = omega (arith, len, G.shape.pend_lt i m)

      uin : (y : ℕ) → (y ≡ ids g) ⊎ ((q : ℕ) × Mem y (uses (g.parents ++ ([] ∷ [])) q)) → y < length ns'
      uin y (inl e) = omega (arith, len)
      uin y (inr k) = omega (arith, len, G.shape.uses_lt k.0 y (rw (uses_more g.parents k.0) at k.1))

      lin : (i c : ℕ) → Mem c (node ns' i).kids → (i < ids g) ⊎ (i ≡ ids g) → Mem i (uses ps' (root g.roots c))
      lin i c m (inl h) = to_uses (root g.roots c) i (G.shape.linked i c h (rw (old_node i h) at m))
      lin i c m (inr e) = let m' : Mem c x.kids = rw (new_node i e) at m in let r_lt : root g.roots c < ids g = G.shape.root_lt c (kids_in c m') in
          rw e (new_uses (root g.roots c) (mem-map (root g.roots) m') (omega arith))

  grow_sound : Sound us ns' rs' ((canon g.roots x, ids g) ∷ g.memo)
  unfolding ns'
  grow_sound = set_sound us ns' rs' g.memo (canon g.roots x) (ids g) (omega (arith, len)) (rw (new_node (ids g) refl) stands)
      (record { memo_lt = λ k m e. omega (arith, len, G.sound.memo_lt k m e); to_root = to; keys = keep })
    where
      to : (i : ℕ) → Forced ns' us i (root rs' i)
      to i = rw (root_same i) (forced_grow x (G.sound.to_root i))

      stands : Stands ns' us (canon g.roots x) x
      stands = canon_stands us ns' g.roots x (λ i. rw (root_same i) at (to i))

      keep : (k : Term) (m : ℕ) → kept k g.memo ≡ Some m → Stands ns' us k (node ns' m)
      keep k m e = rw (old_node m (G.sound.memo_lt k m e)) (record { match = (G.sound.keys k m e).match; each = λ p h. forced_grow x ((G.sound.keys k m e).each p h) })

  grow_whole : Whole Same us ns' rs' ((canon g.roots x, ids g) ∷ g.memo) (ids g ∷ g.pending)
  grow_whole = record {
    asks = λ i j m. root_same i ∙ (G.whole.asks i j m ∙ sym (root_same j));
    covered = λ j h. cover j (split j h);
  }
    where
      roots_same : root rs' ≡ root g.roots
      roots_same = fun_ext root_same

      key : (j : ℕ) → j < ids g → canon rs' (node ns' j) ≡ key_of g j
      key j h = rw (old_node j h) (ap (λ f. record { op = (node g.nodes j).op; payload = (node g.nodes j).payload; kids = map f (node g.nodes j).kids }) roots_same)

      never : (j m : ℕ) → kept (key_of g j) g.memo ≡ Some m → key_of g j ≡ canon g.roots x → ⊥
      never j m e q = zero_one cc

      old : (j : ℕ) → j < ids g → Mem j g.pending ⊎ Settled Same g.nodes g.roots g.memo j
          → Mem j (ids g ∷ g.pending) ⊎ Settled Same ns' rs' ((canon g.roots x, ids g) ∷ g.memo) j
      old j h (inl m) = inl (there m)
      old j h (inr t) = inr (
        t.0,
        rw (key j h) (kept_past (key_of g j) (canon g.roots x) (ids g) g.memo (λ q. never j t.0 t.1 q) ∙ t.1),
        root_same j ∙ (t.2 ∙ sym (root_same t.0)),
      )

      cover : (j : ℕ) → (j < ids g) ⊎ (j ≡ ids g) → Mem j (ids g ∷ g.pending) ⊎ Settled Same ns' rs' ((canon g.roots x, ids g) ∷ g.memo) j
      cover j (inl h) = old j h (G.whole.covered j h)
      cover j (inr e) = inl (here e)

  grow_good : Good Same us (grow g x)
  unfolding grow ns' rs' ps'
  grow_good = record { shape = grow_shape; sound = grow_sound; whole = grow_whole }

pub add_good : (us : List (ℕ × ℕ)) (g : Graph) (x : Term) → Good Same us g → ((c : ℕ) → Mem c x.kids → c < ids g) → Good Same us (add g x).graph
unfolding add add_uncanonical add_by
add_good us g x G kids_in = go (kept (canon g.roots x) g.memo) refl
  where
    go : (o : Option ℕ) → kept (canon g.roots x) g.memo ≡ o → Good Same us (add_by g x o).graph
    go None e = grow_good us g x G kids_in e
    go (Some i) e = G
