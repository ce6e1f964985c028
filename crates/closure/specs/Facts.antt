-- What `kept`, `root`, `node`, `uses` and `link` say: the reads of a graph after one of its parts has changed.
-- Assumes nothing.
use Rattle.std.specs.Prelude.{List, [], ◌++◌, ◌∷◌, map, ◌≢◌, ◌⊎◌, ◌≡◌, refl, ◌<◌, ◌≤◌, ℕ, Some}
use Rattle.std.proofs.Common.{inl, inr, ◌∙◌, sym, arith}
use lib.ListN.{get_or-append, get_or-eq_default, length, length-set, set}
use lib.Seq.{get_or-append_seam, get_or-set_other, get_or-set_same, lt-length-set}
use Rattle.lists.specs.Members.{Mem, here, mem-append-cases, mem-cases, mem-left, mem-nil, mem_one, mem-right, there}
use Rattle.lists.specs.Reads.{get_or_map_or, get_or_more, get_or_set_cases}
use Rattle.lists.specs.Relabel.{Hit, relabel, relabel_cases, relabel_miss}
use Rattle.lists.specs.Tests.{when_no, when_yes}
use Rattle.language.specs.Term.{Term, same_term, term_new, term_old}
use Rattle.steps.specs.Graph.{kept, node, root, uses}
use Rattle.steps.specs.Machine.{link}

-- ---- the table

pub kept_here : (k k' : Term) (i : ℕ) (m : List (Term × ℕ)) → k ≡ k' → kept k ((k', i) ∷ m) ≡ Some i
unfolding kept
kept_here k k' i m e = when_yes (same_term k k') (Some i) (kept k m) e

pub kept_past : (k k' : Term) (i : ℕ) (m : List (Term × ℕ)) → k ≢ k' → kept k ((k', i) ∷ m) ≡ kept k m
unfolding kept
kept_past k k' i m e = when_no (same_term k k') (Some i) (kept k m) e

-- ---- root, node, uses

pub root_more : (rs : List ℕ) (n i : ℕ) → length rs ≡ n → root (rs ++ (n ∷ [])) i ≡ root rs i
unfolding root
root_more rs n i e = rw (← e) (get_or_more (λ k. k) rs i)

pub root_map : (f : ℕ → ℕ) (rs : List ℕ) (i : ℕ) → (length rs ≤ i → f i ≡ i) → root (map f rs) i ≡ f (root rs i)
unfolding root
root_map f rs i h = get_or_map_or f i rs i h

pub node_old : (ns : List Term) (x : Term) (i : ℕ) → i < length ns → node (ns ++ (x ∷ [])) i ≡ node ns i
unfolding node
node_old = term_old

pub node_new : (ns : List Term) (x : Term) → node (ns ++ (x ∷ [])) (length ns) ≡ x
unfolding node
node_new = term_new

pub uses_more : (ps : List (List ℕ)) (r : ℕ) → uses (ps ++ ([] ∷ [])) r ≡ uses ps r
unfolding uses
uses_more ps r = get_or_more (λ k. []) ps r

pub uses_set_cases : (ps : List (List ℕ)) (r : ℕ) (v : List ℕ) (j : ℕ) → ((j ≡ r) × (uses (set ps r v) j ≡ v)) ⊎ (uses (set ps r v) j ≡ uses ps j)
unfolding uses
uses_set_cases ps r v j = get_or_set_cases ps r v j []

pub uses_set_same : (ps : List (List ℕ)) (r : ℕ) (v : List ℕ) → r < length ps → uses (set ps r v) r ≡ v
unfolding uses
uses_set_same ps r v h = lib.Seq.get_or-set_same ps r v [] h

pub uses_set_other : (ps : List (List ℕ)) (r : ℕ) (v : List ℕ) (j : ℕ) → j ≢ r → uses (set ps r v) j ≡ uses ps j
unfolding uses
uses_set_other ps r v j h = lib.Seq.get_or-set_other ps r j v [] h

-- a longer list at one place keeps every member
pub set_keeps : (ps : List (List ℕ)) (r : ℕ) (v : List ℕ) (j x : ℕ) → (Mem x (uses ps r) → Mem x v) → Mem x (uses ps j) → Mem x (uses (set ps r v) j)
set_keeps ps r v j x grow h = go (uses_set_cases ps r v j)
  where
    go : ((j ≡ r) × (uses (set ps r v) j ≡ v)) ⊎ (uses (set ps r v) j ≡ uses ps j) → Mem x (uses (set ps r v) j)
    go (inl e) = rw e.1 (grow (rw e.0 at h))
    go (inr e) = rw e h

pub set_from : (ps : List (List ℕ)) (r : ℕ) (v : List ℕ) (j x : ℕ) → Mem x (uses (set ps r v) j) → Mem x v ⊎ Mem x (uses ps j)
set_from ps r v j x h = go (uses_set_cases ps r v j)
  where
    go : ((j ≡ r) × (uses (set ps r v) j ≡ v)) ⊎ (uses (set ps r v) j ≡ uses ps j) → Mem x v ⊎ Mem x (uses ps j)
    go (inl e) = inl (rw e.1 at h)
    go (inr e) = inr (rw e at h)

-- ---- link

pub length_link : (n : ℕ) (rs : List ℕ) (ps : List (List ℕ)) → length (link n rs ps) ≡ length ps
unfolding link
length_link n [] ps = refl
length_link n (r ∷ rs) ps = length_link n rs (set ps r (uses ps r ++ (n ∷ []))) ∙ length-set ps r (uses ps r ++ (n ∷ []))

-- place by place
pub link_append : (i : ℕ) (rs qs : List ℕ) (ps : List (List ℕ)) → link i (rs ++ qs) ps ≡ link i qs (link i rs ps)
unfolding link
link_append i [] qs ps = refl
link_append i (r ∷ rs) qs ps = link_append i rs qs (set ps r (uses ps r ++ (i ∷ [])))

pub link_keeps : (n : ℕ) (rs : List ℕ) (ps : List (List ℕ)) (j x : ℕ) → Mem x (uses ps j) → Mem x (uses (link n rs ps) j)
unfolding link
link_keeps n [] ps j x h = h
link_keeps n (r ∷ rs) ps j x h = link_keeps n rs (set ps r (uses ps r ++ (n ∷ []))) j x (set_keeps ps r (uses ps r ++ (n ∷ [])) j x (λ k. mem-left (n ∷ []) k) h)

pub link_adds : (n : ℕ) (rs : List ℕ) (ps : List (List ℕ)) (j : ℕ) → Mem j rs → j < length ps → Mem n (uses (link n rs ps) j)
unfolding link
link_adds n [] ps j h lt = absurd (mem-nil h)
link_adds n (r ∷ rs) ps j h lt = go (mem-cases h) (λ k. link_adds n rs (set ps r (uses ps r ++ (n ∷ []))) j k (lib.Seq.lt-length-set ps r (uses ps r ++ (n ∷ [])) lt))
  where
    go : (j ≡ r) ⊎ Mem j rs → (Mem j rs → Mem n (uses (link n rs (set ps r (uses ps r ++ (n ∷ [])))) j)) → Mem n (uses (link n rs (set ps r (uses ps r ++ (n ∷ [])))) j)
    go (inl e) ih = link_keeps n rs (set ps r (uses ps r ++ (n ∷ []))) j n (rw e (rw (uses_set_same ps r (uses ps r ++ (n ∷ [])) (rw e at lt)) (mem-right (uses ps r) (here refl))))
    go (inr k) ih = ih k

pub link_from : (n : ℕ) (rs : List ℕ) (ps : List (List ℕ)) (j x : ℕ) → Mem x (uses (link n rs ps) j) → (x ≡ n) ⊎ ((r : ℕ) × Mem x (uses ps r))
unfolding link
link_from n [] ps j x h = inr (j, h)
link_from n (r ∷ rs) ps j x h = go (link_from n rs (set ps r (uses ps r ++ (n ∷ []))) j x h)
  where
    end : Mem x (uses ps r) ⊎ Mem x (n ∷ []) → (x ≡ n) ⊎ ((q : ℕ) × Mem x (uses ps q))
    end (inl k) = inr (r, k)
    end (inr k) = inl (mem_one k)

    mid : (q : ℕ) → Mem x (uses ps r ++ (n ∷ [])) ⊎ Mem x (uses ps q) → (x ≡ n) ⊎ ((q : ℕ) × Mem x (uses ps q))
    mid q (inl k) = end (mem-append-cases (uses ps r) k)
    mid q (inr k) = inr (q, k)

    go : (x ≡ n) ⊎ ((q : ℕ) × Mem x (uses (set ps r (uses ps r ++ (n ∷ []))) q)) → (x ≡ n) ⊎ ((q : ℕ) × Mem x (uses ps q))
    go (inl e) = inl e
    go (inr k) = mid k.0 (set_from ps r (uses ps r ++ (n ∷ [])) k.0 x k.1)

-- ---- kids after a relabelling: one of them was the loser, or all of them stay
pub kids_or : (f g : ℕ → ℕ) (l : ℕ) → ((c : ℕ) → (f c ≡ l) ⊎ (g c ≡ f c)) → (cs : List ℕ) → ((c : ℕ) × (Mem c cs × (f c ≡ l))) ⊎ (map g cs ≡ map f cs)
kids_or f g l h [] = inr refl
kids_or f g l h (c ∷ cs) = go (h c) (kids_or f g l h cs)
  where
    go : (f c ≡ l) ⊎ (g c ≡ f c) → ((d : ℕ) × (Mem d cs × (f d ≡ l))) ⊎ (map g cs ≡ map f cs) → ((d : ℕ) × (Mem d (c ∷ cs) × (f d ≡ l))) ⊎ (map g (c ∷ cs) ≡ map f (c ∷ cs))
    go (inl e) k = inl (c, (here refl, e))
    go (inr e) (inl k) = inl (k.0, (there k.1.0, k.1.1))
    go (inr e) (inr k) = inr (λ i. e i ∷ k i)

pub root_out : (rs : List ℕ) (i : ℕ) → length rs ≤ i → root rs i ≡ i
unfolding root
root_out rs i h = lib.ListN.get_or-eq_default rs i h

-- ---- the roots after a merge

module _ (rs : List ℕ) (s l : ℕ) (l_lt : l < length rs) where
  pub root_relabel : (i : ℕ) → root (map (relabel s l) rs) i ≡ relabel s l (root rs i)
  root_relabel i = root_map (relabel s l) rs i (λ le. relabel_miss s l i (λ e. out le e))
    where
      out : length rs ≤ i → i ≡ l → ⊥
      out le e = omega arith

  -- what is a root after the merge was one before
  pub root_before : root rs s ≡ s → (i : ℕ) → root (map (relabel s l) rs) i ≡ i → root rs i ≡ i
  root_before s_root i e = go (relabel_cases s l (root rs i))
    where
      go : Hit s l (root rs i) → root rs i ≡ i
      go (inl q) = let is : s ≡ i = sym q.1 ∙ (sym (root_relabel i) ∙ e) in rw is at s_root
      go (inr q) = sym q.1 ∙ (sym (root_relabel i) ∙ e)
