-- A merge of two classes, and so a union, keeps the invariant.
-- Assumes nothing.
use Rattle.std.specs.Prelude.{List, [], ◌++◌, map, reverse, ◌≢◌, ◌⊎◌, ◌≡◌, ◌<◌, ℕ, length, set}
use Rattle.std.proofs.Common.{inl, inr, ◌∙◌, ap, sym, length-set, arith}
use Rattle.std.proofs.Math.Decide.{dec_lt, ℕ_discrete}
use Rattle.std.proofs.lemmas.List.{length-map}
use Rattle.lists.specs.Members.{Mem, mem-append-cases, mem-left, mem-nil, mem_reverse, mem-right, mem_unreverse}
use Rattle.lists.specs.Relabel.{Hit, relabel, relabel_cases, relabel_hit, relabel_miss}
use Rattle.steps.specs.Forced.{Forced, back, then}
use Rattle.steps.specs.Graph.{Graph, ids, kept, node, root, uses}
use Rattle.steps.specs.Machine.{merge, union, union_by}
use Rattle.closure.specs.Facts.{kids_or, root_relabel, set_from, set_keeps, uses_set_other, uses_set_same}
use Rattle.closure.specs.Invariant.{Good, Owed, Same, Settled, Shape, Sound, Whole, wider}
use Rattle.language.specs.Term.{Term}

-- ---- a merge

abbrev relabelled : ℕ → ℕ → List ℕ → List ℕ
relabelled s l rs = map (relabel s l) rs

abbrev hung : ℕ → ℕ → List (List ℕ) → List (List ℕ)
hung s l ps = set (set ps s (uses ps s ++ uses ps l)) l []

module _ (ns : List Term) (rs : List ℕ) (ps : List (List ℕ)) (pend : List ℕ) (s l : ℕ) (S : Shape ns rs ps pend)
    (apart : s ≢ l) (s_lt : s < length ns) (l_lt : l < length ns) (s_root : root rs s ≡ s) where
  new_root : (i : ℕ) → root (relabelled s l rs) i ≡ relabel s l (root rs i)
  new_root i = root_relabel rs s l (omega (arith, S.rl)) i

  new_root_root : (i : ℕ) → root (relabelled s l rs) (root (relabelled s l rs) i) ≡ root (relabelled s l rs) i
  new_root_root i = go (relabel_cases s l (root rs i))
    where
      go : Hit s l (root rs i)
          → root (relabelled s l rs) (root (relabelled s l rs) i) ≡ root (relabelled s l rs) i
      go (inl e) = cc (new_root i, new_root s, e.1, s_root, relabel_miss s l s apart)
      go (inr e) = cc (new_root i, new_root (root rs i), e.1, S.root_root i)

  new_root_lt : (i : ℕ) → i < length ns → root (relabelled s l rs) i < length ns
  new_root_lt i h = rw (new_root i) (go (relabel_cases s l (root rs i)))
    where
      go : Hit s l (root rs i) → relabel s l (root rs i) < length ns
      go (inl e) = rw e.1 s_lt
      go (inr e) = rw e.1 (S.root_lt i h)

  new_pend_lt : (i : ℕ) → Mem i (reverse (uses ps l) ++ pend) → i < length ns
  new_pend_lt i h = go (mem-append-cases (reverse (uses ps l)) h)
    where
      go : Mem i (reverse (uses ps l)) ⊎ Mem i pend → i < length ns
      go (inl k) = S.uses_lt l i (mem_unreverse (uses ps l) k)
      go (inr k) = S.pend_lt i k

  new_uses_lt : (r x : ℕ) → Mem x (uses (hung s l ps) r) → x < length ns
  new_uses_lt r x h = go (set_from (set ps s (uses ps s ++ uses ps l)) l [] r x h)
    where
      of : Mem x (uses ps s) ⊎ Mem x (uses ps l) → x < length ns
      of (inl k) = S.uses_lt s x k
      of (inr k) = S.uses_lt l x k

      in_set : Mem x (uses ps s ++ uses ps l) ⊎ Mem x (uses ps r) → x < length ns
      in_set (inl k) = of (mem-append-cases (uses ps s) k)
      in_set (inr k) = S.uses_lt r x k

      go : Mem x [] ⊎ Mem x (uses (set ps s (uses ps s ++ uses ps l)) r) → x < length ns
      go (inl k) = absurd (mem-nil k)
      go (inr k) = in_set (set_from ps s (uses ps s ++ uses ps l) r x k)

  new_linked : (i c : ℕ) → i < length ns → Mem c (node ns i).kids → Mem i (uses (hung s l ps) (root (relabelled s l rs) c))
  new_linked i c h k = rw (new_root c) (go (relabel_cases s l (root rs c)))
    where
      L : Mem i (uses ps (root rs c))
      L = S.linked i c h k

      at_s : uses (hung s l ps) s ≡ uses ps s ++ uses ps l
      at_s = uses_set_other (set ps s (uses ps s ++ uses ps l)) l [] s apart ∙ uses_set_same ps s (uses ps s ++ uses ps l) (omega (arith, S.pl))

      go : Hit s l (root rs c) → Mem i (uses (hung s l ps) (relabel s l (root rs c)))
      go (inl e) = rw (e.1, at_s) (mem-right (uses ps s) (rw e.0 at L))
      go (inr e) = rw (e.1, uses_set_other (set ps s (uses ps s ++ uses ps l)) l [] (root rs c) e.0) (set_keeps ps s (uses ps s ++ uses ps l) (root rs c) i (λ m. mem-left (uses ps l) m) L)

  merge_shape : Shape ns (relabelled s l rs) (hung s l ps) (reverse (uses ps l) ++ pend)
  merge_shape = record {
    rl = length-map rs (relabel s l) ∙ S.rl;
    pl = length-set (set ps s (uses ps s ++ uses ps l)) l [] ∙ (length-set ps s (uses ps s ++ uses ps l) ∙ S.pl);
    root_lt = new_root_lt;
    root_root = new_root_root;
    kids_lt = S.kids_lt;
    pend_lt = new_pend_lt;
    uses_lt = new_uses_lt;
    linked = new_linked;
  }

  merge_sound : (us : List (ℕ × ℕ)) (memo : List (Term × ℕ)) → Forced ns us l s → Sound us ns rs memo → Sound us ns (relabelled s l rs) memo
  merge_sound us memo f O = record { memo_lt = O.memo_lt; keys = O.keys; to_root = λ i. rw (new_root i) (go i (relabel_cases s l (root rs i))) }
    where
      go : (i : ℕ) → Hit s l (root rs i) → Forced ns us i (relabel s l (root rs i))
      go i (inl e) = rw e.1 (then (rw e.0 at (O.to_root i)) f)
      go i (inr e) = rw e.1 (O.to_root i)

  merge_whole : (N : ℕ → ℕ → Type 0) (us : List (ℕ × ℕ)) (memo : List (Term × ℕ)) → ((x y : ℕ) → N x y → relabel s l x ≡ relabel s l y)
      → Whole N us ns rs memo pend → Whole Same us ns (relabelled s l rs) memo (reverse (uses ps l) ++ pend)
  merge_whole N us memo hit W = record { asks = λ i j m. joins i j (W.asks i j m); covered = λ j h. cover j h (W.covered j h) }
    where
      joins : (i j : ℕ) → N (root rs i) (root rs j) → root (relabelled s l rs) i ≡ root (relabelled s l rs) j
      joins i j n = new_root i ∙ (hit (root rs i) (root rs j) n ∙ sym (new_root j))

      stays : (c : ℕ) → Hit s l (root rs c) → (root rs c ≡ l) ⊎ (root (relabelled s l rs) c ≡ root rs c)
      stays c (inl e) = inl e.0
      stays c (inr e) = inr (new_root c ∙ e.1)

      old : (j : ℕ) → j < length ns → Settled N ns rs memo j
          → ((c : ℕ) × (Mem c (node ns j).kids × (root rs c ≡ l))) ⊎ (map (root (relabelled s l rs)) (node ns j).kids ≡ map (root rs) (node ns j).kids)
          → Mem j (reverse (uses ps l) ++ pend) ⊎ Settled Same ns (relabelled s l rs) memo j
      old j h t (inl k) = inl (mem-left pend (mem_reverse (uses ps l) (rw k.1.1 at (S.linked j k.0 h k.1.0))))
      old j h t (inr e) = inr (t.0, ap (λ ks. kept (record { op = (node ns j).op; payload = (node ns j).payload; kids = ks }) memo) e ∙ t.1, joins j t.0 t.2)

      cover : (j : ℕ) → j < length ns → Mem j pend ⊎ Settled N ns rs memo j → Mem j (reverse (uses ps l) ++ pend) ⊎ Settled Same ns (relabelled s l rs) memo j
      cover j h (inl k) = inl (mem-right (reverse (uses ps l)) k)
      cover j h (inr t) = old j h t (kids_or (root rs) (root (relabelled s l rs)) l (λ c. stays c (relabel_cases s l (root rs c))) (node ns j).kids)

-- ---- union

merge_good : (N : ℕ → ℕ → Type 0) (us : List (ℕ × ℕ)) (g : Graph) (s l : ℕ) → s ≢ l → s < ids g → l < ids g → root g.roots s ≡ s
    → Forced g.nodes us l s → ((x y : ℕ) → N x y → relabel s l x ≡ relabel s l y) → Good N us g → Good Same us (merge g s l)
unfolding merge
merge_good N us g s l apart s_lt l_lt s_root f hit G = record {
  shape = merge_shape g.nodes g.roots g.parents g.pending s l G.shape apart s_lt l_lt s_root;
  sound = merge_sound g.nodes g.roots g.parents g.pending s l G.shape apart s_lt l_lt s_root us g.memo f G.sound;
  whole = merge_whole g.nodes g.roots g.parents g.pending s l G.shape apart s_lt l_lt s_root N us g.memo hit G.whole;
}

owed_same : (a b x y : ℕ) → a ≡ b → Owed a b x y → x ≡ y
owed_same a b x y e (inl h) = h
owed_same a b x y e (inr h) = cc

owed_first : (a b x y : ℕ) → a ≢ b → Owed a b x y → relabel a b x ≡ relabel a b y
owed_first a b x y n (inl h) = ap (relabel a b) h
owed_first a b x y n (inr h) = cc (h.0, h.1, relabel_miss a b a n, relabel_hit a b)

owed_second : (a b x y : ℕ) → b ≢ a → Owed a b x y → relabel b a x ≡ relabel b a y
owed_second a b x y n (inl h) = ap (relabel b a) h
owed_second a b x y n (inr h) = cc (h.0, h.1, relabel_miss b a b n, relabel_hit b a)

union_by_good : (us : List (ℕ × ℕ)) (g : Graph) (a b : ℕ) → a < ids g → b < ids g → root g.roots a ≡ a → root g.roots b ≡ b
    → Forced g.nodes us a b → Good (Owed a b) us g
    → (d : Dec (a ≡ b)) (e : Dec (length (uses g.parents a) < length (uses g.parents b))) → Good Same us (union_by g a b d e).graph
unfolding union_by
union_by_good us g a b a_lt b_lt a_root b_root f G (yes q) e =
    let W : Good Same us g = wider (Owed a b) Same us g (λ x y. owed_same a b x y q) G in record { shape = W.shape; sound = W.sound; whole = W.whole }
union_by_good us g a b a_lt b_lt a_root b_root f G (no n) (no m) = merge_good (Owed a b) us g a b n a_lt b_lt a_root (back f) (λ x y. owed_first a b x y n) G
union_by_good us g a b a_lt b_lt a_root b_root f G (no n) (yes m) = merge_good (Owed a b) us g b a (λ e. n (sym e)) b_lt a_lt b_root f (λ x y. owed_second a b x y (λ e. n (sym e))) G

pub union_good : (us : List (ℕ × ℕ)) (g : Graph) (i j : ℕ) → i < ids g → j < ids g → Forced g.nodes us i j
    → Good (Owed (root g.roots i) (root g.roots j)) us g → Good Same us (union g i j).graph
unfolding union
union_good us g i j i_lt j_lt f G = union_by_good us g (root g.roots i) (root g.roots j) (S.root_lt i i_lt) (S.root_lt j j_lt) (S.root_root i) (S.root_root j)
    (then (back (G.sound.to_root i)) (then f (G.sound.to_root j))) G
    (ℕ_discrete (root g.roots i) (root g.roots j))
    (dec_lt (length (uses g.parents (root g.roots i))) (length (uses g.parents (root g.roots j))))
  where
    S : Shape g.nodes g.roots g.parents g.pending
    S = G.shape
