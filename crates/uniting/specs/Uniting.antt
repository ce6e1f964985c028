-- The ways out of `unite`: a union, put together from its steps.
-- Assumes nothing.
use Rattle.std.specs.Prelude.{Ok, Result, Bool, false, true, List, ◌≢◌, ◌≡◌, refl, ◌<◌, ℕ, length}
use Rattle.broken.specs.declared.Broken.{Broken}
use Rattle.broken.specs.Words.{apart, broken, err≢ok}
use Rattle.std.proofs.Common.{◌∙◌, ap, subst, sym, arith}
use Rattle.std.proofs.Math.Decide.{dec_lt, ℕ_discrete}
use Rattle.lists.specs.Tests.{zero_one}
use Rattle.steps.specs.Graph.{Graph, root, uses}
use Rattle.steps.specs.Machine.{Joined, marked, union, union_by}
use Rattle.holds.specs.Holds.{HoldsAt}
use Rattle.holds.specs.HoldsLaws.{holds_forest, holds_unclean, marked_head}
use Rattle.holds.specs.Inside.{Inside, inside_lent, inside_then}
use Rattle.layout.specs.Cut.{forest}
use Rattle.layout.specs.Head.{HeadOk}
use Rattle.layout.specs.Lent.{Lent, lent_next}
use Rattle.layout.specs.View.{View, view}
use Rattle.layout.specs.declared.Head.{Head}
use Rattle.unionfind.specs.Forest.{root_root}
use Rattle.unionfind.specs.Promise.{FindsMut}
use Rattle.uniting.specs.Near.{NearIds}
use Rattle.uniting.specs.Says.{answered, JoinSays, UniteSays, United, told}

-- ---- the machine's union, by its two tests

union_same : (g : Graph) (i j : ℕ) → root g.roots i ≡ root g.roots j → union g i j ≡ record { graph = marked g false; answer = false }
unfolding union union_by
union_same g i j e = go (ℕ_discrete (root g.roots i) (root g.roots j)) (dec_lt (length (uses g.parents (root g.roots i))) (length (uses g.parents (root g.roots j))))
  where
    go : (d : Dec (root g.roots i ≡ root g.roots j)) (s : Dec (length (uses g.parents (root g.roots i)) < length (uses g.parents (root g.roots j))))
        → union_by g (root g.roots i) (root g.roots j) d s ≡ record { graph = marked g false; answer = false }
    go (yes q) s = refl
    go (no q) s = absurd (q e)

-- what holds of the union of two roots that differ, holds of the union
union_apart : (P : Joined → Type 0) (g : Graph) (i j : ℕ) → root g.roots i ≢ root g.roots j
    → ((n : root g.roots i ≢ root g.roots j) (s : Dec (length (uses g.parents (root g.roots i)) < length (uses g.parents (root g.roots j))))
    → P (union_by g (root g.roots i) (root g.roots j) (no n) s)) → P (union g i j)
unfolding union
union_apart P g i j ne f = go (ℕ_discrete (root g.roots i) (root g.roots j)) (dec_lt (length (uses g.parents (root g.roots i))) (length (uses g.parents (root g.roots j))))
  where
    go : (d : Dec (root g.roots i ≡ root g.roots j)) (s : Dec (length (uses g.parents (root g.roots i)) < length (uses g.parents (root g.roots j))))
        → P (union_by g (root g.roots i) (root g.roots j) d s)
    go (yes q) s = absurd (ne q)
    go (no q) s = f q s

says_yes : (g : Graph) (a b : ℕ) (n : a ≢ b) (s : Dec (length (uses g.parents a) < length (uses g.parents b))) → (union_by g a b (no n) s).answer ≡ true
unfolding union_by
says_yes g a b n (yes s) = refl
says_yes g a b n (no s) = refl

-- ---- the ids' roots

-- a root found, and the graph as it was
found : (h : Head) (i : ℕ) (ws ws1 : List ℕ) (r : Result ℕ Broken) (g : Graph) (u : ℕ) → Lent forest h.n h.m (λ f f'. FindsMut f h.ids i r f') ws ws1
    → HoldsAt h u (view h.n h.m ws) g → (r ≡ Ok (root g.roots i)) × HoldsAt h u (view h.n h.m ws1) g
unfolding root
found h i ws ws1 r g u R H =
    let a = lent_next R refl in
    let l = a.did.law h.classes g.roots H.forest in
    (l.0, subst (λ (v : View). HoldsAt h u v g) (sym a.is) (holds_forest H a.new l.1))

-- a root is its own root
root_own : (h : Head) (u : ℕ) (v : View) (g : Graph) (i : ℕ) → HoldsAt h u v g → i < h.ids → root g.roots (root g.roots i) ≡ root g.roots i
unfolding root
root_own h u v g i H l = root_root H.forest i l

-- ---- the ways out

unclean_near : (len : ℕ) (h : Head) → HeadOk len h → NearIds len h (marked_head h false)
unclean_near len h ok = record { near = record { ok = omega arith; n_is = refl; m_is = refl }; ids_is = refl; places_is = refl }

module _ (h : Head) (i j : ℕ) (ws ws1 : List ℕ) (r1 : Result ℕ Broken) (R1 : Lent forest h.n h.m (λ f f'. FindsMut f h.ids i r1 f') ws ws1) where
  pub unite_lost : r1 ≡ broken → UniteSays h i j ws broken ws1
  unite_lost e = record {
    inside = inside_lent (λ v l. refl) R1;
    range = λ s f. err≢ok f;
    sound = λ g u H. apart e (found h i ws ws1 r1 g u R1 H).0;
  }

  module _ (ws2 : List ℕ) (r2 : Result ℕ Broken) (R2 : Lent forest h.n h.m (λ f f'. FindsMut f h.ids j r2 f') ws1 ws2) where
    inside2 : Inside h.n h.m ws ws2
    inside2 = inside_then (inside_lent (λ v l. refl) R1) (inside_lent (λ v l. refl) R2)

    held : (g : Graph) (u : ℕ) → HoldsAt h u (view h.n h.m ws) g → HoldsAt h u (view h.n h.m ws2) g
    held g u H = (found h j ws1 ws2 r2 g u R2 (found h i ws ws1 r1 g u R1 H).1).1

    second : (g : Graph) (u : ℕ) → HoldsAt h u (view h.n h.m ws) g → r2 ≡ Ok (root g.roots j)
    second g u H = (found h j ws1 ws2 r2 g u R2 (found h i ws ws1 r1 g u R1 H).1).0

    pub unite_lost_2 : r2 ≡ broken → UniteSays h i j ws broken ws2
    unite_lost_2 e = record {
      inside = inside2;
      range = λ s f. err≢ok f;
      sound = λ g u H. apart e (second g u H);
    }

    module _ (x y : ℕ) (ex : r1 ≡ Ok x) (ey : r2 ≡ Ok y) where
      x_is : (g : Graph) (u : ℕ) → HoldsAt h u (view h.n h.m ws) g → x ≡ root g.roots i
      x_is g u H = let e = (found h i ws ws1 r1 g u R1 H).0 in cc

      y_is : (g : Graph) (u : ℕ) → HoldsAt h u (view h.n h.m ws) g → y ≡ root g.roots j
      y_is g u H = let e = second g u H in cc

      -- one class already
      pub unite_same : HeadOk (length ws) h → x ≡ y → UniteSays h i j ws (Ok (answered false (marked_head h false))) ws2
      unite_same ok e = record {
        inside = inside2;
        range = λ s f. let z : answered false (marked_head h false) ≡ s = cc in subst (λ (t : United). NearIds (length ws) h t.head) z (unclean_near (length ws) h ok);
        sound = λ g u H.
            let s = union_same g i j (sym (x_is g u H) ∙ e ∙ y_is g u H) in
            subst (λ (t : Joined). (k : Head) × (Ok (answered false (marked_head h false)) ≡ told t.answer k) × HoldsAt k u (view h.n h.m ws2) t.graph) (sym s)
            (marked_head h false, refl, holds_unclean (held g u H));
      }

      module _ (ws3 : List ℕ) (r3 : Result Head Broken) (J : JoinSays h x y ws2 r3 ws3) (hi : i < h.ids) (hj : j < h.ids) (ne : x ≢ y) where
        inside4 : Inside h.n h.m ws ws3
        inside4 = inside_then inside2 J.inside

        -- the two roots are joined
        both : (g : Graph) (u : ℕ) → HoldsAt h u (view h.n h.m ws) g → (k : Head) × (r3 ≡ Ok k) × (told (union g i j).answer k ≡ Ok (record { head = k; joined = true }))
            × HoldsAt k u (view h.n h.m ws3) (union g i j).graph
        both g u H =
            let ei = x_is g u H in
            let ej = y_is g u H in
            let J' = rw (ei, ej) at J in
            union_apart (λ t. (k : Head) × (r3 ≡ Ok k) × (told t.answer k ≡ Ok (record { head = k; joined = true })) × HoldsAt k u (view h.n h.m ws3) t.graph) g i j (rw (ei, ej) at ne)
            (λ n s. let a = J'.sound g u (held g u H) (root_own _ _ _ g i H hi) (root_own _ _ _ g j H hj) n s in
            (a.0, a.1, ap (λ (b : Bool). told b a.0) (says_yes g (root g.roots i) (root g.roots j) n s), a.2))

        pub unite_broken : r3 ≡ broken → UniteSays h i j ws broken ws3
        unite_broken e = record {
          inside = inside4;
          range = λ s f. err≢ok f;
          sound = λ g u H. let b = both g u H in let f = b.1 in zero_one cc;
        }

        pub unite_yes : (k : Head) → r3 ≡ Ok k → UniteSays h i j ws (Ok (answered true k)) ws3
        unite_yes k e = record {
          inside = inside4;
          range = λ s f.
              let z : answered true k ≡ s = cc in
              subst (λ (t : United). NearIds (length ws) h t.head) z (subst (λ (n : ℕ). NearIds n h k) inside2.size (J.range k e));
          sound = λ g u H. let b = both g u H in let f = b.1 in let z : b.0 ≡ k = cc in (b.0, ap (λ (t : Head). Ok (answered true t)) (sym z) ∙ sym b.2, b.3);
        }
