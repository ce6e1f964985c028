-- The ways out of `merge`: no room, a part that is broken, and four parts lent one after the other.
-- Assumes nothing.
use Rattle.std.specs.Prelude.{Ok, Result, List, ◌≢◌, ◌≡◌, refl, ◌*◌, ◌+◌, ◌<◌, ◌≤◌, ℕ, length}
use Rattle.broken.specs.declared.Broken.{Broken}
use Rattle.broken.specs.Words.{apart, broken, err≢ok}
use Rattle.std.proofs.Common.{subst, sym, arith}
use Rattle.lists.specs.Reads.{at, Word}
use Rattle.steps.specs.Machine.{merge}
use Rattle.cells.specs.Changes.{Joined}
use Rattle.holds.specs.Holds.{HoldsAt}
use Rattle.holds.specs.Inside.{Inside, inside_lent, inside_same, inside_then}
use Rattle.layout.specs.Cut.{forest, members, pending, uses}
use Rattle.layout.specs.Head.{HeadOk}
use Rattle.layout.specs.Lent.{Lent, lent_next}
use Rattle.layout.specs.View.{View, view}
use Rattle.layout.specs.declared.Head.{Head}
use Rattle.pending.specs.Promise.{PushesStretch}
use Rattle.unionfind.specs.Promise.{Unites}
use Rattle.uniting.specs.Merge.{holds_merge, merge_room}
use Rattle.uniting.specs.Near.{NearIds}
use Rattle.uniting.specs.Says.{MergeSays, merged_numbers}

merged_near : (len : ℕ) (h : Head) (d : ℕ) → HeadOk len h → h.depth < 2 * h.n → d ≤ h.depth + 1 → NearIds len h (merged_numbers h d)
merged_near len h d ok room high = record { near = record { ok = omega arith; n_is = refl; m_is = refl }; ids_is = refl; places_is = refl }

module _ (h : Head) (stay lose : ℕ) (ws : List ℕ) (ok : HeadOk (length ws) h) (q : (stay < h.ids) × (lose < h.ids) × (stay ≢ lose)) where
  -- no room, or no class: then the words hold no graph
  pub merge_full : 2 * h.n ≤ h.depth → MergeSays h stay lose ws broken ws
  merge_full e = record {
    inside = inside_same h.n h.m ws;
    range = λ k f. err≢ok f;
    sound = λ g u H rs rl. absurd (let w = merge_room H stay lose q.0 q.1 q.2 rs rl in omega arith);
  }

  pub merge_none : h.classes ≡ 0 → MergeSays h stay lose ws broken ws
  merge_none e = record {
    inside = inside_same h.n h.m ws;
    range = λ k f. err≢ok f;
    sound = λ g u H rs rl. absurd (let w = merge_room H stay lose q.0 q.1 q.2 rs rl in omega arith);
  }

  module _ (ws1 : List ℕ) (r : Result Unit Broken) (J : Lent uses h.n h.m (λ w w'. Joined w w' h.n h.m stay lose r) ws ws1) where
    inside1 : Inside h.n h.m ws ws1
    inside1 = inside_lent (λ v l. refl) J

    -- broken parent lists
    pub merge_uses : r ≡ broken → MergeSays h stay lose ws broken ws1
    merge_uses e = record {
      inside = inside1;
      range = λ k f. err≢ok f;
      sound = λ g u H rs rl. apart e (J.did.law H.parents.lists H.parents.pool).0;
    }

    module _ (ws2 ws3 : List ℕ) (last count d : ℕ) (s : Result Unit Broken)
        (K : Lent pending h.n h.m (λ w w'. PushesStretch w h.depth last count d w') ws1 ws2)
        (M : Lent members h.n h.m (λ w w'. Joined w w' h.n h.n stay lose s) ws2 ws3) where
      inside3 : Inside h.n h.m ws ws3
      inside3 = inside_then inside1 (inside_then (inside_lent (λ v l. refl) K) (inside_lent (λ v l. refl) M))

      -- broken lists of class nodes
      pub merge_members : s ≡ broken → MergeSays h stay lose ws broken ws3
      merge_members e = record {
        inside = inside3;
        range = λ k f. err≢ok f;
        sound = λ g u H rs rl.
            let a1 = lent_next J refl in
            let a2 = lent_next K a1.is in
            let a3 = lent_next M a2.is in
            apart e (a3.did.law H.members.lists H.members.pool).0;
      }

      pub merge_done : (ws4 : List ℕ) → h.depth < 2 * h.n → Word (view h.n h.m ws).uses lose last
          → Word (view h.n h.m ws).uses (lose + h.n + h.n) count
          → Lent forest h.n h.m (λ w w'. Unites w stay lose w') ws3 ws4
          → MergeSays h stay lose ws (Ok (merged_numbers h d)) ws4
      merge_done ws4 room L C F = record {
        inside = inside_then inside3 (inside_lent (λ v l. refl) F);
        range = λ k e. let f : merged_numbers h d ≡ k = cc in subst (λ (z : Head). NearIds (length ws) h z) f (merged_near (length ws) h d ok room K.did.high);
        sound = λ g u H rs rl.
            let a1 = lent_next J refl in
            let a2 = lent_next K a1.is in
            let a3 = lent_next M a2.is in
            let a4 = lent_next F a3.is in
            let e : List ℕ = a2.new in
            let stretch = subst (λ (x : ℕ). PushesStretch (view h.n h.m ws).pending h.depth x (at (view h.n h.m ws).uses (lose + h.n + h.n)) d e) L.exact
            (subst (λ (y : ℕ). PushesStretch (view h.n h.m ws).pending h.depth last y d e) C.exact a2.did) in (
              d,
              refl,
              subst (λ (z : View). HoldsAt (merged_numbers h d) u z (merge g stay lose)) (sym a4.is)
                  (holds_merge H stay lose q.0 q.1 q.2 rs rl a1.new a2.new a3.new a4.new r s d a1.did stretch a3.did a4.did),
            );
      }
