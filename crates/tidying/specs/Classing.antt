-- The ways out of `tidy_class`: a list that has nothing to sort, one that is too long, broken links, words that are no ids, and a list copied, sorted, given up and filled anew.
-- Assumes nothing.
use Rattle.std.specs.Prelude.{Ok, Result, List, ◌++◌, ◌≡◌, refl, ◌+◌, ◌<◌, ◌≤◌, ℕ, length, take}
use Rattle.broken.specs.declared.Broken.{Broken}
use Rattle.broken.specs.Words.{apart, broken}
use Rattle.std.proofs.Common.{ap, subst, sym, arith}
use Rattle.lists.specs.Tests.{zero_one}
use Rattle.steps.specs.Graph.{Graph}
use Rattle.cells.specs.Empty.{Emptied}
use Rattle.cells.specs.Pool.{empty_l, row}
use Rattle.holds.specs.Holds.{HoldsAt, UpToDate}
use Rattle.holds.specs.Inside.{Inside, inside_lent, inside_same, inside_then}
use Rattle.layout.specs.Both.{LentBoth, both_next}
use Rattle.layout.specs.Cut.{members, need, sorting}
use Rattle.layout.specs.Head.{HeadOk}
use Rattle.layout.specs.Lent.{Lent, Next, lent_next}
use Rattle.layout.specs.View.{View, put, view}
use Rattle.layout.proofs.Sizes.{get_length}
use Rattle.layout.specs.declared.Head.{Head}
use Rattle.sorting.specs.Promise.{Sorts}
use Rattle.tidying.specs.Class.{class_few, class_length, class_short, class_sorts, class_tidied, left_fresh}
use Rattle.tidying.specs.Copy.{Copies}
use Rattle.tidying.specs.Refill.{Refills}
use Rattle.tidying.specs.Says.{ClassTidied, TidiesClass}
use Rattle.lists.specs.Reads.{Word}

module _ (h : Head) (a : ℕ) (ws : List ℕ) (ok : HeadOk (length ws) h) (ha : a < h.n) (k : ℕ) (W : Word (view h.n h.m ws).members (a + h.n + h.n) k) where
  pub class_long : h.n < k → TidiesClass h a ws broken ws
  class_long e = record { inside = inside_same h.n h.m ws; sound = λ g u H now. absurd (omega (arith, class_few H a ha k W.exact)) }

  pub class_idle : k < 2 → TidiesClass h a ws (Ok tt) ws
  class_idle e = record {
    inside = inside_same h.n h.m ws;
    sound = λ g u H now. (refl, class_short H a ha (omega (arith, class_length H a ha k W.exact)));
  }

  module _ (ws1 : List ℕ) (r1 : Result Unit Broken) (C : Lent sorting h.n h.m (Copies (view h.n h.m ws).members h.n a k r1) ws ws1) where
    inside1 : Inside h.n h.m ws ws1
    inside1 = inside_lent (λ v l. refl) C

    pub class_lost : r1 ≡ broken → TidiesClass h a ws broken ws1
    class_lost e = record {
      inside = inside1;
      sound = λ g u H now. apart e (C.did.law H.members.lists H.members.pool (class_length H a ha k W.exact)).0;
    }

    module _ (ws2 : List ℕ) (r2 : Result ℕ Broken) (S : LentBoth h.n h.m (λ w w'. Sorts w w' h.n h.m k r2) ws1 ws2) where
      inside2 : Inside h.n h.m ws ws2
      inside2 = inside_then inside1 (inside_lent (λ v l. refl) S.lent)

      -- the two lends, over the first view
      next1 : Next sorting h.n h.m (Copies (view h.n h.m ws).members h.n a k r1) (view h.n h.m ws) ws1
      next1 = lent_next C refl

      next2 : Next sorting h.n h.m (λ s s'. Sorts ((view h.n h.m ws).rows ++ s) ((view h.n h.m ws).rows ++ s') h.n h.m k r2)
          (put sorting (view h.n h.m ws) next1.new) ws2
      next2 = both_next S next1.is

      copied : (g : Graph) (u : ℕ) (H : HoldsAt h u (view h.n h.m ws) g) → take k next1.new ≡ row H.members.lists a
      copied g u H = (next1.did.law H.members.lists H.members.pool (class_length H a ha k W.exact)).1

      answer : (g : Graph) (u : ℕ) → HoldsAt h u (view h.n h.m ws) g → (d : ℕ) × (r2 ≡ Ok d)
      answer g u H = class_sorts H a ha k next1.new next2.new r2 (class_length H a ha k W.exact) (copied g u H) next2.did

      pub class_unsorted : r2 ≡ broken → TidiesClass h a ws broken ws2
      class_unsorted e = record {
        inside = inside2;
        sound = λ g u H now. let f = (answer g u H).1 in zero_one cc;
      }

      module _ (d : ℕ) (er : r2 ≡ Ok d) (few : k ≤ h.n) where
        -- on any words
        pub class_left : d ≤ h.n
        class_left = omega (arith, (next2.did.done d er).few)

        module _ (ws3 : List ℕ) (E : Lent members h.n h.m (λ w w'. Emptied w w' h.n a) ws2 ws3) where
          module _ (ws4 : List ℕ) (r4 : Result Unit Broken) (R : Lent members h.n h.m (Refills (view h.n h.m ws3).sorting h.n a d r4) ws3 ws4) where
            next3 : Next members h.n h.m (λ w w'. Emptied w w' h.n a) (put sorting (view h.n h.m ws) next2.new) ws3
            next3 = lent_next E next2.is

            next4 : Next members h.n h.m (Refills next2.new h.n a d r4) (put members (put sorting (view h.n h.m ws) next2.new) next3.new) ws4
            next4 = lent_next
                (subst (λ (s : List ℕ). Lent members h.n h.m (Refills s h.n a d r4) ws3 ws4) (ap (λ (v : View). v.sorting) next3.is) R)
                next3.is

            high : d ≤ length next2.new
            high =
                let e : (view h.n h.m ws2).sorting ≡ next2.new = ap (λ (v : View). v.sorting) next2.is in
                let l : need h.n h.m ≤ length ws2 = omega (arith, ok.lent, inside2.size) in
                omega (arith, class_left, ap length e, get_length sorting h.n h.m ws2 l)

            both : (g : Graph) (u : ℕ) (H : HoldsAt h u (view h.n h.m ws) g) → UpToDate H → (r4 ≡ Ok tt) × ClassTidied H a (view h.n h.m ws4)
            both g u H now =
                let l = class_length H a ha k W.exact in
                let c = copied g u H in
                let p = next3.did.law h.n H.members.lists H.members.pool in
                let f = left_fresh H a ha k next1.new next2.new r2 l c next2.did now d er high in
                let q = next4.did.law (empty_l H.members.lists a) p f in (
                  q.0,
                  subst (λ (v : View). ClassTidied H a v) (sym next4.is) (class_tidied H a ha k next1.new next2.new r2 l c next2.did now d er high next4.new q.1),
                )

            pub class_done : TidiesClass h a ws r4 ws4
            class_done = record {
              inside = inside_then inside2 (inside_then (inside_lent (λ v l. refl) E) (inside_lent (λ v l. refl) R));
              sound = both;
            }
