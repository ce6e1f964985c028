-- What `rebuild` promises: 3 exactly when document 01 says, with no word changed; else the only number left is 9, which never comes on words that hold a made graph:
-- there the answer is the machine's count of yes answers, and the words hold the graph that the machine's `Rebuild` leaves.
-- Assumes nothing.
use Rattle.egraph.specs.declared.Refusal.{Refusal}
use Rattle.std.specs.Prelude.{Err, Ok, Result, Bool, false, true, List, [], ◌∷◌, ◌⊎◌, ◌≡◌, refl, ℕ, length}
use Rattle.broken.specs.declared.Broken.{Broken}
use Rattle.broken.specs.Words.{broken}
use Rattle.std.proofs.Common.{inl, inr, ◌∙◌, ap, subst, sym}
use Rattle.lists.specs.Tests.{zero_one}
use Rattle.steps.specs.Forced.{Made}
use Rattle.steps.specs.Graph.{Graph}
use Rattle.steps.specs.Machine.{Rebuild}
use Rattle.closure.specs.Closed.{clean_empty, one_outcome}
use Rattle.closure.specs.Kept.{made_good}
use Rattle.closure.specs.Slots.{made_keyed}
use Rattle.egraph.specs.Answers.{SameCounts, SameLimits, Unless3, count_says, counts_stay, counts_written, limits_stay, limits_written, never, nine, no_by, ok_still, past, past_rest, scratch_of, scratch_still, spare_noted, spare_of, spare_stay, written_back, yes_with}
use Rattle.egraph.specs.declared.Refusal.TheVariants.{BrokenWords}
use Rattle.holds.specs.Holds.{Holds, HoldsAt}
use Rattle.holds.specs.HoldsLaws.{holds_in}
use Rattle.layout.specs.Head.{HeadIs}
use Rattle.layout.specs.View.{View, hd, view}
use Rattle.layout.specs.Written.{Noted, written}
use Rattle.layout.specs.declared.Head.{Head}
use Rattle.rebuilding.specs.Rebuilding
use Rattle.rebuilding.specs.Rebuilding.{Rebuilt}
use Rattle.taking.specs.Drain.{DrainedTo, Startable}
use Rattle.uniting.specs.Near.{NearIds}

-- z is what a rebuild of g leaves, with y yes answers and t entries taken: there is one such outcome (`ends` and `one_outcome` of closure)
pub record RebuildOpen (ws : List ℕ) (r : Result ℕ Refusal) (ws' : List ℕ) : Type 0 where
  pub size : length ws' ≡ length ws
  pub rest : past ws ws' ≡ past ws ws
  pub scratch : scratch_of ws ws' ≡ scratch_of ws ws
  pub limits : SameLimits ws ws'
  pub counts : SameCounts ws ws'
  pub spare : spare_of ws' ≡ spare_of ws
  pub fair : (k : ℕ) → count_says r ≡ no_by k → k ≡ 9
  pub sound : (g : Graph) (us : List (ℕ × ℕ)) → Holds ws g → Made us g → (y t : ℕ) (z : Graph) → Rebuild g y t z → (count_says r ≡ yes_with (y ∷ [])) × Holds ws' z

abbrev pub RebuildSays : List ℕ → Result ℕ Refusal → List ℕ → Type 0
RebuildSays ws r ws' = Unless3 ws ((count_says r ≡ no_by 3) × (ws' ≡ ws)) (RebuildOpen ws r ws')

-- a rebuild may start from every made graph: where it is clean, nothing is pending
startable : {us : List (ℕ × ℕ)} {g : Graph} → Made us g → Startable us g
startable {us} {g} M = record { good = made_good M; keyed = made_keyed M; soft = go g.clean refl }
  where
    go : (b : Bool) → g.clean ≡ b → (g.clean ≡ false) ⊎ (g.pending ≡ [])
    go true e = inr (clean_empty M e)
    go false e = inl e

-- ---- how the returns of the code stand

module _ (ws : List ℕ) (h : Head) (q : HeadIs (length ws) (hd ws) h) (ws1 : List ℕ) (d : Result DrainedTo Broken) (R : Rebuilding.RebuildSays h ws d ws1) where
  told : (g : Graph) (us : List (ℕ × ℕ)) → Holds ws g → Made us g → Rebuilt h.places g (view h.n h.m ws1) d
  told g us H M = R.sound g h.places us (holds_in ws h g q H) (startable M)

  pub rebuild_broken : d ≡ broken → RebuildOpen ws (Err BrokenWords) ws1
  rebuild_broken e = record {
    size = R.inside.size;
    rest = past_rest ws h q ws1 R.inside.rest;
    scratch = scratch_still ws h q ws1 R.inside.scratch;
    limits = limits_stay ws ws1 R.inside.head;
    counts = counts_stay ws ws1 R.inside.head;
    spare = spare_stay ws ws1 R.inside.head;
    fair = nine;
    sound = λ g us H M y t z B. let b = (told g us H M).answer in zero_one cc;
  }

  -- the head written back
  module _ (a : DrainedTo) (e : d ≡ Ok a) where
    abbrev k : Head
    k = a.head

    near : NearIds (length ws) h a.head
    near = R.range a e

    pub rebuild_done : (ws2 : List ℕ) → Noted ws1 ws2 (written (hd ws1) a.head) → RebuildOpen ws (Ok a.yes) ws2
    rebuild_done ws2 N = record {
      size = N.size ∙ R.inside.size;
      rest = past_rest ws h q ws2 (ap (λ (v : View). v.rest) (N.else h.n h.m) ∙ R.inside.rest);
      scratch = scratch_still ws h q ws2 (ap (λ (v : View). v.scratch) (N.else h.n h.m) ∙ R.inside.scratch);
      limits = limits_written ws ws1 ws2 h k q near.near (ok_still near.near R.inside.size) N;
      counts = counts_written ws ws1 ws2 h k q near N;
      spare = spare_noted ws ws1 ws2 k R.inside.head N;
      fair = λ x p. absurd (never x a.yes p);
      sound = λ g us H M y t z B.
          let b = told g us H M in
          let p = sym e ∙ b.answer in
          let same : ◌≡◌ {A = DrainedTo} a (record { head = b.head; yes = b.yeses; taken = b.entries }) = cc in
          let ek : b.head ≡ k = ap (λ (x : DrainedTo). x.head) (sym same) in
          let ey : a.yes ≡ b.yeses = ap (λ (x : DrainedTo). x.yes) same in
          let o = one_outcome b.rebuild B in
          let K = subst (λ (s : Head). HoldsAt s h.places (view h.n h.m ws1) b.graph) ek b.holds in
          (ap (λ (x : ℕ). yes_with (x ∷ [])) (ey ∙ o.0), written_back ws ws1 ws2 h k R.inside.size near N z (subst (λ (x : Graph). HoldsAt k h.places (view h.n h.m ws1) x) o.2 K));
    }
