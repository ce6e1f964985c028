-- What `union` promises: 3 and 4 exactly when document 01 says, with no word changed; else the answer and the new graph are those of the machine, and the only number
-- left is 9, which never comes on words that hold a graph.
-- Assumes nothing.
use Rattle.egraph.specs.declared.Refusal.{Refusal}
use Rattle.std.specs.Prelude.{Err, Ok, Result, Bool, false, true, List, ◌⊎◌, ◌≡◌, refl, ◌<◌, ◌≤◌, ℕ, length}
use Rattle.broken.specs.declared.Broken.{Broken}
use Rattle.broken.specs.Words.{apart, broken}
use Rattle.std.proofs.Common.{inl, inr, ◌∙◌, ap, sym, arith}
use Rattle.steps.specs.Graph.{Graph}
use Rattle.steps.specs.Machine.{union}
use Rattle.egraph.specs.Answers.{Else, OpensKnown, SameCounts, SameLimits, Unless3, counts_stay, counts_written, flag, head_of, known_shut, limits_stay, limits_written, never, nine, no_by, number_of, ok_still, past, past_rest, scratch_of, scratch_still, spare_noted, spare_of, spare_stay, flag_says, written_back, yes_with}
use Rattle.egraph.specs.declared.Refusal.TheVariants.{BrokenWords}
use Rattle.holds.specs.Holds.{Holds, HoldsAt}
use Rattle.holds.specs.HoldsLaws.{holds_in}
use Rattle.layout.specs.Head.{HeadIs}
use Rattle.layout.specs.View.{View, hd, view}
use Rattle.layout.specs.Written.{Noted, written}
use Rattle.layout.specs.declared.Head.{Head}
use Rattle.uniting.specs.Near.{NearIds}
use Rattle.uniting.specs.Says.{UniteSays, United, answered}

pub record UnionOpen (ws : List ℕ) (i j : ℕ) (r : Result Bool Refusal) (ws' : List ℕ) : Type 0 where
  pub size : length ws' ≡ length ws
  pub rest : past ws ws' ≡ past ws ws
  pub scratch : scratch_of ws ws' ≡ scratch_of ws ws
  pub limits : SameLimits ws ws'
  pub counts : SameCounts ws ws'
  pub spare : spare_of ws' ≡ spare_of ws
  pub fair : (k : ℕ) → flag_says r ≡ no_by k → k ≡ 9
  pub sound : (g : Graph) → Holds ws g → (flag_says r ≡ yes_with (flag (union g i j).answer)) × Holds ws' (union g i j).graph

abbrev pub UnionSays : List ℕ → ℕ → ℕ → Result Bool Refusal → List ℕ → Type 0
UnionSays ws i j r ws' =
    Unless3 ws ((flag_says r ≡ no_by 3) × (ws' ≡ ws))
    (Else (((head_of ws).ids ≤ i) ⊎ ((head_of ws).ids ≤ j)) ((flag_says r ≡ no_by 4) × (ws' ≡ ws)) ((i < (head_of ws).ids) × (j < (head_of ws).ids))
    (UnionOpen ws i j r ws'))

-- an unknown id, and two known ones
pub far_or_near : (i j k : ℕ) → (k ≤ i) ⊎ (k ≤ j) → (i < k) × (j < k) → ⊥
far_or_near i j k (inl h) g = omega arith
far_or_near i j k (inr h) g = omega arith

-- where one of the two is refused, no word changes
pub union_shut : (ws : List ℕ) (i j k : ℕ) (r : Result Head Refusal) → OpensKnown ws k r → ((head_of ws).ids ≤ k → ((head_of ws).ids ≤ i) ⊎ ((head_of ws).ids ≤ j))
    → (q : Refusal) → r ≡ Err q → UnionSays ws i j (Err q) ws
union_shut ws i j k r O far q e = known_shut ws k r O (λ (x : ℕ). (no_by (number_of q) ≡ no_by x) × (ws ≡ ws)) far (far_or_near i j (head_of ws).ids) q e (refl, refl)

-- ---- how the returns of the code stand

module _ (ws : List ℕ) (h : Head) (q : HeadIs (length ws) (hd ws) h) (i j : ℕ) (ws1 : List ℕ) (u : Result United Broken) (U : UniteSays h i j ws u ws1) where
  pub union_broken : u ≡ broken → UnionOpen ws i j (Err BrokenWords) ws1
  union_broken e = record {
    size = U.inside.size;
    rest = past_rest ws h q ws1 U.inside.rest;
    scratch = scratch_still ws h q ws1 U.inside.scratch;
    limits = limits_stay ws ws1 U.inside.head;
    counts = counts_stay ws ws1 U.inside.head;
    spare = spare_stay ws ws1 U.inside.head;
    fair = nine;
    sound = λ g H. let s = U.sound g h.places (holds_in ws h g q H) in apart e s.1;
  }

  -- the head written back
  module _ (b : Bool) (k : Head) (e : u ≡ Ok (answered b k)) (ws2 : List ℕ) (N : Noted ws1 ws2 (written (hd ws1) k)) where
    N2 : NearIds (length ws) h k
    N2 = U.range (answered b k) e

    size2 : length ws2 ≡ length ws
    size2 = N.size ∙ U.inside.size

    rest2 : past ws ws2 ≡ past ws ws
    rest2 = past_rest ws h q ws2 (ap (λ (v : View). v.rest) (N.else h.n h.m) ∙ U.inside.rest)

    scratch2 : scratch_of ws ws2 ≡ scratch_of ws ws
    scratch2 = scratch_still ws h q ws2 (ap (λ (v : View). v.scratch) (N.else h.n h.m) ∙ U.inside.scratch)

    held : (g : Graph) → HoldsAt k h.places (view h.n h.m ws1) g → Holds ws2 g
    held g H = written_back ws ws1 ws2 h k U.inside.size N2 N g H

    pub union_done : UnionOpen ws i j (Ok b) ws2
    union_done = record {
      size = size2;
      rest = rest2;
      scratch = scratch2;
      limits = limits_written ws ws1 ws2 h k q N2.near (ok_still N2.near U.inside.size) N;
      counts = counts_written ws ws1 ws2 h k q N2 N;
      spare = spare_noted ws ws1 ws2 k U.inside.head N;
      fair = λ x p. absurd (told_nothing b x p);
      sound = λ g H.
          let s = U.sound g h.places (holds_in ws h g q H) in
          let t = s.1 in
          let same : answered b k ≡ answered (union g i j).answer s.0 = cc in
          let d : s.0 ≡ k = ap (λ (y : United). y.head) (sym same) in
          (ap (λ (y : United). yes_with (flag y.joined)) same, held (union g i j).graph (rw d at s.2));
    }
      where
        told_nothing : (b : Bool) (x : ℕ) → yes_with (flag b) ≡ no_by x → ⊥
        told_nothing true x p = never x 1 p
        told_nothing false x p = never x 0 p
