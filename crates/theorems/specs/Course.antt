-- Call by call: `setup` makes words that hold the fresh graph, and each call takes words that hold a made graph to words that hold a made graph; so demand 3 speaks of the
-- words: what `find` answers. Whole runs of calls are the subject of Reached and Behind.
-- Assumes nothing.
use Rattle.egraph.specs.declared.Refusal.{Refusal}
use Rattle.language.specs.declared.Id.{Id}
use Rattle.std.specs.Prelude.{Bool, Result, true, List, [], ◌++◌, ◌∷◌, ◌↔◌, ◌⊎◌, ◌≡◌, ◌<◌, ◌≤◌, suc, ℕ, length, Option, None, Some}
use Rattle.std.proofs.Common.{inl, inr, ◌∙◌, ap, subst, sym, arith}
use Rattle.std.proofs.Math.Path.{refl}
use Rattle.lists.specs.Members.{Mem, mem-cases, mem-nil}
use Rattle.lists.specs.Reads.{at}
use Rattle.language.specs.Struct.{node_of}
use Rattle.language.specs.Term.{places, Known}
use Rattle.language.specs.declared.Node.{Node}
use Rattle.steps.specs.Forced.{Forced, Made, added, joined, rebuilt, start}
use Rattle.steps.specs.Graph.{Graph, ids, root}
use Rattle.steps.specs.Machine.{Given, Rebuild, add, add_uncanonical, fresh, union}
use Rattle.closure.specs.Closed.{again, demand_3, sound}
use Rattle.closure.specs.Ends.{ends}
use Rattle.adding.specs.Says.{Room, kept_for}
use Rattle.egraph.specs.Adds.{Adding, AddingSays, given_old}
use Rattle.egraph.specs.Answers.{Answer, SameLimits, id_says, count_says, flag, head_of, flag_says, yes_with}
use Rattle.egraph.specs.Reads.{FindSays}
use Rattle.egraph.specs.Rebuilds.{RebuildSays}
use Rattle.egraph.specs.Setup.{Limits, SetupSays}
use Rattle.egraph.specs.Unions.{UnionSays}
use Rattle.holds.specs.Holds.{Holds}
use Rattle.layout.specs.Cut.{need}

-- the place of a member
place_of : (l : List ℕ) (c : ℕ) → Mem c l → (i : ℕ) × (i < length l) × (at l i ≡ c)
place_of [] c m = absurd (mem-nil m)
place_of (x ∷ l) c m = go (mem-cases m) (place_of l c)
  where
    go : (c ≡ x) ⊎ Mem c l → (Mem c l → (i : ℕ) × (i < length l) × (at l i ≡ c)) → (i : ℕ) × (i < length (x ∷ l)) × (at (x ∷ l) i ≡ c)
    go (inl e) f = (0, omega arith, sym e)
    go (inr t) f = let p = f t in (suc p.0, omega (arith, p.1), p.2)

-- calls made the graph that the words hold, and us are the unions asked for
pub record Run (us : List (ℕ × ℕ)) (ws : List ℕ) (g : Graph) : Type 0 where
  pub made : Made us g
  pub holds : Holds ws g

pub run_setup : (ws : List ℕ) (n m : ℕ) (r : Result Unit Refusal) (ws' : List ℕ) → SetupSays ws n m r ws' → Limits n m → need n m ≤ length ws → Run [] ws' fresh
run_setup ws n m r ws' s l h = record { made = start; holds = ((s.on l).on h).held }

module _ (us : List (ℕ × ℕ)) (ws : List ℕ) (g : Graph) (C : Run us ws g) where
  pub ids_in : (head_of ws).ids ≡ ids g
  ids_in = C.holds.at_rest.ids_are

  -- two known ids: one union more was asked for
  pub run_union : (i j : ℕ) (r : Result Bool Refusal) (ws' : List ℕ) → UnionSays ws i j r ws' → i < ids g → j < ids g
      → (flag_says r ≡ yes_with (flag (union g i j).answer)) × Run (us ++ ((i, j) ∷ [])) ws' (union g i j).graph
  run_union i j r ws' s hi hj =
      let o = ((s.on C.holds.good).on (omega (arith, ids_in), omega (arith, ids_in))).sound g C.holds in
      (o.0, record { made = joined i j hi hj C.made; holds = o.1 })

  -- a node whose children are known, found or with room; `id` is what `add` or what `add_uncanonical` answers
  pub run_adding : (id : Graph → ℕ) (x : Node) (r : Result Id Refusal) (ws' : List ℕ) → AddingSays id ws x r ws' → x.count ≤ places → Known (node_of x) (ids g) → (kept_for g (node_of x) ≡ None → Room (head_of ws) (node_of x))
      → (id_says r ≡ yes_with (id g ∷ [])) × Run us ws' (add g (node_of x)).graph
  unfolding add
  run_adding id x r ws' s few low room = go (kept_for g (node_of x)) refl
    where
      low' : Known (node_of x) (head_of ws).ids
      low' i h = omega (arith, low i h, ids_in)

      A : Adding id ws (node_of x) r ws'
      A = ((s.on C.holds.good).on few).on low'

      M : Made us (add g (node_of x)).graph
      M = added {g = g} (node_of x) (λ c m. let p = place_of (node_of x).kids c m in rw (← p.2) (low p.0 p.1)) C.made

      go : (o : Option ℕ) → kept_for g (node_of x) ≡ o → (id_says r ≡ yes_with (id g ∷ [])) × Run us ws' (add g (node_of x)).graph
      go (Some i) k =
          let a = A.found g i C.holds k in
          let e : (add_uncanonical g (node_of x)).graph ≡ g = ap (λ (t : Given). t.graph) (given_old g (node_of x) i k) in
          (a.0, record { made = M; holds = rw e (rw a.1 C.holds) })
      go None k = let a = A.grown g C.holds k (room k) in (a.0, record { made = M; holds = a.1 })

  -- a rebuild: the answer is the machine's count of yes answers
  pub run_rebuild : (r : Result ℕ Refusal) (ws' : List ℕ) → RebuildSays ws r ws' → (y t : ℕ) (z : Graph) → Rebuild g y t z → (count_says r ≡ yes_with (y ∷ [])) × Run us ws' z
  run_rebuild r ws' s y t z R =
      let o = (s.on C.holds.good).sound g us C.holds C.made y t z R in
      (o.0, record { made = rebuilt R C.made; holds = o.1 })

  -- what `find` answers of a known id
  find_is : (i : ℕ) (r : Result Id Refusal) → FindSays ws i r → i < ids g → id_says r ≡ yes_with (root g.roots i ∷ [])
  find_is i r s h = ((s.on C.holds.good).on (omega (arith, ids_in))).sound g C.holds

  -- at any moment: two ids that `find` answers alike are forced equal
  pub words_sound : (i j : ℕ) (r r' : Result Id Refusal) → FindSays ws i r → FindSays ws j r' → i < ids g → j < ids g → id_says r ≡ id_says r' → Forced g.nodes us i j
  words_sound i j r r' s t hi hj e =
      let p = sym (find_is i r s hi) ∙ e ∙ find_is j r' t hj in
      sound C.made i j (first (root g.roots i) (root g.roots j) p)
    where
      first : (a b : ℕ) → ◌≡◌ {A = Answer} (yes_with (a ∷ [])) (yes_with (b ∷ [])) → a ≡ b
      first a b q = ap (λ (t : Answer). at t.values 0) q

  -- demand 3 of the words that hold a clean graph: two ids are answered alike by `find` exactly when the unions asked for force them equal
  pub words_demand_3 : g.clean ≡ true → (i j : ℕ) (r r' : Result Id Refusal) → FindSays ws i r → FindSays ws j r' → i < ids g → j < ids g → (id_says r ≡ id_says r') ↔ Forced g.nodes us i j
  words_demand_3 c i j r r' s t hi hj =
      (words_sound i j r r' s t hi hj, λ f. find_is i r s hi ∙ ap (λ (k : ℕ). yes_with (k ∷ [])) ((demand_3 C.made c i j).1 f) ∙ sym (find_is j r' t hj))

  -- another rebuild of them answers 0, and the words hold the same graph under the same limits, so that no answer is altered
  pub words_again : g.clean ≡ true → (r : Result ℕ Refusal) (ws' : List ℕ) → RebuildSays ws r ws' → (count_says r ≡ yes_with (0 ∷ [])) × Run us ws' g × SameLimits ws ws'
  words_again c r ws' s =
      let E = ends C.made in
      let a = again C.made c E.3 in
      let o = run_rebuild r ws' s E.0 E.1 E.2 E.3 in
      (o.0 ∙ ap (λ (k : ℕ). yes_with (k ∷ [])) a.0, subst (λ (z : Graph). Run us ws' z) a.2 o.1, (s.on C.holds.good).limits)
