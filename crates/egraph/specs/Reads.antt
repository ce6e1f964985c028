-- What `find`, `number_of_classes`, `is_empty` and `clean` promise. They take the words by `&` and change nothing. On any words 3, 4 and 9 come exactly when document 01
-- says, and else the answer is what stands in the words; 9 never comes on words that hold a graph.
-- Assumes nothing.
use Rattle.egraph.specs.declared.Refusal.{Refusal}
use Rattle.language.specs.declared.Id.{Id}
use Rattle.std.specs.Prelude.{Err, Ok, Result, Bool, List, [], ◌∷◌, ◌≡◌, refl, ◌<◌, ◌≤◌, ℕ, eqb, length}
use Rattle.broken.specs.declared.Broken.{Broken}
use Rattle.broken.specs.Words.{apart, broken}
use Rattle.std.proofs.Common.{◌∙◌, sym}
use Rattle.std.proofs.Math.Path.{ap}
use Rattle.steps.specs.Classes.{number_of_classes}
use Rattle.steps.specs.Graph.{Graph, ids, root}
use Rattle.egraph.specs.Answers.{Answer, Else, OpensKnown, Unless3, count_says, far_near, id_says, flag, flag_says, head_of, known_shut, never, nine, no_by, number_of, yes_with}
use Rattle.egraph.specs.declared.Refusal.TheVariants.{BrokenWords}
use Rattle.holds.specs.Holds.{Holds}
use Rattle.holds.specs.HoldsLaws.{holds_in}
use Rattle.layout.specs.Head.{HeadIs}
use Rattle.layout.specs.View.{hd, view}
use Rattle.layout.specs.declared.Head.{Head}
use Rattle.unionfind.specs.Forest.{class_count}
use Rattle.unionfind.specs.Promise.{Finds}
use Rattle.unionfind.specs.Words.{find_in}

-- ---- find

-- where the chain of links from id i ends, as the words of the forest have it; one that leads outside the ids, or does not end among them, is lost
abbrev pub chain_in : Head → List ℕ → ℕ → Result ℕ Broken
chain_in h ws i = find_in (view h.n h.m ws).forest h.ids h.ids i

-- a root, or 9
abbrev pub chain_says : Result ℕ Broken → Answer
chain_says (Ok x) = yes_with (x ∷ [])
chain_says (Err _) = no_by 9

pub record FindOpen (ws : List ℕ) (i : ℕ) (r : Result Id Refusal) : Type 0 where
  pub exact : id_says r ≡ chain_says (chain_in (head_of ws) ws i)
  pub fair : (k : ℕ) → id_says r ≡ no_by k → k ≡ 9
  pub sound : (g : Graph) → Holds ws g → id_says r ≡ yes_with (root g.roots i ∷ [])

abbrev pub FindSays : List ℕ → ℕ → Result Id Refusal → Type 0
FindSays ws i r =
    Unless3 ws (id_says r ≡ no_by 3)
    (Else ((head_of ws).ids ≤ i) (id_says r ≡ no_by 4) (i < (head_of ws).ids)
    (FindOpen ws i r))

pub find_shut : (ws : List ℕ) (i : ℕ) (r : Result Head Refusal) → OpensKnown ws i r → (q : Refusal) → r ≡ Err q → FindSays ws i (Err q)
find_shut ws i r O q e = known_shut ws i r O (λ (k : ℕ). no_by (number_of q) ≡ no_by k) (λ l. l) (far_near i (head_of ws).ids) q e refl

-- what the forest answers on words that hold a graph
pub found_root : (ws : List ℕ) (h : Head) → HeadIs (length ws) (hd ws) h → (i : ℕ) (r : Result ℕ Broken) → Finds (view h.n h.m ws).forest h.ids i r
    → (g : Graph) → Holds ws g → r ≡ Ok (root g.roots i)
unfolding root
found_root ws h q i r F g H = F.law h.classes g.roots (holds_in ws h g q H).forest

module _ (ws : List ℕ) (h : Head) (q : HeadIs (length ws) (hd ws) h) (i : ℕ) (r : Result ℕ Broken) (F : Finds (view h.n h.m ws).forest h.ids i r) (hi : i < h.ids) where
  -- and on any words
  chained : r ≡ chain_in (head_of ws) ws i
  chained = F.exact ∙ ap (λ (s : Head). chain_in s ws i) q.is

  pub find_lost : r ≡ broken → FindOpen ws i (Err BrokenWords)
  find_lost e = record { exact = ap chain_says (sym e ∙ chained); fair = nine; sound = λ g H. apart e (found_root ws h q i r F g H) }

  pub find_root : (x : ℕ) → r ≡ Ok x → FindOpen ws i (Ok (record { 0 = x }))
  find_root x e = record {
    exact = ap chain_says (sym e ∙ chained);
    fair = λ k p. absurd (never k x p);
    sound = λ g H. let s : x ≡ root g.roots i = cc (e, found_root ws h q i r F g H) in ap (λ (y : ℕ). yes_with (y ∷ [])) s;
  }

-- ---- counts and flags, which stand in the head

pub record CountOpen (ws : List ℕ) (r : Result ℕ Refusal) : Type 0 where
  pub exact : count_says r ≡ yes_with ((head_of ws).classes ∷ [])
  pub sound : (g : Graph) → Holds ws g → count_says r ≡ yes_with (number_of_classes g ∷ [])

abbrev pub CountSays : List ℕ → Result ℕ Refusal → Type 0
CountSays ws r = Unless3 ws (count_says r ≡ no_by 3) (CountOpen ws r)

pub record EmptyOpen (ws : List ℕ) (r : Result Bool Refusal) : Type 0 where
  pub exact : flag_says r ≡ yes_with (flag (eqb (head_of ws).ids 0))
  pub sound : (g : Graph) → Holds ws g → flag_says r ≡ yes_with (flag (eqb (ids g) 0))

abbrev pub EmptySays : List ℕ → Result Bool Refusal → Type 0
EmptySays ws r = Unless3 ws (flag_says r ≡ no_by 3) (EmptyOpen ws r)

pub record CleanOpen (ws : List ℕ) (r : Result Bool Refusal) : Type 0 where
  pub exact : flag_says r ≡ yes_with (flag (head_of ws).clean)
  pub sound : (g : Graph) → Holds ws g → flag_says r ≡ yes_with (flag g.clean)

abbrev pub CleanSays : List ℕ → Result Bool Refusal → Type 0
CleanSays ws r = Unless3 ws (flag_says r ≡ no_by 3) (CleanOpen ws r)

module _ (ws : List ℕ) (h : Head) (q : HeadIs (length ws) (hd ws) h) where
  pub count_open : CountOpen ws (Ok h.classes)
  unfolding root
  count_open = record {
    exact = ap (λ (s : Head). yes_with (s.classes ∷ [])) q.is;
    sound = λ g H. let K = holds_in ws h g q H in ap (λ (c : ℕ). yes_with (c ∷ [])) (K.forest.count ∙ ap (class_count g.roots) K.ids_are);
  }

  pub empty_open : EmptyOpen ws (Ok (eqb h.ids 0))
  empty_open = record {
    exact = ap (λ (s : Head). yes_with (flag (eqb s.ids 0))) q.is;
    sound = λ g H. ap (λ (k : ℕ). yes_with (flag (eqb k 0))) (holds_in ws h g q H).ids_are;
  }

  pub clean_open : CleanOpen ws (Ok h.clean)
  clean_open = record {
    exact = ap (λ (s : Head). yes_with (flag s.clean)) q.is;
    sound = λ g H. ap (λ (b : Bool). yes_with (flag b)) (holds_in ws h g q H).clean_is;
  }
