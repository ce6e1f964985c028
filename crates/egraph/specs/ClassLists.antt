-- What the calls on the classes of a clean graph promise: `total_number_of_nodes`, `classes_for_op` and `classes`. On any words 3, 7 and 9 come exactly when document 01
-- says, and for a list 8; else the answer is what the words read as. 9 never comes on words that hold a graph. A list that is refused leaves the slice lent for it as it was.
-- Assumes nothing.
use Rattle.egraph.specs.declared.Refusal.{Refusal}
use Rattle.std.specs.Prelude.{Err, Ok, Result, false, true, List, [], ◌∷◌, ◌≡◌, refl, ◌<◌, ◌≤◌, ℕ, length}
use Rattle.broken.specs.declared.Broken.{Broken}
use Rattle.broken.specs.Words.{broken, err≢ok}
use Rattle.std.proofs.Common.{◌∙◌, ap, subst, sym, arith}
use Rattle.steps.specs.Classes.{classes, classes_for_op, total_number_of_nodes}
use Rattle.steps.specs.Graph.{Graph}
use Rattle.eclass.specs.Checks.{Totals, UnbrokenIn, unbroken}
use Rattle.eclass.specs.ClassCount.{total_of}
use Rattle.eclass.specs.ClassHeld.{total_few, total_is}
use Rattle.eclass.specs.Lists.{classes_are, classes_in}
use Rattle.eclass.specs.Ops.{ops_are, ops_in}
use Rattle.spelling.specs.Pieces.{Wrote, pieces}
use Rattle.egraph.specs.Answers.{Else, ListOpen, Lists, OpensClean, Unless3, Unless7, clean_opened, clean_shut, count_says, head_of, held_clean, never, nine, no_by, number_of, open_broken, open_long, open_written, pass, stop, yes_with}
use Rattle.egraph.specs.declared.Refusal.TheVariants.{BrokenWords, TooLong}
use Rattle.holds.specs.Holds.{Holds}
use Rattle.holds.specs.HoldsLaws.{holds_in}
use Rattle.layout.specs.Head.{HeadIs}
use Rattle.layout.specs.View.{hd, view}
use Rattle.layout.specs.declared.Head.{Head}

-- ---- how many nodes

-- how many members all lists have, as their length words say; more than there are ids are broken words
abbrev pub total_in : Head → List ℕ → ℕ
total_in h ws = total_of (view h.n h.m ws).members h.n h.ids

abbrev pub TotalAt : Head → List ℕ → Result ℕ Refusal → Type 0
TotalAt h ws r = Else (h.ids < total_in h ws) (count_says r ≡ no_by 9) (total_in h ws ≤ h.ids) (count_says r ≡ yes_with (total_in h ws ∷ []))

pub record TotalOpen (ws : List ℕ) (r : Result ℕ Refusal) : Type 0 where
  pub exact : TotalAt (head_of ws) ws r
  pub fair : (k : ℕ) → count_says r ≡ no_by k → k ≡ 9
  pub sound : (g : Graph) → Holds ws g → count_says r ≡ yes_with (total_number_of_nodes g ∷ [])

abbrev pub TotalSays : List ℕ → Result ℕ Refusal → Type 0
TotalSays ws r =
    Unless3 ws (count_says r ≡ no_by 3)
    (Unless7 ws (count_says r ≡ no_by 7)
    (TotalOpen ws r))

-- in terms of a graph that the words hold
pub total_held : (ws : List ℕ) (g : Graph) → Holds ws g → (r : Result ℕ Refusal) → TotalSays ws r
    → Else (g.clean ≡ false) (count_says r ≡ no_by 7) (g.clean ≡ true) (count_says r ≡ yes_with (total_number_of_nodes g ∷ []))
total_held ws g H r s = let t = s.on H.good in record { no = λ e. t.no (held_clean H ∙ e); on = λ e. (t.on (held_clean H ∙ e)).sound g H }

pub total_shut : (ws : List ℕ) (r : Result Head Refusal) → OpensClean ws r → (q : Refusal) → r ≡ Err q → TotalSays ws (Err q)
total_shut ws r O q e = clean_shut ws r O (λ (k : ℕ). no_by (number_of q) ≡ no_by k) q e refl

over : (x y : ℕ) → x < y → y ≤ x → ⊥
over x y a b = omega arith

module _ (ws : List ℕ) (h : Head) (q : HeadIs (length ws) (hd ws) h) (c : h.clean ≡ true) where
  -- a graph that these words hold is clean
  pub its_clean : (g : Graph) → Holds ws g → g.clean ≡ true
  its_clean g H = sym (holds_in ws h g q H).clean_is ∙ c

  module _ (r : Result ℕ Broken) (T : Totals (view h.n h.m ws).members h.n h.ids r) where
    pub total_broken : r ≡ broken → TotalOpen ws (Err BrokenWords)
    total_broken e = record {
      exact = subst (λ (s : Head). TotalAt s ws (Err BrokenWords)) q.is (stop (T.broken e) (over _ _) refl);
      fair = λ k p. nine k p;
      sound = λ g H. absurd (omega (arith, T.broken e, total_few (holds_in ws h g q H) (its_clean g H)));
    }

    pub total_counted : (t : ℕ) → r ≡ Ok t → TotalOpen ws (Ok t)
    total_counted t e = record {
      exact = subst (λ (s : Head). TotalAt s ws (Ok t)) q.is (pass (rw (T.exact t e) at (T.few t e)) (over _ _) (ap (λ (x : ℕ). yes_with (x ∷ [])) (T.exact t e)));
      fair = λ k p. absurd (never k t p);
      sound = λ g H. ap (λ (x : ℕ). yes_with (x ∷ [])) (T.exact t e ∙ total_is (holds_in ws h g q H) (its_clean g H));
    }

-- ---- lists

-- whatever the words, an answer counts words of out. Words whose lists do not end, or lead outside the ids or to a broken row, are not whole; else reads is what they read as
pub record ListSays (list : Graph → List ℕ) (reads : Head → List ℕ → List ℕ) (ws out : List ℕ) (r : Result ℕ Refusal) (out' : List ℕ) : Type 0 where
  pub inside : (k : ℕ) → r ≡ Ok k → k ≤ length out
  pub says :
      Unless3 ws ((count_says r ≡ no_by 3) × (out' ≡ out))
      (Unless7 ws ((count_says r ≡ no_by 7) × (out' ≡ out))
      (ListOpen list UnbrokenIn reads ws out r out'))

-- in terms of a graph that the words hold
pub list_held : (list : Graph → List ℕ) (reads : Head → List ℕ → List ℕ) (ws : List ℕ) (g : Graph) → Holds ws g → (out : List ℕ) (r : Result ℕ Refusal) (out' : List ℕ) → ListSays list reads ws out r out'
    → Else (g.clean ≡ false) ((count_says r ≡ no_by 7) × (out' ≡ out)) (g.clean ≡ true) (Lists (list g) out r out')
list_held list reads ws g H out r out' s = let t = s.says.on H.good in record { no = λ e. t.no (held_clean H ∙ e); on = λ e. (t.on (held_clean H ∙ e)).sound g H }

-- what a list promises that is put together from pieces, one for each id: what `ListSays` says of any list of a graph which these pieces make on clean words that hold it
abbrev pub PiecesSay : (Head → List ℕ → ℕ → List ℕ) → List ℕ → List ℕ → Result ℕ Refusal → List ℕ → Type 0
PiecesSay piece ws out r out' =
    (list : Graph → List ℕ)
    → ((h : Head) → HeadIs (length ws) (hd ws) h → h.clean ≡ true → (g : Graph) → Holds ws g → pieces (piece h ws) h.ids ≡ list g)
    → ListSays list (λ (h : Head) (l : List ℕ). pieces (piece h l) h.ids) ws out r out'

-- `classes_for_op`
abbrev pub ForOpSays : List ℕ → ℕ → List ℕ → Result ℕ Refusal → List ℕ → Type 0
ForOpSays ws o out r out' = ListSays (λ (g : Graph). classes_for_op g o) (λ (h : Head) (l : List ℕ). ops_in h l o) ws out r out'

-- `classes`
abbrev pub ClassesSays : List ℕ → List ℕ → Result ℕ Refusal → List ℕ → Type 0
ClassesSays = ListSays classes classes_in

-- as the head of a clean graph is read
module _ (list : Graph → List ℕ) (reads : Head → List ℕ → List ℕ) (ws out : List ℕ) (r : Result Head Refusal) (O : OpensClean ws r) where
  pub list_shut : (q : Refusal) → r ≡ Err q → ListSays list reads ws out (Err q) out
  list_shut q e = record { inside = λ k p. err≢ok p; says = clean_shut ws r O (λ (k : ℕ). (no_by (number_of q) ≡ no_by k) × (out ≡ out)) q e (refl, refl) }

  pub list_opened : (h : Head) → r ≡ Ok h → (a : Result ℕ Refusal) (out' : List ℕ) → ListOpen list UnbrokenIn reads ws out a out'
      → ListSays list reads ws out a out'
  list_opened h e a out' o = record { inside = o.inside; says = clean_opened ws r O h e o }

module _ (list : Graph → List ℕ) (reads : Head → List ℕ → List ℕ) (ws : List ℕ) (h : Head) (q : HeadIs (length ws) (hd ws) h) (c : h.clean ≡ true) (out : List ℕ) where
  pub list_broken : (UnbrokenIn h ws → ⊥) → ListOpen list UnbrokenIn reads ws out (Err BrokenWords) out
  list_broken never = open_broken list UnbrokenIn reads ws h q out never (λ g H. unbroken (holds_in ws h g q H) (its_clean ws h q c g H))

  -- the words are whole; what they read as is for a graph that they hold its list, and k is how long it is
  module _ (u : UnbrokenIn h ws) (is : (g : Graph) → Holds ws g → reads h ws ≡ list g) (k : ℕ) (e : k ≡ length (reads h ws)) where
    pub list_long : length out < k → ListOpen list UnbrokenIn reads ws out (Err TooLong) out
    list_long l = open_long list UnbrokenIn reads ws h q out u is (omega arith)

    pub list_written : k ≤ length out → (p : ℕ) (out' : List ℕ) → Wrote out 0 (reads h ws) p out' → ListOpen list UnbrokenIn reads ws out (Ok p) out'
    list_written l p out' w = open_written list UnbrokenIn reads ws h q out u is (omega arith) p out' w

-- what the words say of the classes with an operator
pub its_ops : (ws : List ℕ) (h : Head) → HeadIs (length ws) (hd ws) h → h.clean ≡ true → (o : ℕ) (g : Graph) → Holds ws g
    → ops_in h ws o ≡ classes_for_op g o
its_ops ws h q c o g H = ops_are (holds_in ws h g q H) (its_clean ws h q c g H) o

-- and of all classes
pub its_classes : (ws : List ℕ) (h : Head) → HeadIs (length ws) (hd ws) h → h.clean ≡ true → (g : Graph) → Holds ws g
    → classes_in h ws ≡ classes g
its_classes ws h q c g H = classes_are (holds_in ws h g q H) (its_clean ws h q c g H)
