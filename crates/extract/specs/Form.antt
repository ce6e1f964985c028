-- What `find_best` promises: no word of the graph changes, whatever it answers. 3, 4 and 7 come exactly when document 01 says; the only numbers left are 9 and 8, and
-- every refusal leaves the slice as it was. On words that hold a graph 8 comes exactly when the form is longer than the slice, and else the answer is the price of the
-- id's class, with the words of its listing at the start of the slice and nothing changed behind them.
-- Assumes nothing.
use Rattle.std.specs.Prelude.{Err, None, Ok, Option, Result, Some, List, [], ◌∷◌, ◌⊎◌, ◌≡◌, refl, ◌+◌, ◌<◌, ◌≤◌, ℕ, drop, length, take}
use Rattle.broken.specs.declared.Broken.{Broken}
use Rattle.broken.specs.Words.{broken, err≢ok}
use Rattle.std.proofs.Common.{inl, inr, ◌∙◌, ap, subst, sym, zero-add, arith}
use Rattle.lists.specs.Sets.{sets_after, sets_stand}
use Rattle.steps.specs.Classes.{class_nodes, class_roots}
use Rattle.steps.specs.Graph.{Graph, root}
use Rattle.egraph.specs.Answers.{Answer, never, nine, no_by, says, yes_with}
use Rattle.egraph.specs.ClassLists.{its_clean}
use Rattle.egraph.specs.ClassReads.{AtRest, Classed, KidsKnown, at_rest, classed_lent, classed_listed}
use Rattle.egraph.specs.declared.Refusal.{Refusal}
use Rattle.egraph.specs.declared.Refusal.TheVariants.{BrokenWords, TooLong}
use Rattle.spelling.specs.Pieces.{Wrote, pieces}
use Rattle.forming.specs.Form.{FineForm, FormMeasured, form_fine, form_is}
use Rattle.forming.specs.FormNode.{form_piece}
use Rattle.forming.specs.Kept.{Kept, cheapest_kept}
use Rattle.holds.specs.Holds.{Holds}
use Rattle.layout.specs.Cut.{scratch}
use Rattle.layout.specs.Lent.{Lent, lent_map, lent_twice}
use Rattle.layout.specs.View.{View, view}
use Rattle.layout.specs.declared.Head.{Head}
use Rattle.price.specs.Chosen.{backed, ranked}
use Rattle.price.specs.Extract.{listing, table}
use Rattle.price.specs.Listing.{form_words}
use Rattle.price.specs.Pass.{Best}
use Rattle.price.specs.Size.{AstSize}
use Rattle.pricing.specs.Entries.{Prices}
use Rattle.pricing.specs.Laid.{Laid}
use Rattle.walking.specs.Walk.{FormLaid, ListsForm, Ready}
use Rattle.extract.specs.Opens.{Free, Ladder, Refused, ScratchCleared, let_through, refused, scratch_back}
use Rattle.extract.specs.Priced.{PricedAs, PricesClass, cost_of}
use Rattle.extract.specs.declared.Form.{Form}
use Rattle.extract.specs.declared.forms.Outline.{Outline}
use Rattle.extract.specs.declared.Priced.{Priced}

-- a size and how many words were written; the words themselves stand in the slice that was lent for them
abbrev pub form_says : Result Form Refusal → Answer
form_says = says (λ (f : Form). f.size ∷ f.words ∷ [])

-- the words of the form of id i's class
abbrev pub form_of : Graph → ℕ → List ℕ
form_of g i = form_words (listing g (table AstSize g) (root g.roots i))

-- ---- the promises

-- xs is the form and s its size, and out the slice lent for it: 8 where the form is longer, and nothing is written; else it stands at the start of out'
pub record FormLists (s : ℕ) (xs out : List ℕ) (r : Result Form Refusal) (out' : List ℕ) : Type 0 where
  pub long : length out < length xs → (form_says r ≡ no_by 8) × (out' ≡ out)
  pub fits : length xs ≤ length out
      → (form_says r ≡ yes_with (s ∷ length xs ∷ [])) × (take (length xs) out' ≡ xs) × (drop (length xs) out' ≡ drop (length xs) out)

-- a class without a price is no made graph's
abbrev pub FormAs : List ℕ → List ℕ → Result Form Refusal → List ℕ → Option (Best ℕ) → Type 0
FormAs xs out r out' None = (form_says r ≡ no_by 9) × (out' ≡ out)
FormAs xs out r out' (Some b) = FormLists b.price xs out r out'

-- on any words: an answer counts words of the slice, a refusal leaves it as it was
pub record FormFair (out : List ℕ) (r : Result Form Refusal) (out' : List ℕ) : Type 0 where
  pub inside : (s k : ℕ) → r ≡ Ok (record { size = s; words = k }) → k ≤ length out
  pub size : length out' ≡ length out
  pub refused : (k : ℕ) → form_says r ≡ no_by k → ((k ≡ 9) ⊎ (k ≡ 8)) × (out' ≡ out)

pub record FormOpen (ws : List ℕ) (i : ℕ) (out : List ℕ) (r : Result Form Refusal) (out' : List ℕ) : Type 0 where
  pub fair : FormFair out r out'
  pub sound : (g : Graph) → Holds ws g → KidsKnown g → FormAs (form_of g i) out r out' (cost_of g i)

-- refused by k: the slice is as it was
abbrev pub FormNo : List ℕ → Result Form Refusal → List ℕ → ℕ → Type 0
FormNo out r out' k = (form_says r ≡ no_by k) × (out' ≡ out)

pub record FormSays (ws : List ℕ) (i : ℕ) (out : List ℕ) (r : Result Form Refusal) (ws' out' : List ℕ) : Type 0 where
  pub same : ws' ≡ ws
  pub inside : (s k : ℕ) → r ≡ Ok (record { size = s; words = k }) → k ≤ length out
  pub says : Ladder ws i (FormNo out r out') (FormOpen ws i out r out')

-- ---- the listing

-- the words of a view have the graph g, its prices, and the listing of class c by them
pub record FormStands (h : Head) (g : Graph) (c : ℕ) (v : View) : Type 0 where
  pub classes : Classed h v g
  pub prices : Prices g h.n v.scratch (table AstSize g)
  pub laid : Laid h.n v.scratch (listing g (table AstSize g) c)
  pub kept : Kept (table AstSize g) (listing g (table AstSize g) c)

abbrev pub OutlinedAs : Head → Graph → ℕ → Result Outline Broken → View → Option (Best ℕ) → Type 0
OutlinedAs h g i r v None = r ≡ broken
OutlinedAs h g i r v (Some b) = (r ≡ Ok (record { size = b.price; listed = (length (listing g (table AstSize g) (root g.roots i))) })) × FormStands h g (root g.roots i) v

-- nothing but the scratch part has changed
abbrev pub InScratch : ℕ → ℕ → List ℕ → List ℕ → Type 0
InScratch n m ws ws' = Lent scratch n m (λ s s'. Unit {0}) ws ws'

pub record ListsOut (h : Head) (i : ℕ) (ws : List ℕ) (r : Result Outline Broken) (ws' : List ℕ) : Type 0 where
  pub only : InScratch h.n h.m ws ws'
  pub few : (o : Outline) → r ≡ Ok o → o.listed ≤ h.n
  pub law : (g : Graph) → AtRest h (view h.n h.m ws) g → OutlinedAs h g i r (view h.n h.m ws') (cost_of g i)

module _ (h : Head) (i : ℕ) (ws ws1 : List ℕ) (p : Result Priced Broken) (P : PricesClass h i ws p ws1) where
  pub list_unpriced : p ≡ broken → ListsOut h i ws broken ws1
  list_unpriced e = record {
    only = lent_map (λ s s' z. tt) P.only;
    few = λ t z. err≢ok z;
    law = λ g R. go g (cost_of g i) (P.law g R);
  }
    where
      go : (g : Graph) (o : Option (Best ℕ)) → PricedAs h g i p (view h.n h.m ws1).scratch o → OutlinedAs h g i broken (view h.n h.m ws1) o
      go g None A = refl
      go g (Some b) A = err≢ok (sym e ∙ A.0)

  module _ (y : Priced) (e : p ≡ Ok y) (ws2 : List ℕ) (o : Result ℕ Broken) (L : ListsForm h y.root.0 ws1 o ws2) where
    both : InScratch h.n h.m ws ws2
    both = lent_twice (λ x y z u v. tt) P.only L.only

    -- the listing, where the class has a price
    laid_out : (g : Graph) → AtRest h (view h.n h.m ws) g → (b : Best ℕ) → PricedAs h g i p (view h.n h.m ws1).scratch (Some b)
        → FormLaid h g (table AstSize g) (listing g (table AstSize g) (root g.roots i)) o (view h.n h.m ws2).scratch
    laid_out g R b A =
        let same : y ≡ record { root = record { 0 = root g.roots i }; size = b.price } = cc (e, A.0) in
        let z : y.root.0 ≡ root g.roots i = ap (λ (x : Priced). x.root.0) same in
        let C : Classed h (view h.n h.m ws1) g = classed_lent P.only R.classes in
        subst (λ (x : ℕ). FormLaid h g (table AstSize g) (listing g (table AstSize g) x) o (view h.n h.m ws2).scratch) z
        (L.law g C (subst (λ (x : ℕ). Ready h g x (view h.n h.m ws1).scratch) (sym z) A.1))

    pub list_broken : o ≡ broken → ListsOut h i ws broken ws2
    list_broken w = record {
      only = both;
      few = λ t z. err≢ok z;
      law = λ g R. go g R (cost_of g i) (P.law g R);
    }
      where
        go : (g : Graph) → AtRest h (view h.n h.m ws) g → (m : Option (Best ℕ)) → PricedAs h g i p (view h.n h.m ws1).scratch m
            → OutlinedAs h g i broken (view h.n h.m ws2) m
        go g R None A = refl
        go g R (Some b) A = err≢ok (sym w ∙ (laid_out g R b A).is)

    pub list_done : (k : ℕ) → o ≡ Ok k → ListsOut h i ws (Ok (record { size = y.size; listed = k })) ws2
    list_done k w = record {
      only = both;
      few = λ t z. let same : record { size = y.size; listed = k } ≡ t = cc in rw (← same) (L.few k w);
      law = λ g R. go g R (cost_of g i) refl (P.law g R);
    }
      where
        go : (g : Graph) → AtRest h (view h.n h.m ws) g → (m : Option (Best ℕ)) → cost_of g i ≡ m → PricedAs h g i p (view h.n h.m ws1).scratch m
            → OutlinedAs h g i (Ok (record { size = y.size; listed = k })) (view h.n h.m ws2) m
        go g R None u A = err≢ok (sym A ∙ e)
        go g R (Some b) u A =
            let F = laid_out g R b A in
            let C : Classed h (view h.n h.m ws2) g = classed_lent both R.classes in
            let same : y ≡ record { root = record { 0 = root g.roots i }; size = b.price } = cc (e, A.0) in
            let x : y.size ≡ b.price = ap (λ (u : Priced). u.size) same in
            let z : k ≡ length (listing g (table AstSize g) (root g.roots i)) = cc (w, F.is) in
            let rs = class_roots g in (
              rw (x, z) refl,
              record {
                classes = C;
                prices = F.prices;
                laid = F.laid;
                kept = cheapest_kept AstSize (class_nodes g) (table AstSize g) (backed AstSize (class_nodes g) rs (length rs)) (ranked AstSize (class_nodes g) rs (length rs)) rs (classed_listed C) (root g.roots i) b u;
              },
            )

-- ---- the form

pub record WritesOut (h : Head) (s k : ℕ) (ws out : List ℕ) (r : Result Form Refusal) (out' : List ℕ) : Type 0 where
  pub fair : FormFair out r out'
  pub sound : (g : Graph) (c : ℕ) → FormStands h g c (view h.n h.m ws) → k ≡ length (listing g (table AstSize g) c) → FormLists s (form_words (listing g (table AstSize g) c)) out r out'

-- refused by 9 or 8
fair_nine : (out : List ℕ) → FormFair out (Err BrokenWords) out
fair_nine out = record { inside = λ s k e. err≢ok e; size = refl; refused = λ k e. (inl (nine k e), refl) }

fair_eight : (out : List ℕ) → FormFair out (Err TooLong) out
fair_eight out = record { inside = λ s k e. err≢ok e; size = refl; refused = λ k e. (inr (sym (ap (λ (a : Answer). a.number) e)), refl) }

module _ (h : Head) (s k : ℕ) (ws out : List ℕ) (few : h.ids ≤ h.n) where
  abbrev v : View
  v = view h.n h.m ws

  -- what is read of a listing that stands there
  fine : (g : Graph) (c : ℕ) → FormStands h g c (view h.n h.m ws) → k ≡ length (listing g (table AstSize g) c) → FineForm h v k
  fine g c S e = rw e (form_fine h (view h.n h.m ws) g (table AstSize g) (listing g (table AstSize g) c) few S.classes S.prices S.laid S.kept)

  its_words : (g : Graph) (c : ℕ) → FormStands h g c (view h.n h.m ws) → k ≡ length (listing g (table AstSize g) c)
      → pieces (form_piece h v) k ≡ form_words (listing g (table AstSize g) c)
  its_words g c S e = rw e (form_is h (view h.n h.m ws) g (table AstSize g) (listing g (table AstSize g) c) few S.classes S.prices S.laid S.kept)

  module _ (l : Result ℕ Broken) (M : FormMeasured h v k l) where
    pub write_broken : l ≡ broken → WritesOut h s k ws out (Err BrokenWords) out
    write_broken e = record { fair = fair_nine out; sound = λ g c S w. absurd (M.broken e (fine g c S w)) }

    module _ (x : ℕ) (e : l ≡ Ok x) where
      pub write_long : length out < x → WritesOut h s k ws out (Err TooLong) out
      write_long lt = record {
        fair = fair_eight out;
        sound = λ g c S w.
            let n : x ≡ length (form_words (listing g (table AstSize g) c)) = M.whole x e ∙ ap length (its_words g c S w) in
            record { long = λ _. (refl, refl); fits = λ b. absurd (omega arith) };
      }

      pub write_fit : x ≤ length out → length (pieces (form_piece h v) k) ≤ length out
      write_fit le = omega (arith, M.whole x e)

      pub write_done : x ≤ length out → (r : ℕ) (out' : List ℕ) → Wrote out 0 (pieces (form_piece h v) k) r out' → WritesOut h s k ws out (Ok (record { size = s; words = r })) out'
      write_done le r out' W = record {
        fair = record {
          inside = λ t j z.
              let same : ◌≡◌ {A = Form} (record { size = s; words = r }) (record { size = t; words = j }) = cc in
              omega (arith, ap (λ (f : Form). f.words) same, W.next, M.whole x e);
          size = W.size;
          refused = λ j z. absurd (never j s z);
        };
        sound = λ g c S w. stands (form_words (listing g (table AstSize g) c)) (its_words g c S w);
      }
        where
          stands : (xs : List ℕ) → pieces (form_piece h v) k ≡ xs → FormLists s xs out (Ok (record { size = s; words = r })) out'
          stands xs q =
              let n : x ≡ length xs = M.whole x e ∙ ap length q in
              let m : r ≡ length xs = omega (arith, W.next, M.whole x e) in
              let room : 0 + length xs ≤ length out = omega arith in
              record {
                long = λ b. absurd (omega arith);
                fits = λ _. (ap (λ (j : ℕ). yes_with (s ∷ j ∷ [])) m, rw (W.exact, q) (sets_stand out xs 0 room), rw (W.exact, q) (rw zero-add at (sets_after out xs 0 room)));
              }

-- ---- both

pub record FormsOut (h : Head) (i : ℕ) (ws out : List ℕ) (r : Result Form Refusal) (ws' out' : List ℕ) : Type 0 where
  pub only : InScratch h.n h.m ws ws'
  pub fair : FormFair out r out'
  pub sound : (g : Graph) → AtRest h (view h.n h.m ws) g → FormAs (form_of g i) out r out' (cost_of g i)

module _ (h : Head) (i : ℕ) (ws ws1 out : List ℕ) (o : Result Outline Broken) (L : ListsOut h i ws o ws1) where
  pub out_broken : o ≡ broken → FormsOut h i ws out (Err BrokenWords) ws1 out
  out_broken e = record { only = L.only; fair = fair_nine out; sound = λ g R. go g (cost_of g i) (L.law g R) }
    where
      go : (g : Graph) (m : Option (Best ℕ)) → OutlinedAs h g i o (view h.n h.m ws1) m → FormAs (form_of g i) out (Err BrokenWords) out m
      go g None A = (refl, refl)
      go g (Some b) A = err≢ok (sym e ∙ A.0)

  pub out_done : (y : Outline) → o ≡ Ok y → (r : Result Form Refusal) (out' : List ℕ) → WritesOut h y.size y.listed ws1 out r out'
      → FormsOut h i ws out r ws1 out'
  out_done y e r out' W = record { only = L.only; fair = W.fair; sound = λ g R. go g (cost_of g i) (L.law g R) }
    where
      go : (g : Graph) (m : Option (Best ℕ)) → OutlinedAs h g i o (view h.n h.m ws1) m → FormAs (form_of g i) out r out' m
      go g None A = err≢ok (sym A ∙ e)
      go g (Some b) A =
          let same : y ≡ record { size = b.price; listed = length (listing g (table AstSize g) (root g.roots i)) } = cc (e, A.0) in
          subst (λ (z : ℕ). FormLists z (form_of g i) out r out') (ap (λ (x : Outline). x.size) same)
          (W.sound g (root g.roots i) A.1 (ap (λ (x : Outline). x.listed) same))

-- ---- the call

module _ (ws : List ℕ) (i : ℕ) (out : List ℕ) where
  pub form_refused : (q : Refusal) → Refused ws i q → FormSays ws i out (Err q) ws out
  form_refused q R = record {
    same = refl;
    inside = λ s k e. err≢ok e;
    says =
        refused ws i (FormNo out (Err q) out) (λ (p : Refusal). FormOpen ws i out (Err p) out) q R (refl, refl)
        (λ no. record { fair = fair_nine out; sound = λ g H K. absurd (no g H) });
  }

  pub form_done : (h : Head) → Free ws i h → (r : Result Form Refusal) (ws1 ws2 out' : List ℕ) → FormsOut h i ws out r ws1 out' → ScratchCleared h.n h.m ws1 ws2
      → FormSays ws i out r ws2 out'
  form_done h F r ws1 ws2 out' W Z = record {
    same = scratch_back F.clear W.only Z;
    inside = W.fair.inside;
    says = let_through (FormNo out r out') ws i h F (record { fair = W.fair; sound = λ g H K. W.sound g (at_rest ws h g F.head_is H (its_clean ws h F.head_is F.clean g H) K) });
  }
