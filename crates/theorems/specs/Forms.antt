-- What the promise of `find_best` comes to: on words that calls made, the words that are written are the spelling of nodes which show, at the last place, a form of the
-- asked class, and no form of the class is smaller; the size answered is the form's, capped at 2^64 - 1; 8 comes exactly when the slice is too short for them, and 9
-- never. And two outcomes are one. That no word of the graph changes is in the promise itself.
-- Assumes nothing.
use Rattle.egraph.specs.declared.Refusal.{Refusal}
use Rattle.std.specs.Prelude.{Option, None, Result, Some, true, List, ◌++◌, ◌⊎◌, ◌≡◌, refl, ◌<◌, ◌≤◌, min, suc, ℕ, drop, length, take}
use Rattle.std.proofs.Common.{inl, inr, ◌∙◌, ap, subst, sym, take-append-drop}
use Rattle.lists.specs.Tests.{lt_or}
use Rattle.language.specs.Term.{Term, spell}
use Rattle.steps.specs.Forced.{Made}
use Rattle.steps.specs.Graph.{Graph, ids, node, root}
use Rattle.egraph.specs.Answers.{SameLimits}
use Rattle.egraph.specs.ClassReads.{KidsKnown}
use Rattle.extract.specs.Form.{FormAs, FormLists, FormSays, form_of, form_says}
use Rattle.extract.specs.Priced.{cost_of}
use Rattle.extract.specs.declared.Form.{Form as WrittenForm}
use Rattle.holds.specs.Holds.{Holds}
use Rattle.price.specs.Extract.{FormOf, listing, table}
use Rattle.price.specs.Form.{Form, In, in_map}
use Rattle.price.specs.Listing.{StandsAt, in_order}
use Rattle.price.specs.Pass.{Best}
use Rattle.price.specs.Shown.{entry_lt, in_order_at, in_order_length}
use Rattle.price.specs.Size.{AstSize, LeastSize, ast_size, cap}
use Rattle.price.proofs.Size.{size_least, size_listed}
use Rattle.theorems.specs.Course.{Run}
use Rattle.theorems.specs.Outcomes.{One, clean_ends, id_ends, left_alone, open_both}
use Rattle.theorems.specs.Sizes.{made_known}

-- ---- demand 2, of forms

-- place p of the nodes ns has the node x: so `In (ReadAt ns) f p` says that the nodes from place p on show the form f, each child being a place
abbrev pub ReadAt : List Term → ℕ → Term → Type 0
ReadAt ns p x = (p < length ns) × (node ns p ≡ x)

-- a smallest form of class r, capped, as a list of nodes
pub record Shows (g : Graph) (r : ℕ) (ns : List Term) : Type 0 where
  pub size : LeastSize g r
  pub shape : Form
  pub last : ℕ
  pub is_last : suc last ≡ length ns
  pub read : In (ReadAt ns) shape last
  pub in_class : FormOf g shape r
  pub at_size : min (ast_size shape) cap ≡ min (ast_size size.smallest) cap

-- the listing shows one
pub listing_shows : {us : List (ℕ × ℕ)} {g : Graph} → Made us g → (i : ℕ) → i < ids g → Shows g (root g.roots i) (in_order (listing g (table AstSize g) (root g.roots i)))
listing_shows {us} {g} M i lt =
    let z = size_least M i lt in
    let l = listing g (table AstSize g) (root g.roots i) in
    let k = size_listed M (root g.roots i) z.best z.entry in
    record {
      size = z;
      shape = k.0.shape;
      last = k.0.last;
      is_last = k.0.is_last ∙ sym (in_order_length l);
      read = in_map k.0.shape (StandsAt l) (ReadAt (in_order l)) k.0.last (λ p x h. (subst (λ (n : ℕ). p < n) (sym (in_order_length l)) (entry_lt p l x h), in_order_at p l x h)) k.0.stands;
      in_class = k.0.in_class;
      at_size = k.1 ∙ z.is;
    }

-- what was asked for, and what was answered: nodes that show a smallest form, and their words in the slice if it has room; they are the nodes that the definitions list
pub record BestForm (g : Graph) (i : ℕ) (out : List ℕ) (r : Result WrittenForm Refusal) (out' : List ℕ) : Type 0 where
  pub nodes : List Term
  pub shows : Shows g (root g.roots i) nodes
  pub listed : spell nodes ≡ form_of g i
  pub is : FormLists (min (ast_size shows.shape) cap) (spell nodes) out r out'

module _ (us : List (ℕ × ℕ)) (ws : List ℕ) (g : Graph) (C : Run us ws g) where
  -- a known id of a clean graph: the slice has a smallest form, and no word of the graph has changed
  pub run_form : (i : ℕ) (out : List ℕ) (r : Result WrittenForm Refusal) (ws' out' : List ℕ) → FormSays ws i out r ws' out' → g.clean ≡ true → i < ids g → BestForm g i out r out' × (ws' ≡ ws)
  run_form i out r ws' out' S c lt =
      let I = C.holds.at_rest in
      let o = (((S.says.on C.holds.good).on (rw I.ids_are lt)).on (I.clean_is ∙ c)).sound g C.holds (made_known C.made) in
      let s = listing_shows C.made i lt in
      let w : FormLists s.size.best.price (form_of g i) out r out' = subst (λ (b : Option (Best ℕ)). FormAs (form_of g i) out r out' b) s.size.entry o in (
        record {
          nodes = in_order (listing g (table AstSize g) (root g.roots i));
          shows = s;
          listed = refl;
          is = subst (λ (p : ℕ). FormLists p (form_of g i) out r out') (s.size.is ∙ sym s.at_size) w;
        },
        S.same,
      )

-- ---- two outcomes are one

-- the same form asked for, with the same room
same_lists : (s : ℕ) (xs out : List ℕ) (r r' : Result WrittenForm Refusal) (o o' : List ℕ) → FormLists s xs out r o → FormLists s xs out r' o' → (form_says r ≡ form_says r') × (o ≡ o')
same_lists s xs out r r' o o' p q = go (lt_or (length out) (length xs))
  where
    go : (length out < length xs) ⊎ (length xs ≤ length out) → (form_says r ≡ form_says r') × (o ≡ o')
    go (inl l) = let a = p.long l in let b = q.long l in (a.0 ∙ sym b.0, a.1 ∙ sym b.1)
    go (inr l) =
        let a = p.fits l in
        let b = q.fits l in
        let k = length xs in
        let x : take k o ≡ take k o' = a.1 ∙ sym b.1 in
        let y : drop k o ≡ drop k o' = a.2 ∙ sym b.2 in
        (a.0 ∙ sym b.0, sym (take-append-drop k o) ∙ ap (λ (l : List ℕ). l ++ drop k o) x ∙ ap (λ (l : List ℕ). take k o' ++ l) y ∙ take-append-drop k o')

-- of two slices of words that hold one graph under the same limits: one answer, one slice, and no word of the graph has changed
pub form_one : (ws ws' : List ℕ) (g : Graph) → Holds ws g → Holds ws' g → SameLimits ws ws' → KidsKnown g → (i : ℕ) (out : List ℕ) (r r' : Result WrittenForm Refusal) (ws1 ws1' out1 out1' : List ℕ)
    → FormSays ws i out r ws1 out1 → FormSays ws' i out r' ws1' out1' → One (form_says r) (form_says r') ws1 ws1' × (out1 ≡ out1')
form_one ws ws' g H H' L K i out r r' ws1 ws1' out1 out1' S T =
    let a =
    open_both ws ws' g H H' L S.says T.says (λ s t. id_ends ws ws' g H H' L i s t (λ p q. (p.0 ∙ sym q.0, p.1 ∙ sym q.1))
    (λ s t. clean_ends ws ws' g H H' L s t (λ p q. (p.0 ∙ sym q.0, p.1 ∙ sym q.1)) (λ p q. go (cost_of g i) (p.sound g H K) (q.sound g H' K)))) in
    (left_alone ws ws' g H H' L S.same T.same a.0, a.1)
  where
    go : (b : Option (Best ℕ)) → FormAs (form_of g i) out r out1 b → FormAs (form_of g i) out r' out1' b → (form_says r ≡ form_says r') × (out1 ≡ out1')
    go None p q = (p.0 ∙ sym q.0, p.1 ∙ sym q.1)
    go (Some b) p q = same_lists b.price (form_of g i) out r r' out1 out1' p q
