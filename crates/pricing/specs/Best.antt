-- The best node of a class by the prices in the scratch part: `choose`, `better` and `class_best` promise what `better` and `best` of Pass (price) say. The nodes of
-- a class are walked from the last back, so a node that is met is better than what was met before it if its price is no greater.
-- Assumes nothing.
use Rattle.std.specs.Prelude.{None, Ok, Result, Some, ◌≡◌, IfSome, Option, List, [], ◌∷◌, ◌++◌, Err}
use Rattle.broken.specs.declared.Broken.{Broken}
use Rattle.broken.specs.Words.{broken, err≢ok}
use Rattle.std.proofs.Common.{◌∙◌, subst, sym, append-nil, append_assoc, ap}
use Rattle.std.proofs.Math.Path.{refl}
use Prim.Native.Nat.{◌<◌, ◌^◌, ◌≤◌, min, ℕ}
use Rattle.std.proofs.Math.Decide.{dec_le}
use native.Mathlib.Omega.{arith}
use Rattle.lists.specs.Tests.{when_no, when_yes, zero_one}
use Rattle.language.specs.Fitting.{term}
use Rattle.language.specs.Term.{Term}
use Rattle.steps.specs.Classes.{class_nodes}
use Rattle.steps.specs.Graph.{Graph, ids, key_of}
use Rattle.egraph.specs.ClassReads.{Classed, RootNode, classed_kids, classed_node, Items, ItemsKnown, NamesBack, NodesOf}
use Rattle.layout.specs.View.{View}
use Rattle.layout.specs.declared.Head.{Head}
use Rattle.price.specs.Pass.{Best, Table, best, better, priced, prices}
use Rattle.price.specs.Size.{AstSize, cap}
use Rattle.pricing.specs.Entries.{IdBelow, Means, Names, Prices}
use Rattle.language.specs.declared.fit.Fit.{Fit}
use Rattle.pricing.specs.Node.{CostsNode}
use Rattle.pricing.specs.declared.Entry.{Entry}
use Rattle.language.specs.declared.Id.{Id}

-- ---- one node against the best of those behind it

pub record Chooses (b : Option Entry) (price id : ℕ) (r : Entry) : Type 0 where
  pub low : (n : ℕ) → IdBelow n b → id < n → r.id.0 < n
  pub law : (g : Graph) (o : Option (Best ℕ)) → id < ids g → Means g b o → Means g (Some r) (better AstSize (key_of g id) (Some price) o)

-- prices of 64 bits are below the cap
pub no_more : (p q : ℕ) → p < 2 ^ 64 → q < 2 ^ 64 → p ≤ q → min p cap ≤ min q cap
unfolding cap
no_more p q a b h = omega arith

pub more : (p q : ℕ) → p < 2 ^ 64 → q < 2 ^ 64 → q < p → min p cap ≤ min q cap → ⊥
unfolding cap
more p q a b h k = omega arith

module _ (b : Option Entry) (price id : ℕ) (small : price < 2 ^ 64) where
  abbrev new : Entry
  new = record { id = record { 0 = id }; price = price }

  names : (g : Graph) → id < ids g → Names g new (record { price = price; node = key_of g id })
  names g l = record { known = l; price_is = refl; small = small; node_is = refl }

  pub choose_new : IfSome b (λ e. price ≤ e.price) → Chooses b price id new
  unfolding better
  choose_new h = record { low = λ n l m. m; law = λ g o l M. go g b o h l M }
    where
      go : (g : Graph) (b : Option Entry) (o : Option (Best ℕ)) → IfSome b (λ e. price ≤ e.price) → id < ids g → Means g b o
          → Means g (Some new) (better AstSize (key_of g id) (Some price) o)
      go g None None h l M = names g l
      go g None (Some a) h l M = absurd M
      go g (Some e) None h l M = absurd M
      go g (Some e) (Some a) h l M =
          let q : min price cap ≤ min a.price cap = no_more price a.price small (omega (arith, M.small, M.price_is)) (omega (arith, M.price_is)) in
          rw (when_yes (dec_le (min price cap) (min a.price cap)) (Some (record { price = price; node = key_of g id })) (Some a) q) (names g l)

  pub choose_old : (e : Entry) → b ≡ Some e → e.price < price → Chooses b price id e
  unfolding better
  choose_old e is h = record { low = λ n l m. rw is at l; law = λ g o l M. go g o (rw is at M) }
    where
      go : (g : Graph) (o : Option (Best ℕ)) → Means g (Some e) o → Means g (Some e) (better AstSize (key_of g id) (Some price) o)
      go g None M = absurd M
      go g (Some a) M =
          let q : min price cap ≤ min a.price cap → ⊥ = more price a.price small (omega (arith, M.small, M.price_is)) (omega (arith, M.price_is)) in
          rw (when_no (dec_le (min price cap) (min a.price cap)) (Some (record { price = price; node = key_of g id })) (Some a) q) M

-- the node x of a class, where o is the best behind it
abbrev pub better_of : Table ℕ → Term → Option (Best ℕ) → Option (Best ℕ)
better_of t x o = better AstSize x (priced AstSize x (prices t x.kids)) o

pub record Betters (h : Head) (id : ℕ) (b : Option Entry) (v : View) (r : Result (Option Entry) Broken) : Type 0 where
  pub low : (e : Option Entry) → r ≡ Ok e → IdBelow h.n e
  pub law : (g : Graph) (t : Table ℕ) (o : Option (Best ℕ)) → Classed h v g → Prices g h.n v.scratch t → id < ids g → Means g b o
      → (e : Option Entry) × (r ≡ Ok e) × Means g e (better_of t (key_of g id) o)

module _ (h : Head) (id : ℕ) (b : Option Entry) (v : View) (f : Result Fit Broken) (F : RootNode h v id f) where
  pub better_unread : f ≡ broken → Betters h id b v broken
  better_unread q = record { low = λ e p. err≢ok p; law = λ g t m C P lt M. absurd (F.lost q (classed_node C id lt).0) }

  module _ (x : Fit) (is : f ≡ Ok x) (c : Result (Option ℕ) Broken) (N : CostsNode h.n h.ids v.scratch (term x) c) where
    -- the price of the node, as the table gives it
    costs : (g : Graph) (t : Table ℕ) → Classed h v g → Prices g h.n v.scratch t → id < ids g
        → c ≡ Ok (priced AstSize (key_of g id) (prices t (key_of g id).kids))
    costs g t C P lt =
        let q = F.sound g C lt in
        let same : q.0 ≡ x = let s = q.1 in cc in
        let e : term x ≡ key_of g id = rw (← same) q.2 in
        subst (λ (y : Term). c ≡ Ok (priced AstSize y (prices t y.kids))) e (N.law g t P (rw e (classed_kids C id lt)))

    pub better_broken : c ≡ broken → Betters h id b v broken
    better_broken q = record {
      low = λ e p. err≢ok p;
      law = λ g t o C P lt M. err≢ok (sym q ∙ costs g t C P lt);
    }

    pub better_none : IdBelow h.n b → c ≡ Ok None → Betters h id b v (Ok b)
    unfolding better
    better_none lo q = record {
      low = λ e p. let z : b ≡ e = cc in rw (← z) lo;
      law = λ g t o C P lt M. (b, refl, go g (key_of g id) o (priced AstSize (key_of g id) (prices t (key_of g id).kids)) (sym q ∙ costs g t C P lt) M);
    }
      where
        go : (g : Graph) (x : Term) (o : Option (Best ℕ)) (p : Option ℕ) → ◌≡◌ {A = Result (Option ℕ) Broken} (Ok None) (Ok p) → Means g b o → Means g b (better AstSize x p o)
        go g x o None e M = M
        go g x o (Some p) e M = zero_one cc

    pub better_priced : (p : ℕ) (r : Entry) → id < h.n → IdBelow h.n b → c ≡ Ok (Some p) → Chooses b p id r → Betters h id b v (Ok (Some r))
    better_priced p r li lo q K = record {
      low = λ e w. let z : Some r ≡ e = cc in rw (← z) (K.low h.n lo li);
      law = λ g t o C P lt M. (Some r, refl, go g o lt (priced AstSize (key_of g id) (prices t (key_of g id).kids)) (sym q ∙ costs g t C P lt) M);
    }
      where
        go : (g : Graph) (o : Option (Best ℕ)) → id < ids g → (m : Option ℕ) → ◌≡◌ {A = Result (Option ℕ) Broken} (Ok (Some p)) (Ok m) → Means g b o
            → Means g (Some r) (better AstSize (key_of g id) m o)
        go g o l None e M = zero_one cc
        go g o l (Some k) e M = let z : p ≡ k = cc in rw (← z) (K.law g o l M)

-- ---- all nodes of a class

pub record BestOf (h : Head) (a : ℕ) (v : View) (r : Result (Option Entry) Broken) : Type 0 where
  pub low : (e : Option Entry) → r ≡ Ok e → IdBelow h.n e
  pub law : (g : Graph) (t : Table ℕ) → Classed h v g → Prices g h.n v.scratch t
      → (e : Option Entry) × (r ≡ Ok e) × Means g e (best AstSize t (class_nodes g a))

-- the items `rest` name the nodes of class a that are still to come, and b is the best of those behind them
pub record Behind (g : Graph) (t : Table ℕ) (a : ℕ) (rest : Items) (b : Option Entry) : Type 0 where
  pub todo : List Term
  pub done : List Term
  pub whole : class_nodes g a ≡ todo ++ done
  pub names : NamesBack g rest todo
  pub means : Means g b (best AstSize t done)

-- a walk over the nodes of class a from the last back, on its way
pub record Walking (h : Head) (v : View) (a : ℕ) (rest : Items) (b : Option Entry) : Type 0 where
  pub low : IdBelow h.n b
  pub known : ItemsKnown h rest
  pub law : (g : Graph) (t : Table ℕ) → Classed h v g → Prices g h.n v.scratch t → Behind g t a rest b

module _ (h : Head) (v : View) (a : ℕ) where
  -- the walk that `class_nodes` starts
  module _ (r : Result Items Broken) (N : NodesOf h v a r) where
    pub best_unread : r ≡ broken → BestOf h a v broken
    best_unread q = record { low = λ e p. err≢ok p; law = λ g t C P. absurd (N.sound q g C) }

    pub walk_start : (xs : Items) → r ≡ Ok xs → Walking h v a xs None
    unfolding best
    walk_start xs e = record {
      low = tt;
      known = N.known xs e;
      law = λ g t C P. record { todo = class_nodes g a; done = []; whole = sym (append-nil (class_nodes g a)); names = N.all xs e g C; means = tt };
    }

  module _ (xs : Items) (b : Option Entry) (W : Walking h v a xs b) where
    pub best_all : xs ≡ [] → BestOf h a v (Ok b)
    best_all z = record {
      low = λ e p. let q : b ≡ e = cc in rw (← q) W.low;
      law = λ g t C P. (b, refl, let B = W.law g t C P in let n : B.todo ≡ [] = rw z at B.names in rw (B.whole, n) B.means);
    }

    -- a refusal is no graph's
    pub best_lost : (e : Broken) (rest : Items) → xs ≡ Err e ∷ rest → BestOf h a v broken
    best_lost e rest z = record { low = λ e p. err≢ok p; law = λ g t C P. absurd (rw z at (W.law g t C P).names) }

    -- the node of an id comes next, and is looked at
    module _ (id : Id) (rest : Items) (z : xs ≡ Ok id ∷ rest) where
      pub walk_known : id.0 < h.ids
      walk_known = (rw z at W.known).0

      module _ (r : Result (Option Entry) Broken) (B : Betters h id.0 b v r) where
        looked : (g : Graph) (t : Table ℕ) → Classed h v g → Prices g h.n v.scratch t → (e : Option Entry) × (r ≡ Ok e) × Behind g t a rest e
        unfolding best
        looked g t C P =
            let D = W.law g t C P in
            let N : NamesBack g (Ok id ∷ rest) D.todo = rw z at D.names in
            let L = B.law g t (best AstSize t D.done) C P N.2 D.means in (
              L.0,
              L.1,
              record {
                todo = N.0;
                done = key_of g id.0 ∷ D.done;
                whole = D.whole ∙ ap (λ (l : List Term). l ++ D.done) N.1 ∙ append_assoc N.0 (key_of g id.0 ∷ []) D.done;
                names = N.3;
                means = L.2;
              },
            )

        pub walk_more : (e : Option Entry) → r ≡ Ok e → Walking h v a rest e
        walk_more e q = record {
          low = B.low e q;
          known = (rw z at W.known).1;
          law = λ g t C P. let k = looked g t C P in let s : e ≡ k.0 = cc (q, k.1) in rw s k.2;
        }

        pub best_broken : r ≡ broken → BestOf h a v broken
        best_broken q = record { low = λ e p. err≢ok p; law = λ g t C P. let k = looked g t C P in err≢ok (sym q ∙ k.1) }
