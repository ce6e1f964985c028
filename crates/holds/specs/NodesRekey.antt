-- What a rebuild does to the table for one id i: the id that has the key k of i leaves the table, i leaves it under its old key, the key row of i is set to k,
-- and i goes in under k. The graph's table gets the entry (k, i).
-- Assumes nothing.
use Rattle.std.specs.Prelude.{Bool, Ok, Result, true, List, [], ◌∷◌, ◌≢◌, ◌≡◌, refl, ◌<◌, ℕ, length, set, Some}
use Rattle.broken.specs.declared.Broken.{Broken}
use Rattle.broken.specs.Words.{broken}
use Rattle.std.proofs.Common.{◌∙◌, ap, sym, arith, get_or-set_other, get_or-set_same}
use Rattle.std.proofs.Math.ListN.{length-map}
use Rattle.language.specs.Term.{Term, term_at}
use Rattle.steps.specs.Graph.{canon, kept, node, root}
use Rattle.closure.specs.Tables.{Live}
use Rattle.holds.specs.Nodes.{Nodes}
use Rattle.holds.specs.NodesPut.{Ready, Vacant, nodes_put}
use Rattle.rows.specs.Promise.{Keyed}
use Rattle.rows.specs.Rows.{Rows}
use Rattle.table.specs.Buckets.{bucket_of}
use Rattle.table.specs.Entering.{Entered}
use Rattle.table.specs.Leaving.{Departed}

-- i leaves under its old key, if it is there
pub rekey_leave : (n : ℕ) (ts ts' : List ℕ) (ks : List Term) (L : List (List ℕ)) (i : ℕ) (k : Term) (c : Result Bool Broken) → Vacant n ts ks L i k
    → Departed ts ts' n (bucket_of n (term_at ks i)) i c → (c ≢ broken) × Ready n ts' ks L i k
rekey_leave n ts ts' ks L i k c W P =
    let w = P.law ks W.lists W.table refl in (
      P.sound ks W.lists W.table refl,
      record {
        vacant = record {
          lists = w.lists;
          table = w.table;
          free = λ y h e. W.free y (w.drops.from y h) e;
          stays = λ y h ne e. w.drops.stays y (W.stays y h ne e) ne;
          from = λ y h. W.from y (w.drops.from y h);
        };
        out = w.drops.gone;
      },
    )

-- what the whole change leaves: no answer is a broken one
pub record Rekeyed (n m : ℕ) (rs ts : List ℕ) (ns : List Term) (roots : List ℕ) (memo : List (Term × ℕ)) (ks : List Term) (c : Result Bool Broken) (q : Result Unit Broken) (r : Result Unit Broken) : Type 0 where
  pub left : c ≢ broken
  pub keyed : q ≡ Ok tt
  pub entered : r ≡ Ok tt
  pub nodes : Nodes n m rs ts ns roots memo
  pub keys_are : nodes.keys ≡ ks

module _ (n m : ℕ) (rs ts : List ℕ) (ns : List Term) (roots : List ℕ) (memo : List (Term × ℕ)) (D : Nodes n m rs ts ns roots memo) (i : ℕ) (k : Term) where
  -- ---- the id that has the key leaves (it may be i)

  pub rekey_other : (j : ℕ) (ts' : List ℕ) (b : Result Bool Broken) → Live roots k → kept k memo ≡ Some j → Departed ts ts' n (bucket_of n k) j b
      → (b ≡ Ok true) × Vacant n ts' D.keys D.buckets i k
  rekey_other j ts' b live f P =
      let h = D.found k j live f in
      let home : bucket_of n k ≡ bucket_of n (term_at D.keys j) = ap (bucket_of n) (sym h.1) in
      let w = P.law D.keys D.buckets D.table home in (
        P.done D.keys D.buckets D.table home h.0,
        record {
          lists = w.lists;
          table = w.table;
          free = λ y g e.
              let is : y ≡ j = D.table.once y j (w.drops.from y g) h.0 (e ∙ sym h.1) in
              absurd (w.drops.gone (rw is at g));
          stays = λ y g ne e. w.drops.stays y g (λ is. e (ap (term_at D.keys) is ∙ h.1));
          from = w.drops.from;
        },
      )

  -- ---- the key row of i is set

  pub rekey_row : (rs' : List ℕ) (q : Result Unit Broken) → i < length ns → k ≡ canon roots (node ns i) → Keyed rs rs' n m i k q → (q ≡ Ok tt) × Rows rs' n m ns (set D.keys i k)
  unfolding node
  rekey_row rs' q low is_key K = K.law ns D.keys D.rows low (rw is_key (record { op = refl; payload = refl; count = length-map (node ns i).kids (root roots) }))

  -- ---- i goes in

  pub rekey_enter : (rs' ts₁ ts₂ : List ℕ) (r : Result Unit Broken) → i < length ns → ((k' : Term) → Live roots k' → kept k' memo ≡ Some i → k' ≡ k)
      → Rows rs' n m ns (set D.keys i k) → Ready n ts₁ D.keys D.buckets i k → Entered ts₁ ts₂ n (bucket_of n k) i r
      → (r ≡ Ok tt) × (D' : Nodes n m rs' ts₂ ns roots ((k, i) ∷ memo)) × (D'.keys ≡ set D.keys i k)
  rekey_enter rs' ts₁ ts₂ r low own R W E =
      nodes_put n m rs ts ns roots memo D i k (set D.keys i k)
      (get_or-set_same D.keys i k (record { op = 0; payload = 0; kids = [] }) (omega (arith, D.rows.keys)))
      (λ y ne. get_or-set_other D.keys i y k (record { op = 0; payload = 0; kids = [] }) ne)
      own rs' ts₁ ts₂ r low R W E
