-- All of what a rebuild does to the table for one id i, where the table had no other id for its key and where it had one.
-- Assumes nothing.
use Rattle.std.specs.Prelude.{Bool, Ok, Result, true, List, ◌≡◌, ◌∷◌, ◌⊎◌, ◌<◌, ℕ, length, set, None, Some}
use Rattle.broken.specs.declared.Broken.{Broken}
use Rattle.language.specs.Term.{Term, term_at}
use Rattle.steps.specs.Graph.{canon, kept, node, root}
use Rattle.closure.specs.Tables.{Live, canon_live}
use Rattle.holds.specs.Nodes.{Nodes}
use Rattle.holds.specs.NodesPut.{Vacant, vacant_alone}
use Rattle.holds.specs.NodesRekey.{Rekeyed, rekey_enter, rekey_leave, rekey_other, rekey_row}
use Rattle.rows.specs.Promise.{Keyed}
use Rattle.table.specs.Buckets.{bucket_of}
use Rattle.table.specs.Entering.{Entered}
use Rattle.table.specs.Leaving.{Departed}

module _ (n m : ℕ) (rs ts : List ℕ) (ns : List Term) (roots : List ℕ) (memo : List (Term × ℕ)) (D : Nodes n m rs ts ns roots memo) (i : ℕ) (k : Term) where
  module _ (low : i < length ns) (is_key : k ≡ canon roots (node ns i)) (idem : (c : ℕ) → root roots (root roots c) ≡ root roots c)
      (own : (k' : Term) → Live roots k' → kept k' memo ≡ Some i → k' ≡ k) where
    key_live : Live roots k
    key_live = rw is_key (canon_live roots (node ns i) idem)

    -- from where the id that has the key is out
    rekey_rest : (rs' ts₁ ts₂ ts₃ : List ℕ) (c : Result Bool Broken) (q : Result Unit Broken) (r : Result Unit Broken) → Vacant n ts₁ D.keys D.buckets i k
        → Departed ts₁ ts₂ n (bucket_of n (term_at D.keys i)) i c → Keyed rs rs' n m i k q → Entered ts₂ ts₃ n (bucket_of n k) i r
        → Rekeyed n m rs' ts₃ ns roots ((k, i) ∷ memo) (set D.keys i k) c q r
    rekey_rest rs' ts₁ ts₂ ts₃ c q r W P K E =
        let a = rekey_leave n ts₁ ts₂ D.keys D.buckets i k c W P in
        let b = rekey_row n m rs ts ns roots memo D i k rs' q low is_key K in
        let d = rekey_enter n m rs ts ns roots memo D i k rs' ts₂ ts₃ r low own b.1 a.1 E in
        record { left = a.0; keyed = b.0; entered = d.0; nodes = d.1; keys_are = d.2 }

    -- the table had no id for the key, or i itself
    pub nodes_rekey_alone : (rs' ts₁ ts₂ : List ℕ) (c : Result Bool Broken) (q : Result Unit Broken) (r : Result Unit Broken) → (kept k memo ≡ None) ⊎ (kept k memo ≡ Some i)
        → Departed ts ts₁ n (bucket_of n (term_at D.keys i)) i c → Keyed rs rs' n m i k q → Entered ts₁ ts₂ n (bucket_of n k) i r
        → Rekeyed n m rs' ts₂ ns roots ((k, i) ∷ memo) (set D.keys i k) c q r
    nodes_rekey_alone rs' ts₁ ts₂ c q r o P K E = rekey_rest rs' ts ts₁ ts₂ c q r (vacant_alone n m rs ts ns roots memo D i k key_live o) P K E

    -- the table had the id j, which leaves first
    pub nodes_rekey_other : (j : ℕ) (rs' ts₁ ts₂ ts₃ : List ℕ) (b c : Result Bool Broken) (q : Result Unit Broken) (r : Result Unit Broken) → kept k memo ≡ Some j
        → Departed ts ts₁ n (bucket_of n k) j b → Departed ts₁ ts₂ n (bucket_of n (term_at D.keys i)) i c → Keyed rs rs' n m i k q
        → Entered ts₂ ts₃ n (bucket_of n k) i r → (b ≡ Ok true) × Rekeyed n m rs' ts₃ ns roots ((k, i) ∷ memo) (set D.keys i k) c q r
    nodes_rekey_other j rs' ts₁ ts₂ ts₃ b c q r f P Q K E =
        let v = rekey_other n m rs ts ns roots memo D i k j ts₁ b key_live f P in
        (v.0, rekey_rest rs' ts₁ ts₂ ts₃ c q r v.1 Q K E)
