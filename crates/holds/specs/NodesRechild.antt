-- What the end of a rebuild does to the rows for one id i whose key row is out of date: i leaves the table, where it can only stand under a dead key, and its
-- key row is set. The graph's table stays as it is.
-- Assumes nothing.
use Rattle.std.specs.Prelude.{Bool, Ok, Result, List, [], ◌≢◌, ◌≡◌, refl, ◌<◌, ℕ, length, set, Some}
use Rattle.broken.specs.declared.Broken.{Broken}
use Rattle.broken.specs.Words.{broken}
use Rattle.std.proofs.Common.{◌∙◌, ap, sym, arith, get_or-set_other}
use Rattle.language.specs.Term.{Term, term_at}
use Rattle.steps.specs.Graph.{canon, kept, node}
use Rattle.closure.specs.Tables.{Live}
use Rattle.holds.specs.Nodes.{Nodes}
use Rattle.holds.specs.NodesRekey.{rekey_row}
use Rattle.rows.specs.Promise.{Keyed}
use Rattle.rows.specs.Rows.{Rows}
use Rattle.table.specs.Buckets.{bucket_of}
use Rattle.table.specs.Keys.{table_agree}
use Rattle.table.specs.Leaving.{Departed, Without}
use Rattle.table.specs.Table.{Held, Table}

module _ (n m : ℕ) (rs ts : List ℕ) (ns : List Term) (roots : List ℕ) (memo : List (Term × ℕ)) (D : Nodes n m rs ts ns roots memo) (i : ℕ) (k : Term)
    (own : (k' : Term) → Live roots k' → kept k' memo ≡ Some i → k' ≡ k) (stale : term_at D.keys i ≢ k) where
  -- no live key leads to i
  not_kept : (k' : Term) (y : ℕ) → Live roots k' → kept k' memo ≡ Some y → y ≢ i
  not_kept k' y live e is =
      let f : kept k' memo ≡ Some i = e ∙ ap Some is in
      stale ((D.found k' i live f).1 ∙ own k' live f)

  pub nodes_rechild : (rs' ts' : List ℕ) (c : Result Bool Broken) (q : Result Unit Broken) → i < length ns → k ≡ canon roots (node ns i)
      → Departed ts ts' n (bucket_of n (term_at D.keys i)) i c → Keyed rs rs' n m i k q
      → (c ≢ broken) × (q ≡ Ok tt) × (D' : Nodes n m rs' ts' ns roots memo) × (D'.keys ≡ set D.keys i k)
  nodes_rechild rs' ts' c q low is_key P K =
      (P.sound D.keys D.buckets D.table refl, row.0, record { keys = ks; rows = row.1; buckets = w.lists; table = t; found = found; only = only }, refl)
    where
      ks : List Term
      ks = set D.keys i k

      row : (q ≡ Ok tt) × Rows rs' n m ns ks
      row = rekey_row n m rs ts ns roots memo D i k rs' q low is_key K

      w : Without ts' n D.keys D.buckets i
      w = P.law D.keys D.buckets D.table refl

      not_i : (y : ℕ) → Held w.lists y → y ≢ i
      not_i y h e = w.drops.gone (rw e at h)

      same : (y : ℕ) → y ≢ i → term_at ks y ≡ term_at D.keys y
      same y ne = get_or-set_other D.keys i y k (record { op = 0; payload = 0; kids = [] }) ne

      t : Table ts' n ks w.lists
      t = table_agree ts' n D.keys ks w.lists w.table (λ y h. same y (not_i y h)) (omega (arith, D.rows.keys, row.1.keys))

      found : (k' : Term) (y : ℕ) → Live roots k' → kept k' memo ≡ Some y → Held w.lists y × (term_at ks y ≡ k')
      found k' y live e =
          let h = D.found k' y live e in
          let ne = not_kept k' y live e in
          (w.drops.stays y h.0 ne, same y ne ∙ h.1)

      only : (k' : Term) (y : ℕ) → Live roots k' → Held w.lists y → term_at ks y ≡ k' → kept k' memo ≡ Some y
      only k' y live h e = D.only k' y live (w.drops.from y h) (sym (same y (not_i y h)) ∙ e)
