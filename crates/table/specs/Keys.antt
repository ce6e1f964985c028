-- A table whose keys change: an id that is not held may have any key, and one more id may come. A cleared pool holds the empty table,
-- and the words settle the buckets.
-- Assumes nothing.
use Rattle.std.specs.Prelude.{List, [], ◌++◌, ◌∷◌, ◌≡◌, ◌≤◌, ℕ, length, replicate, set}
use Rattle.std.proofs.Common.{◌∙◌, ap, subst, sym, arith, length-set, get_or-set_other}
use Rattle.std.proofs.Math.ListN.{get_or-append}
use Rattle.lists.specs.Reads.{at, length_more}
use Rattle.language.specs.Term.{Term, term_at}
use Rattle.cells.specs.Empty.{Cleared, cleared_pool, empty_all}
use Rattle.cells.specs.Pool.{row}
use Rattle.cells.specs.Rows.{determined}
use Rattle.table.specs.Buckets.{bucket_of}
use Rattle.table.specs.Table.{Held, Table, held_at}

-- other keys that agree on what is held
pub table_agree : (ts : List ℕ) (n : ℕ) (ks ls : List Term) (L : List (List ℕ)) → Table ts n ks L → ((y : ℕ) → Held L y → term_at ls y ≡ term_at ks y)
    → length ks ≤ length ls → Table ts n ls L
table_agree ts n ks ls L t same more = record {
  pool = t.pool;
  home = λ a i h. ap (bucket_of n) (same (at (row L a) i) (held_at L a i h)) ∙ t.home a i h;
  once = λ x y h k e. t.once x y h k (sym (same x h) ∙ e ∙ same y k);
  low = λ x h. omega (arith, t.low x h);
}

-- the key of an id that is not in the table may change
pub table_rekey : (ts : List ℕ) (n : ℕ) (ks : List Term) (L : List (List ℕ)) (x : ℕ) (k : Term) → Table ts n ks L → (Held L x → ⊥) → Table ts n (set ks x k) L
table_rekey ts n ks L x k t f =
    table_agree ts n ks (set ks x k) L t
    (λ y h. get_or-set_other ks x y k (record { op = 0; payload = 0; kids = [] }) (λ e. f (subst (λ (z : ℕ). Held L z) e h)))
    (simp length-set (omega arith))

-- one more id, with any key
pub table_more : (ts : List ℕ) (n : ℕ) (ks : List Term) (L : List (List ℕ)) (k : Term) → Table ts n ks L → Table ts n (ks ++ (k ∷ [])) L
table_more ts n ks L k t =
    table_agree ts n ks (ks ++ (k ∷ [])) L t
    (λ y h. get_or-append ks (k ∷ []) (record { op = 0; payload = 0; kids = [] }) y (t.low y h))
    (omega (arith, length_more ks k))

pub not_held_none : (n x : ℕ) → Held (replicate n []) x → ⊥
not_held_none n x h = empty_all n h.list h.place h.inside

pub table_none : (ts ts' : List ℕ) (n : ℕ) → Cleared ts ts' n n → Table ts' n [] (replicate n [])
table_none ts ts' n c = record {
  pool = cleared_pool ts ts' n n c;
  home = λ a i h. absurd (empty_all n a i h);
  once = λ x y h k e. absurd (not_held_none n x h);
  low = λ x h. absurd (not_held_none n x h);
}

pub table_determined : (ts : List ℕ) (n : ℕ) (ks ls : List Term) (L K : List (List ℕ)) → Table ts n ks L → Table ts n ls K → L ≡ K
table_determined ts n ks ls L K t u = determined ts n n L K t.pool u.pool
