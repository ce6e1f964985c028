-- Which cells are in no list, after each change, and cells that are handed out in order.
-- Assumes nothing.
use Rattle.std.specs.Prelude.{List, [], ◌≢◌, ◌⊎◌, ◌≡◌, ◌<◌, ◌≤◌, suc, ℕ, length, replicate}
use Rattle.std.proofs.Common.{inl, inr, ◌∙◌, sym, arith}
use Rattle.lists.specs.Reads.{at}
use Rattle.cells.specs.Empty.{empty_all, empty_from}
use Rattle.cells.specs.Join.{join_from}
use Rattle.cells.specs.Pool.{Apart, Free, Under, empty_l, join_l, push_l, remove_l, row}
use Rattle.cells.specs.Push.{FromPush, push_from}
use Rattle.cells.specs.Remove.{remove_from}

-- ---- free cells

pub free_push : (L : List (List ℕ)) (a c d : ℕ) → a < length L → Free L d → d ≢ c → Free (push_l L a c) d
free_push L a c d h f ne = record { none = λ x i k. go x i (push_from L a c h x i k) }
  where
    go : (x i : ℕ) {v : ℕ} → FromPush L a c x i v → v ≢ d
    go x i (inl s) e = ne (sym e ∙ s.2)
    go x i (inr s) e = f.none x i s.0 (sym s.1 ∙ e)

pub free_join : (L : List (List ℕ)) (a c d : ℕ) → a < length L → c < length L → a ≢ c → Free L d → Free (join_l L a c) d
free_join L a c d h k ne f = record {
  none = λ x i l e. let s = join_from L a c h k ne x i l in f.none s.y s.j s.inside (sym s.same ∙ e);
}

pub free_remove : (L : List (List ℕ)) (a q d : ℕ) → a < length L → q < length (row L a) → Free L d → Free (remove_l L a q) d
free_remove L a q d h k f = record {
  none = λ x i l e. let s = remove_from L a q h k x i l in f.none x s.j s.inside (sym s.same ∙ e);
}

-- what was removed is free
pub free_removed : (L : List (List ℕ)) (a q : ℕ) → a < length L → q < length (row L a) → Apart L → Free (remove_l L a q) (at (row L a) q)
free_removed L a q h k p = record { none = λ x i l e. go x i l e }
  where
    how : (x i j : ℕ) → x ≡ a → j ≡ q → ((x ≡ a) × (i < q) × (j ≡ i)) ⊎ (((x ≡ a) × (q ≤ i) × (j ≡ suc i)) ⊎ ((x ≢ a) × (j ≡ i))) → ⊥
    how x i j e f (inl s) = omega arith
    how x i j e f (inr (inl s)) = omega arith
    how x i j e f (inr (inr s)) = omega arith

    go : (x i : ℕ) → i < length (row (remove_l L a q) x) → at (row (remove_l L a q) x) i ≢ at (row L a) q
    go x i l e =
        let s = remove_from L a q h k x i l in
        let w = p.once x s.j a q s.inside k (sym s.same ∙ e) in
        how x i s.j w.0 w.1 s.how

pub free_empty : (L : List (List ℕ)) (a d : ℕ) → a < length L → Free L d → Free (empty_l L a) d
free_empty L a d h f = record { none = λ x i k e. let s = empty_from L a h x i k in f.none x i s.1 (sym s.2 ∙ e) }

-- the cells of a list that was given up are free
pub free_emptied : (L : List (List ℕ)) (a j : ℕ) → a < length L → j < length (row L a) → Apart L → Free (empty_l L a) (at (row L a) j)
free_emptied L a j h l p = record { none = λ x i k e. let s = empty_from L a h x i k in s.0 (p.once x i a j s.1 l (sym s.2 ∙ e)).0 }

pub free_none : (n c : ℕ) → Free (replicate n []) c
free_none n c = record { none = λ a i k. absurd (empty_all n a i k) }

-- ---- cells that are handed out in order

pub under_free : (L : List (List ℕ)) (u c : ℕ) → Under L u → u ≤ c → Free L c
under_free L u c h l = record { none = λ a i k e. omega (arith, h.all a i k) }

pub under_push : (L : List (List ℕ)) (a u : ℕ) → a < length L → Under L u → Under (push_l L a u) (suc u)
under_push L a u h f = record { all = λ x i k. go x i (push_from L a u h x i k) }
  where
    go : (x i : ℕ) {v : ℕ} → FromPush L a u x i v → v < suc u
    go x i (inl s) = omega arith
    go x i (inr s) = omega (arith, f.all x i s.0)

pub under_join : (L : List (List ℕ)) (a c u : ℕ) → a < length L → c < length L → a ≢ c → Under L u → Under (join_l L a c) u
under_join L a c u h k ne f = record {
  all = λ x i l. let s = join_from L a c h k ne x i l in omega (arith, s.same, f.all s.y s.j s.inside);
}

pub under_remove : (L : List (List ℕ)) (a q u : ℕ) → a < length L → q < length (row L a) → Under L u → Under (remove_l L a q) u
under_remove L a q u h k f = record {
  all = λ x i l. let s = remove_from L a q h k x i l in omega (arith, s.same, f.all x s.j s.inside);
}

pub under_empty : (L : List (List ℕ)) (a u : ℕ) → a < length L → Under L u → Under (empty_l L a) u
under_empty L a u h f = record { all = λ x i k. let s = empty_from L a h x i k in omega (arith, s.2, f.all x i s.1) }

pub under_none : (n u : ℕ) → Under (replicate n []) u
under_none n u = record { all = λ a i k. absurd (empty_all n a i k) }
