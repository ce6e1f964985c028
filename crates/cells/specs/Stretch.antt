-- A stretch (last cell, count): a run of neighbours in one list, named by two words. It stays what it is through every push and join,
-- and is taken apart from its end, one link at a time. So a stack of stretches can hold the cells of lists that were joined away.
-- Assumes nothing.
use Rattle.std.specs.Prelude.{List, [], ◌++◌, ◌∷◌, ◌≢◌, ◌≡◌, refl, ◌+◌, ◌<◌, ◌≤◌, suc, ℕ, length, take}
use Rattle.std.proofs.Common.{⊎_elim, ◌∙◌, ap, subst, sym, arith, length-append, ext_get_or, get_or-take, length-take-le}
use Rattle.lists.specs.Reads.{at, at_left, at_right}
use Rattle.lists.specs.Tests.{eq_or}
use Rattle.cells.specs.Join.{join_at, join_cases}
use Rattle.cells.specs.Pool.{Apart, Pool, Under, join_l, push_l, row}
use Rattle.cells.specs.Push.{push_cases}
use Rattle.cells.specs.Rows.{is_list}

-- xs stands in zs from place i on
pub record Run (zs : List ℕ) (i : ℕ) (xs : List ℕ) : Type 0 where
  pub within : i + length xs ≤ length zs
  pub same : (k : ℕ) → k < length xs → at zs (i + k) ≡ at xs k

-- xs stands in one of the lists
pub record Part (L : List (List ℕ)) (xs : List ℕ) : Type 0 where
  pub list : ℕ
  pub from : ℕ
  pub run : Run (row L list) from xs

-- c is the last of the k cells xs
pub record Stretch (L : List (List ℕ)) (c k : ℕ) (xs : List ℕ) : Type 0 where
  pub part : Part L xs
  pub size : length xs ≡ k
  pub final : (i : ℕ) → suc i ≡ k → c ≡ at xs i

-- ---- a run stays a run

run_left : (zs ys xs : List ℕ) (i : ℕ) → Run zs i xs → Run (zs ++ ys) i xs
run_left zs ys xs i r = record {
  within = omega (arith, r.within, length-append zs ys);
  same = λ k h. at_left zs ys (i + k) (omega (arith, r.within)) ∙ r.same k h;
}

run_right : (zs ys xs : List ℕ) (i : ℕ) → Run ys i xs → Run (zs ++ ys) (length zs + i) xs
run_right zs ys xs i r = record {
  within = omega (arith, r.within, length-append zs ys);
  same = λ k h. at_right zs ys (length zs + i + k) (i + k) (omega arith) ∙ r.same k h;
}

-- ---- a part of a list

-- a whole list
pub part_list : (L : List (List ℕ)) (a : ℕ) → Part L (row L a)
part_list L a = record {
  list = a;
  from = 0;
  run = record { within = omega arith; same = λ k l. let e : 0 + k ≡ k = omega arith in ap (at (row L a)) e };
}

pub part_push : (L : List (List ℕ)) (a c : ℕ) (xs : List ℕ) → a < length L → Part L xs → Part (push_l L a c) xs
part_push L a c xs h p = record {
  list = p.list;
  from = p.from;
  run = push_cases (λ y zs. Run (row L y) p.from xs → Run zs p.from xs) L a c h
      (run_left (row L a) (c ∷ []) xs p.from) (λ y ne r. r) p.list p.run;
}

pub part_join : (L : List (List ℕ)) (a c : ℕ) (xs : List ℕ) → a < length L → c < length L → a ≢ c → Part L xs → Part (join_l L a c) xs
part_join L a c xs h k ne p =
    ⊎_elim
    (λ (e : p.list ≡ c). record {
      list = a;
      from = length (row L a) + p.from;
      run = rw (join_at L a c h ne) (run_right (row L a) (row L c) xs p.from (subst (λ (y : ℕ). Run (row L y) p.from xs) e p.run));
    })
    (λ (e : p.list ≢ c). record {
      list = p.list;
      from = p.from;
      run = join_cases (λ y zs. y ≢ c → Run (row L y) p.from xs → Run zs p.from xs) L a c h k
          (λ f r. absurd (f refl)) (λ f r. run_left (row L a) (row L c) xs p.from r) (λ y f g o r. r) p.list e p.run;
    })
    (eq_or p.list c)

pub part_under : (L : List (List ℕ)) (u : ℕ) (xs : List ℕ) → Under L u → Part L xs → (i : ℕ) → i < length xs → at xs i < u
part_under L u xs h p i l = rw (← p.run.same i l) (h.all p.list (p.from + i) (omega (arith, p.run.within)))

module _ (ws : List ℕ) (n m : ℕ) (L : List (List ℕ)) (xs : List ℕ) (p : Pool ws n m L) (q : Part L xs) where
  of_pool : (i : ℕ) → i < length xs → q.list < n
  of_pool i h = omega (arith, is_list L q.list q.from (omega (arith, q.run.within)), p.count)

  -- the cell before a cell of a run
  pub part_link : (i : ℕ) → suc i < length xs → at ws (n + n + n + at xs (suc i)) ≡ at xs i
  part_link i h =
      let r = q.run in
      let e : q.from + suc i ≡ suc (q.from + i) = omega arith in
      sym (ap (λ (c : ℕ). at ws (n + n + n + c)) (ap (at (row L q.list)) (sym e) ∙ r.same (suc i) h))
      ∙ (p.rows q.list (of_pool i (omega arith))).link (q.from + i) (omega (arith, r.within))
      ∙ r.same i (omega arith)

  pub part_low : (i : ℕ) → i < length xs → at xs i < m
  part_low i h =
      let r = q.run in
      rw (← r.same i h) ((p.rows q.list (of_pool i h)).low (q.from + i) (omega (arith, r.within)))

-- ---- a stretch

-- a whole list, as the words have it
pub stretch_list : (ws : List ℕ) (n m : ℕ) (L : List (List ℕ)) (a : ℕ) → Pool ws n m L → a < n
    → Stretch L (at ws a) (at ws (a + n + n)) (row L a)
stretch_list ws n m L a p h = record {
  part = part_list L a;
  size = sym (p.rows a h).size;
  final = λ i e. (p.rows a h).final i (omega (arith, (p.rows a h).size));
}

pub stretch_push : (L : List (List ℕ)) (a d c k : ℕ) (xs : List ℕ) → a < length L → Stretch L c k xs → Stretch (push_l L a d) c k xs
stretch_push L a d c k xs h s = record { part = part_push L a d xs h s.part; size = s.size; final = s.final }

pub stretch_join : (L : List (List ℕ)) (a d c k : ℕ) (xs : List ℕ) → a < length L → d < length L → a ≢ d → Stretch L c k xs
    → Stretch (join_l L a d) c k xs
stretch_join L a d c k xs h l ne s = record { part = part_join L a d xs h l ne s.part; size = s.size; final = s.final }

-- its last cell is a cell, and the link there leads to what is left
module _ (ws : List ℕ) (n m : ℕ) (L : List (List ℕ)) (p : Pool ws n m L) (c k : ℕ) (xs : List ℕ) (s : Stretch L c (suc k) xs) where
  pub stretch_low : c < m
  stretch_low = rw (s.final k refl) (part_low ws n m L xs p s.part k (omega (arith, s.size)))

  pub stretch_pop : Stretch L (at ws (n + n + n + c)) k (take k xs)
  stretch_pop =
      let len : length (take k xs) ≡ k = length-take-le k xs (omega (arith, s.size)) in
      let r = s.part.run in
      record {
        part = record {
          list = s.part.list;
          from = s.part.from;
          run = record {
            within = omega (arith, r.within, s.size);
            same = λ i h. r.same i (omega (arith, s.size)) ∙ sym (get_or-take k xs i 0 (omega arith));
          };
        };
        size = len;
        final = λ i e.
            ap (λ (z : ℕ). at ws (n + n + n + z)) (s.final k refl ∙ ap (at xs) (sym e))
            ∙ part_link ws n m L xs p s.part i (omega (arith, s.size))
            ∙ sym (get_or-take k xs i 0 (omega arith));
      }

-- a stretch of at least one cell is determined by its last cell and its length
pub stretch_determined : (L : List (List ℕ)) → Apart L → (c k : ℕ) (xs ys : List ℕ) → Stretch L c (suc k) xs → Stretch L c (suc k) ys → xs ≡ ys
stretch_determined L A c k xs ys s t =
    let r = s.part.run in
    let q = t.part.run in
    let ls = s.size in
    let lt = t.size in
    let wr = r.within in
    let wq = q.within in
    let e : at (row L s.part.list) (s.part.from + k) ≡ at (row L t.part.list) (t.part.from + k) =
    r.same k (omega arith) ∙ sym (s.final k refl) ∙ t.final k refl ∙ sym (q.same k (omega arith)) in
    let o = A.once s.part.list (s.part.from + k) t.part.list (t.part.from + k) (omega arith) (omega arith) e in
    let f : s.part.from ≡ t.part.from = omega arith in
    ext_get_or 0 xs ys (ls ∙ sym lt)
    (λ i h. sym (r.same i h) ∙ ap (λ (x : ℕ). at (row L x) (s.part.from + i)) o.0 ∙ ap (λ (x : ℕ). at (row L t.part.list) (x + i)) f ∙ q.same i (omega arith))
