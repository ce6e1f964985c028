-- A part of a list of words: the words from a up to e, and the list with other words in their place, as a part that was lent comes back.
-- Assumes nothing.
use Rattle.std.specs.Prelude.{List, [], ◌++◌, ◌∷◌, ◌≡◌, refl, ◌+◌, ◌-◌, ◌<◌, ◌≤◌, suc, zero, ℕ, drop, length, take}
use Rattle.std.proofs.Common.{append_assoc, ◌∙◌, ap, sym, arith, length-drop, length-take, take-append-drop, drop_at, drop-drop, ext_get_or, get_or-drop, get_or-take, length-take-le, take-add, take_at, take-take}
use Rattle.std.proofs.lemmas.List.{take-append-le}
use borrow.Rule.Slice.PartMut.{drop_put}
use Rattle.lists.specs.Reads.{at}

-- the words from a up to e
abbrev pub part : List ℕ → ℕ → ℕ → List ℕ
part ws a e = take (e - a) (drop a ws)

-- ws with ys in the place of the words from a up to e
abbrev pub with_part : List ℕ → ℕ → ℕ → List ℕ → List ℕ
with_part ws a e ys = take a ws ++ (ys ++ drop (e - a) (drop a ws))

pub part_length : (ws : List ℕ) (a e : ℕ) → e ≤ length ws → length (part ws a e) ≡ e - a
part_length ws a e h = length-take-le (e - a) (drop a ws) (simp length-drop (omega arith))

-- a part below a cut does not see past it
take_drop_take : (l : List ℕ) (k b n : ℕ) → b + n ≤ k → take n (drop b (take k l)) ≡ take n (drop b l)
take_drop_take l k zero n h = take-take n k l (omega arith)
take_drop_take [] zero (suc b) n h = refl
take_drop_take [] (suc k) (suc b) n h = refl
take_drop_take (x ∷ l) zero (suc b) n h = absurd (omega arith)
take_drop_take (x ∷ l) (suc k) (suc b) n h = take_drop_take l k b n (omega arith)

module _ (ws ys : List ℕ) (a e : ℕ) (ae : a ≤ e) (fits : e ≤ length ws) (as_long : length ys ≡ e - a) where
  pub part_same : part (with_part ws a e ys) a e ≡ ys
  part_same = rw (drop_at (take a ws) (ys ++ drop (e - a) (drop a ws)) a (length-take-le a ws (omega arith)), take_at ys (drop (e - a) (drop a ws)) (e - a))

  pub part_before : (b d : ℕ) → b ≤ d → d ≤ a → part (with_part ws a e ys) b d ≡ part ws b d
  part_before b d bd h =
      sym (take_drop_take (with_part ws a e ys) a b (d - b) (omega arith))
      ∙ ap (λ (l : List ℕ). take (d - b) (drop b l)) (take_at (take a ws) (ys ++ drop (e - a) (drop a ws)) a (length-take-le a ws (omega arith)))
      ∙ take_drop_take ws a b (d - b) (omega arith)

  pub part_after : (b d : ℕ) → e ≤ b → part (with_part ws a e ys) b d ≡ part ws b d
  part_after b d h =
      ap (λ (n : ℕ). take (d - b) (drop n (with_part ws a e ys))) (sym at_b)
      ∙ ap (λ (l : List ℕ). take (d - b) l) past
      ∙ ap (λ (n : ℕ). take (d - b) (drop n ws)) at_b
    where
      at_b : e + (b - e) ≡ b
      at_b = omega arith

      past : drop (e + (b - e)) (with_part ws a e ys) ≡ drop (e + (b - e)) ws
      past = sym (drop-drop (b - e) e (with_part ws a e ys)) ∙ ap (λ (l : List ℕ). drop (b - e) l) (drop_put a e ws ys ae fits as_long) ∙ drop-drop (b - e) e ws

  pub drop_after : (b : ℕ) → e ≤ b → drop b (with_part ws a e ys) ≡ drop b ws
  drop_after b h =
      let at_b : e + (b - e) ≡ b = omega arith in
      rw (← at_b) (sym (drop-drop (b - e) e (with_part ws a e ys)) ∙ ap (λ (l : List ℕ). drop (b - e) l) (drop_put a e ws ys ae fits as_long) ∙ drop-drop (b - e) e ws)

  pub take_before : (b : ℕ) → b ≤ a → take b (with_part ws a e ys) ≡ take b ws
  take_before b h =
      take-append-le b (take a ws) (ys ++ drop (e - a) (drop a ws)) (rw (length-take-le a ws (omega arith)) h) ∙ take-take b a ws h

-- a list that stands in another from a place on is that part of it
pub part_is : (ws xs : List ℕ) (p : ℕ) → p + length xs ≤ length ws → ((j : ℕ) → j < length xs → at ws (p + j) ≡ at xs j) → take (length xs) (drop p ws) ≡ xs
part_is ws xs p h same =
    let l : length (take (length xs) (drop p ws)) ≡ length xs = simp (length-take, length-drop) (omega arith) in
    ext_get_or 0 (take (length xs) (drop p ws)) xs l (λ i k. let q : i < length xs = omega arith in get_or-take (length xs) (drop p ws) i 0 q ∙ get_or-drop p ws i 0 ∙ same i q)

-- ---- two parts side by side

module _ (ws : List ℕ) (a b e : ℕ) (ab : a ≤ b) (be : b ≤ e) where
  from_to : a + (b - a) ≡ b
  from_to = omega arith

  pub part_join : part ws a b ++ part ws b e ≡ part ws a e
  part_join =
      let d : drop b ws ≡ drop (b - a) (drop a ws) = sym (drop-drop (b - a) a ws ∙ ap (λ (k : ℕ). drop k ws) from_to) in
      let s : e - a ≡ (b - a) + (e - b) = omega arith in
      rw (d, s) (sym (take-add (b - a) (e - b) (drop a ws)))

  -- ys with the first half as it was: only the second half came back changed
  pub with_part_tail : (ys : List ℕ) → take (b - a) ys ≡ part ws a b → with_part ws a e ys ≡ with_part ws b e (drop (b - a) ys)
  with_part_tail ys h =
      let k : b + (e - b) ≡ a + (e - a) = omega arith in
      let d : drop (e - b) (drop b ws) ≡ drop (e - a) (drop a ws) = drop-drop (e - b) b ws ∙ rw k (sym (drop-drop (e - a) a ws)) in
      let t : take b ws ≡ take a ws ++ take (b - a) ys =
      ap (λ (k : ℕ). take k ws) (sym from_to) ∙ take-add a (b - a) ws ∙ ap (λ (l : List ℕ). take a ws ++ l) (sym h) in
      let y : take (b - a) ys ++ drop (b - a) ys ≡ ys = take-append-drop (b - a) ys in
      rw (d, t) (ap (λ (l : List ℕ). take a ws ++ (l ++ drop (e - a) (drop a ws))) (sym y) ∙ simp append_assoc)

  -- the first half is as it was where each of its words is
  pub take_part : (ys : List ℕ) → e ≤ length ws → length ys ≡ e - a → ((j : ℕ) → j < b - a → at ys j ≡ at (part ws a e) j) → take (b - a) ys ≡ part ws a b
  take_part ys f l h =
      let x : length (take (b - a) ys) ≡ b - a = length-take-le (b - a) ys (omega arith) in
      ext_get_or 0 (take (b - a) ys) (part ws a b) (x ∙ sym (part_length ws a b (omega arith)))
      (λ j k.
      let i : j < b - a = omega arith in
      get_or-take (b - a) ys j 0 i
      ∙ h j i
      ∙ get_or-take (e - a) (drop a ws) j 0 (omega arith)
      ∙ sym (get_or-take (b - a) (drop a ws) j 0 i))

-- ---- the front

-- two lists of one length have the same front where they agree at every index of it
pub take_same : (us ws : List ℕ) (k : ℕ) → length us ≡ length ws → ((j : ℕ) → j < k → at us j ≡ at ws j) → take k us ≡ take k ws
take_same us ws k e h = ext_get_or 0 (take k us) (take k ws) (simp length-take (rw e refl)) (λ j b. let q : j < k = omega (arith, length-take k us) in get_or-take k us j 0 q ∙ h j q ∙ sym (get_or-take k ws j 0 q))
