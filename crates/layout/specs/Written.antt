-- The head as it is written: `written` is the head in which the numbers of a struct stand, `numbers` its inverse, and `fresh_head` that of a fresh graph.
-- `Noted` says of words that nothing but their head has changed.
-- Assumes nothing.
use Rattle.std.specs.Int.{from_bool}
use Rattle.std.specs.Prelude.{◌-◌, Bool, false, true, List, [], ◌++◌, ◌∷◌, ◌≡◌, refl, ◌≤◌, ℕ, eqb, drop, length, replicate, take}
use Rattle.std.proofs.Common.{◌∙◌, ap, subst, sym, arith, length-drop, length-take-le}
use Rattle.std.proofs.lemmas.List.{drop_all}
use borrow.Rule.Slice.PartMut.{same_len_mid}
use Rattle.lists.specs.Parts.{part_length, with_part}
use Rattle.lists.specs.Reads.{at}
use Rattle.layout.specs.Back.{back_head}
use Rattle.layout.specs.Head.{HeadIs, HeadOk, numbers}
use Rattle.layout.specs.View.{View, hd, hd_length, put_head, view, view_head}
use Rattle.layout.specs.declared.Head.{Head}

-- the head h with the numbers of s in the first seven words; the spare words stay
unfoldable pub written : List ℕ → Head → List ℕ
written h s = s.n ∷ s.m ∷ s.ids ∷ s.places ∷ s.depth ∷ s.classes ∷ from_bool s.clean ∷ drop 7 h

-- the numbers of a fresh graph
abbrev pub fresh_numbers : ℕ → ℕ → Head
fresh_numbers n m = record { n = n; m = m; ids = 0; places = 0; depth = 0; classes = 0; clean = false }

-- the head of a fresh graph: all spare words are 0
unfoldable pub fresh_head : ℕ → ℕ → List ℕ
fresh_head n m = n ∷ m ∷ replicate 30 0

-- only the head has changed, to h
pub record Noted (ws ws' h : List ℕ) : Type 0 where
  pub size : length ws' ≡ length ws
  pub else : (n m : ℕ) → view n m ws' ≡ put_head (view n m ws) h

-- ---- the head written

-- what was written is read back
pub numbers_written : (h : List ℕ) (s : Head) → numbers (written h s) ≡ s
unfolding numbers written
numbers_written h s = go s.clean
  where
    go : (b : Bool) → ◌≡◌ {A = Head}
        (record { n = s.n; m = s.m; ids = s.ids; places = s.places; depth = s.depth; classes = s.classes; clean = eqb (from_bool b) 1 })
        (record { n = s.n; m = s.m; ids = s.ids; places = s.places; depth = s.depth; classes = s.classes; clean = b })
    go true = refl
    go false = refl

pub flag_written : (h : List ℕ) (s : Head) → at (written h s) 6 ≤ 1
unfolding written
flag_written h s = go s.clean
  where
    go : (b : Bool) → from_bool b ≤ 1
    go true = omega arith
    go false = omega arith

pub head_written : (len : ℕ) (h : List ℕ) (s : Head) → HeadOk len s → HeadIs len (written h s) s
head_written len h s o = record { is = sym (numbers_written h s); flag = flag_written h s; ok = o }

-- the spare words are as they were
pub spare_written : (h : List ℕ) (s : Head) → drop 7 (written h s) ≡ drop 7 h
unfolding written
spare_written h s = refl

-- of two heads written the second stays
pub written_twice : (h : List ℕ) (s t : Head) → written (written h s) t ≡ written h t
unfolding written
written_twice h s t = refl

pub length_written : (h : List ℕ) (s : Head) → 7 ≤ length h → length (written h s) ≡ length h
unfolding written
length_written h s l = simp length-drop (omega arith)

-- ---- words put into the head

pub noted_hd : {ws ws' h : List ℕ} → Noted ws ws' h → hd ws' ≡ h
noted_hd {ws} {ws'} t = sym (view_head 0 0 ws') ∙ ap (λ (x : View). x.head) (t.else 0 0)

-- of two heads the second stays
pub noted_then : {ws ws1 ws2 h h2 : List ℕ} → Noted ws ws1 h → Noted ws1 ws2 h2 → Noted ws ws2 h2
noted_then {h2 = h2} s t = record { size = t.size ∙ s.size; else = λ n m. t.else n m ∙ ap (λ (x : View). put_head x h2) (s.else n m) }

-- in a chain: over the view v that the words are known to have
pub noted_next : (n m : ℕ) (ws ws' : List ℕ) (s : Head) (v : View) → Noted ws ws' (written (hd ws) s) → view n m ws ≡ v → view n m ws' ≡ put_head v (written v.head s)
noted_next n m ws ws' s v t e =
    let h : hd ws ≡ v.head = sym (view_head n m ws) ∙ ap (λ (x : View). x.head) e in
    t.else n m ∙ rw (e, h) refl

-- a head that was written is the head
pub noted_is : {ws ws' h : List ℕ} {s : Head} → Noted ws ws' h → HeadIs (length ws) h s → HeadIs (length ws') (hd ws') s
noted_is t q = rw (noted_hd t, t.size) q

-- the words from a up to e of the head came back as ys
noted_part : (a e : ℕ) (ws ys : List ℕ) → a ≤ e → e ≤ 32 → 32 ≤ length ws → length ys ≡ e - a → Noted ws (with_part ws a e ys) (with_part (hd ws) a e ys)
noted_part a e ws ys ae h f l = record {
  size = same_len_mid a (e - a) ws ys (l ∙ sym (part_length ws a e (omega arith)));
  else = λ n m. back_head n m a e ws ys ae h f l;
}

-- the seven words of `write_head`
pub noted_written : (ws ys : List ℕ) (s : Head) (b : ℕ)
    → 32 ≤ length ws → ys ≡ s.n ∷ s.m ∷ s.ids ∷ s.places ∷ s.depth ∷ s.classes ∷ b ∷ [] → b ≡ from_bool s.clean
    → Noted ws (ys ++ drop 7 ws) (written (hd ws) s)
unfolding written
noted_written ws ys s b long e eb =
    subst (λ (x : ℕ). Noted ws (ys ++ drop 7 ws) (s.n ∷ s.m ∷ s.ids ∷ s.places ∷ s.depth ∷ s.classes ∷ x ∷ drop 7 (hd ws))) eb
    (subst (λ (l : List ℕ). Noted ws (ys ++ drop 7 ws) (l ++ drop 7 (hd ws))) e (noted_part 0 7 ws ys (omega arith) (omega arith) long (ap length e)))

-- ---- the head of a fresh graph

pub fresh_is : (len n m : ℕ) → HeadOk len (fresh_numbers n m) → HeadIs len (fresh_head n m) (fresh_numbers n m)
unfolding numbers fresh_head
fresh_is len n m o = record { is = refl; flag = omega arith; ok = o }

pub fresh_length : (n m : ℕ) → length (fresh_head n m) ≡ 32
unfolding fresh_head
fresh_length n m = refl

pub fresh_spare : (n m : ℕ) → drop 7 (fresh_head n m) ≡ replicate 25 0
unfolding fresh_head
fresh_spare n m = refl

-- the words of the head set to 0, and then the numbers written
pub noted_fresh : (ws ys ws2 : List ℕ) (n m : ℕ) → 32 ≤ length ws → ys ≡ replicate (length (take 32 ws)) 0
    → Noted (ys ++ drop 32 ws) ws2 (written (hd (ys ++ drop 32 ws)) (fresh_numbers n m)) → Noted ws ws2 (fresh_head n m)
unfolding written fresh_head
noted_fresh ws ys ws2 n m long e t =
    let y : ys ≡ replicate 32 0 = e ∙ ap (λ (k : ℕ). replicate k 0) (length-take-le 32 ws long) in
    let z = noted_part 0 32 ws ys (omega arith) (omega arith) long (ap length y) in
    let d : drop 7 (hd (ys ++ drop 32 ws)) ≡ replicate 25 0 =
    ap (λ (l : List ℕ). drop 7 l) (noted_hd z) ∙ rw (y, drop_all 32 (hd ws) (omega (arith, hd_length ws long))) in
    noted_then z (subst (λ (l : List ℕ). Noted (ys ++ drop 32 ws) ws2 (n ∷ m ∷ 0 ∷ 0 ∷ 0 ∷ 0 ∷ 0 ∷ l)) d t)
