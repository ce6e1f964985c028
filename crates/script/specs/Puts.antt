-- What putting bytes into a slice promises: they stand from a place on, the place behind them is answered, and every other byte is as it was. With it the laws of putting
-- one thing behind another, and how long a number is at most.
-- Assumes nothing.
use Rattle.std.specs.Prelude.{◌≡◌, refl, List, [], ◌∷◌, ◌++◌, ℕ, ◌+◌, ◌^◌, ◌≤◌, ◌<◌, length, get_or, take, decimal}
use Rattle.std.proofs.Common.{sym, ap, ◌∙◌, append_assoc, append-nil, add-one, arith, lit≤, length-append, take-suc}
use Rattle.std.proofs.lemmas.List.{drop-drop}
use Rattle.std.proofs.lemmas.List.Edits.{sets, sets-eq}
use borrow.Rule.Slice.PartMut.{put_mid}
use Rattle.std.proofs.Math.Seq.{length-sets}
use Rattle.std.proofs.lemmas.Fmt.{length-decimal-le}
use Rattle.lists.specs.Stores.{sets_append}
use Rattle.script.specs.Reply.{fed, word, words}

pub record Wrote (out : List ℕ) (at : ℕ) (bs : List ℕ) (r : ℕ) (out' : List ℕ) : Type 0 where
  pub text : out' ≡ sets out at bs
  pub next : r ≡ at + length bs
  pub fits : r ≤ length out

-- ---- a part of a slice, copied into

pub put_part : (out src new : List ℕ) (at n : ℕ) → new ≡ src → n ≡ length src → at + length src ≤ length out → Wrote out at src (at + length src) (put_mid at n out new)
put_part out src new at n e k h = record { text = rw (e, k, drop-drop (length src) at out) (sym (append_assoc (take at out) src _) ∙ sym (sets-eq src out at h)); next = refl; fits = h }

pub put_none : (out : List ℕ) (at : ℕ) → at ≤ length out → Wrote out at [] at out
put_none out at h = record { text = refl; next = omega arith; fits = h }

-- ---- one thing behind another

module _ {o : List ℕ} {at : ℕ} {bs : List ℕ} {r : ℕ} {o₁ : List ℕ} (w : Wrote o at bs r o₁) where
  pub wrote_size : length o₁ ≡ length o
  wrote_size = ap length w.text ∙ length-sets o at bs

  pub wrote_join : {cs : List ℕ} {q : ℕ} {o₂ : List ℕ} → Wrote o₁ r cs q o₂ → Wrote o at (bs ++ cs) q o₂
  wrote_join {cs} {q} {o₂} v = record {
    text = v.text ∙ rw (w.text, w.next) (sym (sets_append bs cs o at));
    next = omega (arith, v.next, w.next, length-append bs cs);
    fits = omega (arith, v.fits, wrote_size);
  }

-- ---- numbers

pub short_32 : (n : ℕ) → n < 2 ^ 32 → length (word n) ≤ 11
short_32 n h =
    let p : 2 ^ 32 ≤ 10 ^ 10 = lit≤ tt in
    omega (arith, length-decimal-le 10 n (lit≤ tt) (omega arith) (omega arith))

pub short_64 : (n : ℕ) → n < 2 ^ 64 → length (decimal n) ≤ 20
short_64 n h =
    let p : 2 ^ 64 ≤ 10 ^ 20 = lit≤ tt in
    length-decimal-le 20 n (lit≤ tt) (omega arith) h

pub word_done : (n : ℕ) {o : List ℕ} {at r : ℕ} {o₁ : List ℕ} {q : ℕ} {o₂ : List ℕ} → n < 2 ^ 64 → Wrote o at (32 ∷ []) r o₁ → Wrote o₁ r (decimal n) q o₂
    → Wrote o at (word n) q o₂ × ((q ≤ at + 21) × (n < 2 ^ 32 → q ≤ at + 11))
word_done n {q = q} h a b =
    (wrote_join a b, (omega (arith, a.next, b.next, short_64 n h), λ l. omega (arith, a.next, b.next, short_32 n l)))

-- ---- words

words_snoc : (ws : List ℕ) (w : ℕ) → words (ws ++ (w ∷ [])) ≡ words ws ++ word w
unfolding words
words_snoc [] w = append-nil (word w)
words_snoc (v ∷ ws) w = ap (λ (l : List ℕ). word v ++ l) (words_snoc ws w) ∙ sym (append_assoc (word v) (words ws) (word w))

pub words_none : (o ws : List ℕ) (at : ℕ) → at ≤ length o → Wrote o at (words (take 0 ws)) at o
unfolding words
words_none o ws at h = put_none o at h

pub words_more : (ws : List ℕ) (i w : ℕ) {o : List ℕ} {at r : ℕ} {o₁ : List ℕ} {q : ℕ} {o₂ : List ℕ} → i < length ws → w ≡ get_or ws i 0 → Wrote o at (words (take i ws)) r o₁ → Wrote o₁ r (word w) q o₂
    → Wrote o at (words (take (i + 1) ws)) q o₂
words_more ws i w l e a b = rw (add-one i, take-suc ws i 0 l, ← e, words_snoc (take i ws) w) (wrote_join a b)

-- ---- a size and a form

pub form_done : (n : ℕ) (ws : List ℕ) {o : List ℕ} {at r : ℕ} {o₁ : List ℕ} {q : ℕ} {o₂ : List ℕ} {u : ℕ} {o₃ : List ℕ} {v : ℕ} {o₄ : List ℕ}
    → Wrote o at (48 ∷ []) r o₁ → Wrote o₁ r (word n) q o₂ → Wrote o₂ q (words ws) u o₃ → Wrote o₃ u (10 ∷ []) v o₄ → Wrote o at (48 ∷ (word n ++ fed (words ws))) v o₄
form_done n ws a b c d = wrote_join a (wrote_join b (wrote_join c d))

-- ---- the line of a reply
