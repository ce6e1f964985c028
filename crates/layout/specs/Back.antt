-- The words of which one part came back changed, and the view of words of which the head did. (`back_view` of proofs, Back, is the view where a part did.)
-- Assumes nothing.
use Rattle.std.specs.Prelude.{List, ◌++◌, ◌≡◌, ◌+◌, ◌-◌, ◌≤◌, ℕ, drop, length, refl, take}
use Rattle.std.proofs.Common.{append_assoc, ◌∙◌, ap, sym, arith, drop-drop, length-append, length-take-le, take-take}
use Rattle.std.proofs.Math.Seq.{take-append-add}
use Rattle.std.proofs.lemmas.List.{drop-take}
use Rattle.lists.specs.Parts.{drop_after, part_after, with_part}
use Rattle.layout.specs.Cut.{Part, forest, lower, members, need, owners, pending, rows, scratch, sorting, table, upper, uses}
use Rattle.layout.specs.View.{hd, put_head, view}

-- ws with ys in the place of part k
abbrev pub back : ℕ → ℕ → Part → List ℕ → List ℕ → List ℕ
back n m k ws ys = with_part ws (lower k n m) (upper k n m) ys

-- the front of a list into which ys were put is the front of the list with ys put into it
front : (k a e : ℕ) (ws ys : List ℕ) → a ≤ e → e ≤ k → k ≤ length ws → length ys ≡ e - a
    → take k (with_part ws a e ys) ≡ with_part (take k ws) a e ys
front k a e ws ys ae ek kl l =
    let m : ℕ = k - e in
    let d : List ℕ = drop (e - a) (drop a ws) in
    let x : length (take a ws ++ ys) + m ≡ k = omega (arith, length-append (take a ws) ys, length-take-le a ws (omega arith)) in
    let n : (a + (e - a)) + m ≡ k = omega arith in
    let r : drop (e - a) (drop a (take k ws)) ≡ take m d =
    drop-drop (e - a) a (take k ws) ∙ ap (λ (j : ℕ). drop (a + (e - a)) (take j ws)) (sym n) ∙ drop-take (a + (e - a)) m ws
    ∙ ap (λ (z : List ℕ). take m z) (sym (drop-drop (e - a) a ws)) in
    ap (λ (z : List ℕ). take k z) (sym (append_assoc (take a ws) ys d))
    ∙ ap (λ (j : ℕ). take j ((take a ws ++ ys) ++ d)) (sym x)
    ∙ take-append-add (take a ws ++ ys) d m
    ∙ append_assoc (take a ws) ys (take m d)
    ∙ rw (take-take a k ws (omega arith), r) refl

-- the words from a up to e came back as ys, and they are of the head
pub back_head : (n m a e : ℕ) (ws ys : List ℕ) → a ≤ e → e ≤ 32 → 32 ≤ length ws → length ys ≡ e - a
    → view n m (with_part ws a e ys) ≡ put_head (view n m ws) (with_part (hd ws) a e ys)
unfolding view hd
back_head n m a e ws ys ae h f l =
    let fit : e ≤ length ws = omega arith in
    rw (
      front 32 a e ws ys ae h f l,
      part_after ws ys a e ae fit l (lower forest n m) (upper forest n m) (omega arith),
      part_after ws ys a e ae fit l (lower rows n m) (upper rows n m) (omega arith),
      part_after ws ys a e ae fit l (lower sorting n m) (upper sorting n m) (omega arith),
      part_after ws ys a e ae fit l (lower uses n m) (upper uses n m) (omega arith),
      part_after ws ys a e ae fit l (lower owners n m) (upper owners n m) (omega arith),
      part_after ws ys a e ae fit l (lower members n m) (upper members n m) (omega arith),
      part_after ws ys a e ae fit l (lower table n m) (upper table n m) (omega arith),
      part_after ws ys a e ae fit l (lower pending n m) (upper pending n m) (omega arith),
      part_after ws ys a e ae fit l (lower scratch n m) (upper scratch n m) (omega arith),
      drop_after ws ys a e ae fit l (need n m) (omega arith),
    )
