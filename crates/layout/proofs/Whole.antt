-- The view has all the words: words with one view are the same words.
-- Assumes nothing.
use Rattle.std.specs.Prelude.{List, ◌++◌, ◌≡◌, ◌+◌, ◌-◌, ◌≤◌, ℕ, drop}
use Rattle.std.proofs.Common.{◌∙◌, subst, arith, take-append-drop, drop-drop}
use Rattle.std.proofs.Math.Path.{ap, sym}
use Rattle.std.proofs.Math.ListN.{take}
use Rattle.lists.specs.Parts.{part}
use Rattle.layout.specs.Cut.{Part, forest, rows, sorting, uses, owners, members, table, pending, scratch, lower, need, upper, upper_is}
use Rattle.layout.specs.View.{View, get, get_part, hd, view, view_head, view_rest}

-- from a on, the words are those up to b and those from b on
seam : (ws : List ℕ) (a b : ℕ) → a ≤ b → part ws a b ++ drop b ws ≡ drop a ws
seam ws a b h =
    let s : a + (b - a) ≡ b = omega arith in
    let d : drop b ws ≡ drop (b - a) (drop a ws) = sym (drop-drop (b - a) a ws ∙ ap (λ (k : ℕ). drop k ws) s) in
    rw d (take-append-drop (b - a) (drop a ws))

module _ (n m : ℕ) (ws ws' : List ℕ) (same : view n m ws ≡ view n m ws') where
  -- one part more, from the back
  step : (k : Part) (e : ℕ) → e ≡ upper k n m → drop e ws ≡ drop e ws' → drop (lower k n m) ws ≡ drop (lower k n m) ws'
  step k e q d =
      let le : lower k n m ≤ upper k n m = omega (arith, upper_is k n m) in
      let p : part ws (lower k n m) (upper k n m) ≡ part ws' (lower k n m) (upper k n m) =
      sym (get_part k n m ws) ∙ ap (get k) same ∙ get_part k n m ws' in
      let u : drop (upper k n m) ws ≡ drop (upper k n m) ws' = subst (λ (j : ℕ). drop j ws ≡ drop j ws') q d in
      sym (seam ws (lower k n m) (upper k n m) le) ∙ rw (p, u) (seam ws' (lower k n m) (upper k n m) le)

  tails : drop 32 ws ≡ drop 32 ws'
  tails =
      let end : drop (need n m) ws ≡ drop (need n m) ws' = sym (view_rest n m ws) ∙ ap (λ (v : View). v.rest) same ∙ view_rest n m ws' in
      let d8 = step scratch (need n m) (omega arith) end in
      let d7 = step pending (lower scratch n m) (omega arith) d8 in
      let d6 = step table (lower pending n m) (omega arith) d7 in
      let d5 = step members (lower table n m) (omega arith) d6 in
      let d4 = step owners (lower members n m) (omega arith) d5 in
      let d3 = step uses (lower owners n m) (omega arith) d4 in
      let d2 = step sorting (lower uses n m) (omega arith) d3 in
      let d1 = step rows (lower sorting n m) (omega arith) d2 in
      step forest (lower rows n m) (omega arith) d1

  pub view_whole : ws ≡ ws'
  unfolding hd
  view_whole =
      let h : take 32 ws ≡ take 32 ws' = sym (view_head n m ws) ∙ ap (λ (v : View). v.head) same ∙ view_head n m ws' in
      sym (take-append-drop 32 ws) ∙ rw (h, tails) (take-append-drop 32 ws')
