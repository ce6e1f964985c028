-- The walk in the scratch words: how its stack stands there, and what a store into the stack or into the listing leaves as it was. `Standing` says that the words hold
-- the walk on its way to a given listing, with the prices and marks by which it goes.
-- Assumes nothing.
use Rattle.std.specs.Prelude.{List, [], ◌∷◌, ◌≢◌, ◌⊎◌, ◌≡◌, ◌*◌, ◌+◌, ◌<◌, suc, ℕ, length, None}
use Rattle.std.proofs.Common.{inl, inr, ◌∙◌, sym, arith}
use Rattle.lists.specs.Reads.{at}
use Rattle.lists.specs.Stores.{puts, puts_hit, puts_miss}
use Rattle.lists.specs.Tests.{eq_or}
use Rattle.language.specs.Term.{Term}
use Rattle.steps.specs.Classes.{class_nodes, class_roots}
use Rattle.steps.specs.Graph.{Graph}
use Rattle.layout.specs.declared.Head.{Head}
use Rattle.price.specs.Chosen.{Backed, Ranked}
use Rattle.price.specs.Listing.{Listing, spot}
use Rattle.price.specs.Pass.{Table}
use Rattle.price.specs.Shown.{Fine, spot_here, spot_past}
use Rattle.price.specs.Size.{AstSize}
use Rattle.pricing.specs.Entries.{Prices}
use Rattle.pricing.specs.Laid.{Laid, class_at, class_here, class_past, place_word}
use Rattle.walking.specs.Way.{Way}

-- ---- the stack

-- the stack stands in the words from 5n on, the top last
abbrev pub Stacked : ℕ → List ℕ → List ℕ → Type 0
Stacked n ss [] = Unit {0}
Stacked n ss (c ∷ st) = (at ss (5 * n + length st) ≡ c) × Stacked n ss st

pub stacked_kept : (n : ℕ) (s s' st : List ℕ) → ((i : ℕ) → i < length st → at s' (5 * n + i) ≡ at s (5 * n + i)) → Stacked n s st → Stacked n s' st
stacked_kept n s s' [] h S = tt
stacked_kept n s s' (c ∷ st) h S = (h (length st) (omega arith) ∙ S.0, stacked_kept n s s' st (λ i l. h i (omega arith)) S.1)

-- ---- prices and marks

-- the prices and marks are as they were
abbrev pub Behind : ℕ → List ℕ → List ℕ → Type 0
Behind n s s' = (i : ℕ) → i < 3 * n → at s' i ≡ at s i

pub prices_kept : (g : Graph) (n : ℕ) (s s' : List ℕ) (t : Table ℕ) → Behind n s s' → Prices g n s t → Prices g n s' t
prices_kept g n s s' t h P = record { each = λ c l. rw (h (2 * n + c) (omega arith), h (2 * c) (omega arith), h (2 * c + 1) (omega arith)) (P.each c l) }

-- ---- the listing

pub laid_kept : (n : ℕ) (s s' : List ℕ) (l : Listing) → ((i : ℕ) → i < 5 * n → at s' i ≡ at s i) → Laid n s l → Laid n s' l
laid_kept n s s' l h L = record {
  few = L.few;
  places = λ c lt. h (3 * n + c) (omega arith) ∙ L.places c lt;
  classes = λ p lt. h (4 * n + p) (omega (arith, L.few)) ∙ L.classes p lt;
  low = L.low;
}

-- no class is listed
pub laid_none : (n : ℕ) (s : List ℕ) → ((c : ℕ) → c < n → at s (3 * n + c) ≡ 0) → Laid n s []
unfolding spot
laid_none n s h = record { few = omega arith; places = h; classes = λ p lt. absurd (omega arith); low = λ p lt. absurd (omega arith) }

-- what listing class c at place k stores
abbrev pub listing_stores : ℕ → ℕ → ℕ → List (ℕ × ℕ)
listing_stores n k c = (4 * n + k, c) ∷ (3 * n + c, k + 1) ∷ []

module _ (n : ℕ) (s s' : List ℕ) (l : Listing) (k c : ℕ) (x : Term) (size : length s ≡ 6 * n) (L : Laid n s l) (new : spot c l ≡ None) (hc : c < n) (hk : k < n) (is : length l ≡ k)
    (e : s' ≡ puts s (listing_stores n k c)) where
  place : (d : ℕ) → d < n → (d ≡ c) ⊎ (d ≢ c) → at s' (3 * n + d) ≡ place_word (spot d ((c, x) ∷ l))
  place d lt (inl q) =
      let a : at s' (3 * n + c) ≡ k + 1 = rw e (puts_hit (listing_stores n k c) s 1 (omega arith) (omega arith) tt) in
      rw (q, spot_here c x l, is) (a ∙ omega arith)
  place d lt (inr q) =
      let a : at s' (3 * n + d) ≡ at s (3 * n + d) = rw e (puts_miss (listing_stores n k c) s (3 * n + d) (omega arith)) in
      rw (spot_past d c x l q) (a ∙ L.places d lt)

  class : (p : ℕ) → p < suc (length l) → (p ≡ k) ⊎ (p ≢ k) → at s' (4 * n + p) ≡ class_at p ((c, x) ∷ l)
  class p lt (inl q) =
      let a : at s' (4 * n + k) ≡ c = rw e (puts_hit (listing_stores n k c) s 0 (omega arith) (omega arith) (omega arith)) in
      rw (q, class_here k c x l (sym is)) a
  class p lt (inr q) =
      let a : at s' (4 * n + p) ≡ at s (4 * n + p) = rw e (puts_miss (listing_stores n k c) s (4 * n + p) (omega arith)) in
      rw (class_past p c x l (λ w. q (w ∙ is))) (a ∙ L.classes p (omega arith))

  within : (p : ℕ) → p < suc (length l) → (p ≡ k) ⊎ (p ≢ k) → class_at p ((c, x) ∷ l) < n
  within p lt (inl q) = rw (q, class_here k c x l (sym is)) hc
  within p lt (inr q) = rw (class_past p c x l (λ w. q (w ∙ is))) (L.low p (omega arith))

  -- one class more
  pub laid_more : Laid n s' ((c, x) ∷ l)
  laid_more = record {
    few = omega arith;
    places = λ d lt. place d lt (eq_or d c);
    classes = λ p lt. class p lt (eq_or p k);
    low = λ p lt. within p lt (eq_or p k);
  }

-- ---- the walk

-- k classes are listed and d stand on the stack; to finish it leads to the listing m
pub record Standing (h : Head) (g : Graph) (t : Table ℕ) (B : Backed AstSize (class_nodes g) t) (K : Ranked AstSize (class_nodes g) t) (m : Listing) (ss : List ℕ) (k d : ℕ) : Type 0 where
  pub prices : Prices g h.n ss t
  pub now : Listing
  pub laid : Laid h.n ss now
  pub count : length now ≡ k
  pub stack : List ℕ
  pub stacked : Stacked h.n ss stack
  pub deep : length stack ≡ d
  -- how deep the children of the top may still go
  pub left : ℕ
  pub room : left + d ≡ length (class_roots g)
  pub fine : Fine AstSize (class_nodes g) t B K now
  pub way : Way AstSize (class_nodes g) t B K left stack now m
