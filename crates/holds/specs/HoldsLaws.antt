-- How `HoldsAt` goes through small changes: the way to a root shortened, the head written, `clean` unset, the sort's work area used. And the border between words at
-- rest and the numbers and parts of a call.
-- Assumes nothing.
use Rattle.std.specs.Prelude.{Bool, false, List, ◌≡◌, refl, ◌<◌, ◌≤◌, ℕ, length}
use Rattle.std.proofs.Common.{⊎_elim, ap, subst, sym}
use Rattle.std.proofs.lemmas.Bool.{false≢true}
use Rattle.lists.specs.Tests.{lt_or}
use Rattle.steps.specs.Graph.{Graph, root}
use Rattle.steps.specs.Machine.{marked}
use Rattle.closure.specs.Facts.{root_out}
use Rattle.holds.specs.Holds.{Holds, HoldsAt}
use Rattle.layout.specs.Cut.{forest, sorting}
use Rattle.layout.specs.Head.{HeadIs, HeadOk, head_good}
use Rattle.layout.specs.View.{View, hd, put, put_head, view}
use Rattle.layout.specs.Written.{Noted, head_written, noted_is, written}
use Rattle.layout.specs.declared.Head.{Head}
use Rattle.unionfind.specs.Forest.{Forest, root_root}

-- the numbers of a graph that is marked as clean, or as not (`marked`)
abbrev pub marked_head : Head → Bool → Head
marked_head h b = record { n = h.n; m = h.m; ids = h.ids; places = h.places; depth = h.depth; classes = h.classes; clean = b }

-- the numbers with another depth of pending
abbrev pub at_depth : Head → ℕ → Head
at_depth h d = record { n = h.n; m = h.m; ids = h.ids; places = h.places; depth = d; classes = h.classes; clean = h.clean }

module _ {h : Head} {u : ℕ} {v : View} {g : Graph} (H : HoldsAt h u v g) where
  -- another forest with the same roots
  pub holds_forest : (f : List ℕ) → Forest f h.ids h.classes g.roots → HoldsAt h u (put forest v f) g
  holds_forest f F = record {
    range = H.range;
    ids_are = H.ids_are;
    places_are = H.places_are;
    clean_is = H.clean_is;
    few = H.few;
    linked = H.linked;
    forest = F;
    nodes = H.nodes;
    parents = H.parents;
    members = H.members;
    tidy_keys = H.tidy_keys;
    tidy_lists = H.tidy_lists;
    scratch = H.scratch;
  }

  -- the head in the words is not looked at
  pub holds_head : (l : List ℕ) → HoldsAt h u (put_head v l) g
  holds_head l = record {
    range = H.range;
    ids_are = H.ids_are;
    places_are = H.places_are;
    clean_is = H.clean_is;
    few = H.few;
    linked = H.linked;
    forest = H.forest;
    nodes = H.nodes;
    parents = H.parents;
    members = H.members;
    tidy_keys = H.tidy_keys;
    tidy_lists = H.tidy_lists;
    scratch = H.scratch;
  }

  -- nor is the work area of the sort
  pub holds_sorting : (l : List ℕ) → HoldsAt h u (put sorting v l) g
  holds_sorting l = record {
    range = H.range;
    ids_are = H.ids_are;
    places_are = H.places_are;
    clean_is = H.clean_is;
    few = H.few;
    linked = H.linked;
    forest = H.forest;
    nodes = H.nodes;
    parents = H.parents;
    members = H.members;
    tidy_keys = H.tidy_keys;
    tidy_lists = H.tidy_lists;
    scratch = H.scratch;
  }

  pub holds_unclean : HoldsAt (marked_head h false) u v (marked g false)
  holds_unclean = record {
    range = record { n_low = H.range.n_low; n_high = H.range.n_high; m_high = H.range.m_high; ids_in = H.range.ids_in; places_in = H.range.places_in; depth_in = H.range.depth_in; classes_in = H.range.classes_in };
    ids_are = H.ids_are;
    places_are = H.places_are;
    clean_is = refl;
    few = H.few;
    linked = H.linked;
    forest = H.forest;
    nodes = H.nodes;
    parents = H.parents;
    members = H.members;
    tidy_keys = λ e. absurd (false≢true e);
    tidy_lists = λ e. absurd (false≢true e);
    scratch = H.scratch;
  }

  -- facts on roots
  pub holds_lengths : (length g.roots ≡ h.ids) × (length g.nodes ≡ h.ids)
  holds_lengths = (H.forest.len, sym H.ids_are)

-- ---- words at rest

-- the head was read as h
pub holds_in : (ws : List ℕ) (h : Head) (g : Graph) → HeadIs (length ws) (hd ws) h → Holds ws g → HoldsAt h h.places (view h.n h.m ws) g
holds_in ws h g q H = subst (λ (k : Head). HoldsAt k k.places (view k.n k.m ws) g) (sym q.is) H.at_rest

-- the head says k, and the parts hold g with k's numbers
pub holds_out : (ws : List ℕ) (k : Head) (g : Graph) → HeadIs (length ws) (hd ws) k → HoldsAt k k.places (view k.n k.m ws) g → Holds ws g
holds_out ws k g q H = record { good = head_good q; at_rest = subst (λ (s : Head). HoldsAt s s.places (view s.n s.m ws) g) q.is H }

-- the head written back at the end of a call
pub holds_written : (ws ws' : List ℕ) (k : Head) (g : Graph) → HeadOk (length ws) k → Noted ws ws' (written (hd ws) k) → HoldsAt k k.places (view k.n k.m ws) g → Holds ws' g
holds_written ws ws' k g ok N H =
    let q : HeadIs (length ws') (hd ws') k = noted_is N (head_written (length ws) (hd ws) k ok) in
    holds_out ws' k g q (subst (λ (v : View). HoldsAt k k.places v g) (sym (N.else k.n k.m)) (holds_head H (written (hd ws) k)))

-- ---- roots

-- every root is its own root, also of a number that is no id
pub root_again : {f : List ℕ} {N C : ℕ} {R : List ℕ} → Forest f N C R → (i : ℕ) → root R (root R i) ≡ root R i
unfolding root
root_again {f} {N} {C} {R} F i = ⊎_elim (λ (l : i < N). root_root F i l) (λ (l : N ≤ i). let e = root_out R i (rw F.len l) in ap (root R) e) (lt_or i N)
