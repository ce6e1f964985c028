-- The list `classes`, on any words: each id whose list has members gives a piece, its number, how many members there are, and their nodes in words. The nodes are written
-- from the last to the first, since a list is read backwards. On words that hold a clean graph the list is the graph's.
-- Assumes nothing.
use Rattle.std.specs.Prelude.{true, ◌≡◌, ◌*◌, ◌+◌, ◌<◌, ◌≤◌, ℕ, set}
use mathlib.Core.List.{List, [], ◌++◌, ◌∷◌, map, map-append}
use Rattle.std.proofs.Common.{◌∙◌, sym, add-one, arith, length-append}
use Rattle.std.proofs.Math.Path.{ap, refl}
use Rattle.std.proofs.Math.Decide.{dec_lt}
use Rattle.std.proofs.Math.ListN.{length}
use Rattle.std.proofs.Math.Seq.{sets}
use Rattle.lists.specs.Members.{Mem}
use Rattle.lists.specs.Reads.{at}
use Rattle.lists.specs.Sets.{sets_front}
use Rattle.lists.specs.Tests.{when, when_no, when_yes}
use Rattle.language.specs.Term.{places, spell, words}
use Rattle.steps.specs.Classes.{class_roots, class_words, classes}
use Rattle.steps.specs.Graph.{Graph}
use Rattle.closure.specs.Listed.{roots_from}
use Rattle.holds.specs.Holds.{HoldsAt}
use Rattle.layout.specs.View.{View, view}
use Rattle.layout.specs.declared.Head.{Head}
use Rattle.rows.specs.Read.{key_read}
use Rattle.spelling.specs.Listed.{length_spell}
use Rattle.eclass.specs.ClassHeld.{nodes_counted, nodes_read, roots_listed}
use Rattle.eclass.specs.ClassWalk.{Walk, class_ids, length_back, len_of, walk_end, walk_more, walk_start}
use Rattle.spelling.specs.Pieces.{Wrote, flat_same, pieces, pieces_flat, wrote, wrote_none}

-- ---- the model

-- the words of the nodes of some ids
unfoldable pub spelled : List ℕ → ℕ → ℕ → List ℕ → List ℕ
spelled rs n m ids = spell (map (key_read rs n m) ids)

-- the words of the class of r
abbrev pub class_text : List ℕ → List ℕ → ℕ → ℕ → ℕ → List ℕ
class_text ms rs n m r = r ∷ len_of ms n r ∷ spelled rs n m (class_ids ms n r)

unfoldable pub class_piece : List ℕ → List ℕ → ℕ → ℕ → ℕ → List ℕ
class_piece ms rs n m r = when (dec_lt 0 (len_of ms n r)) (class_text ms rs n m r) []

-- the same of words with the head h
abbrev pub class_piece_in : Head → List ℕ → ℕ → List ℕ
class_piece_in h ws = class_piece (view h.n h.m ws).members (view h.n h.m ws).rows h.n h.m

abbrev pub classes_in : Head → List ℕ → List ℕ
classes_in h ws = pieces (class_piece_in h ws) h.ids

pub classes_are : {h : Head} {u : ℕ} {v : View} {g : Graph} → HoldsAt h u v g → g.clean ≡ true → pieces (class_piece v.members v.rows h.n h.m) h.ids ≡ classes g
unfolding class_piece spelled
classes_are {h = h} {v = v} {g = g} H c =
    pieces_flat (λ (r : ℕ). dec_lt 0 (len_of v.members h.n r)) (class_text v.members v.rows h.n h.m) h.ids
    ∙ rw (roots_listed H) (flat_same (class_text v.members v.rows h.n h.m) (class_words g) (class_roots g) each)
  where
    each : (r : ℕ) → Mem r (class_roots g) → class_text v.members v.rows h.n h.m r ≡ class_words g r
    each r k =
        let l : r < h.n = omega (arith, (roots_from g r k).0, H.ids_are, H.range.ids_in) in
        rw (nodes_read H c r l, nodes_counted H c r l) refl

-- ---- laws of the words of ids

module _ (rs : List ℕ) (n m : ℕ) where
  pub spelled_none : spelled rs n m [] ≡ []
  unfolding spelled spell
  spelled_none = refl

  -- one id in front
  pub spelled_front : (x : ℕ) (d : List ℕ) → spelled rs n m (x ∷ d) ≡ words (key_read rs n m x) ++ spelled rs n m d
  unfolding spelled spell
  spelled_front x d = refl

  -- one id behind
  pub spelled_more : (d : List ℕ) (x : ℕ) → length (spelled rs n m (d ++ (x ∷ []))) ≡ length (spelled rs n m d) + length (words (key_read rs n m x))
  unfolding spelled
  spelled_more d x = rw (map-append (key_read rs n m) d (x ∷ [])) (length_spell (map (key_read rs n m) d) (key_read rs n m x))

-- how many words one id takes
pub record IdWords (rs : List ℕ) (n m x r : ℕ) : Type 0 where
  pub exact : r ≡ length (words (key_read rs n m x))
  pub few : r ≤ 3 + places

-- ---- the nodes of a class measured

pub record Measuring (rs : List ℕ) (n m w : ℕ) (d : List ℕ) : Type 0 where
  pub exact : w ≡ length (spelled rs n m d)

-- what `class_words` promises
pub record ClassLong (ms rs : List ℕ) (n m r w : ℕ) : Type 0 where
  pub exact : w ≡ length (spelled rs n m (class_ids ms n r))
  pub few : w ≤ 11 * len_of ms n r

abbrev pub ClassLongIn : Head → List ℕ → ℕ → ℕ → Type 0
ClassLongIn h ws r w = ClassLong (view h.n h.m ws).members (view h.n h.m ws).rows h.n h.m r w

module _ (ms rs : List ℕ) (n m r : ℕ) where
  pub long_start : (todo : List ℕ) → todo ≡ class_ids ms n r → Walk ms n r todo (Measuring rs n m 0)
  long_start todo e = walk_start ms n r (Measuring rs n m 0) todo e (record { exact = rw (spelled_none rs n m) refl })

  pub long_next : (todo rest : List ℕ) (cur w x : ℕ) → todo ≡ rest ++ (cur ∷ []) → IdWords rs n m cur x → Walk ms n r todo (Measuring rs n m w) → Walk ms n r rest (Measuring rs n m (w + x))
  long_next todo rest cur w x step i k = walk_more ms n r todo rest cur step (Measuring rs n m w) (Measuring rs n m (w + x)) (λ d f. record { exact = go d f.exact }) k
    where
      go : (d : List ℕ) → w ≡ length (spelled rs n m d) → w + x ≡ length (spelled rs n m (cur ∷ d))
      go d f = rw (spelled_front rs n m cur d) (omega (arith, i.exact, length-append (words (key_read rs n m cur)) (spelled rs n m d)))

  -- no id takes more than 11 words
  pub long_more : (todo rest : List ℕ) (cur w x k : ℕ) → todo ≡ rest ++ (cur ∷ []) → IdWords rs n m cur x → w + 11 * length todo ≤ k → w + x + 11 * length rest ≤ k
  long_more todo rest cur w x k step i h = omega (arith, i.few, ap length step, length-append rest (cur ∷ []))

  pub long_room : (todo : List ℕ) → todo ≡ class_ids ms n r → 11 * length todo ≡ 11 * len_of ms n r
  long_room todo e = ap (λ (k : ℕ). 11 * k) (ap length e ∙ length_back ms n (len_of ms n r) (at ms r))

  pub long_end : (todo : List ℕ) (w : ℕ) → todo ≡ [] → w + 11 * length todo ≤ 11 * len_of ms n r → Walk ms n r todo (Measuring rs n m w) → ClassLong ms rs n m r w
  long_end todo w e f k = record { exact = (walk_end ms n r (Measuring rs n m w) todo e k).exact; few = omega arith }

-- ---- the nodes of a class written, from the last to the first

-- out is the slice before, mid what it is now; the words of those that were passed stand from e to the end
pub record Placing (rs : List ℕ) (n m : ℕ) (out mid : List ℕ) (e end : ℕ) (d : List ℕ) : Type 0 where
  pub exact : mid ≡ sets out e (spelled rs n m d)
  pub ends : e + length (spelled rs n m d) ≡ end

-- what `put_before` promises: the words of id x stand from e to the end
pub record Before (rs : List ℕ) (n m x end : ℕ) (out : List ℕ) (e : ℕ) (out' : List ℕ) : Type 0 where
  pub exact : out' ≡ sets out e (words (key_read rs n m x))
  pub start : e + length (words (key_read rs n m x)) ≡ end
  pub size : length out' ≡ length out

-- what `put_members` promises: the nodes of the class of r stand from p on
pub record Placed (ms rs : List ℕ) (n m r : ℕ) (out : List ℕ) (p : ℕ) (out' : List ℕ) : Type 0 where
  pub exact : out' ≡ sets out p (spelled rs n m (class_ids ms n r))
  pub size : length out' ≡ length out

-- how far the start of what is written lies behind p: as far as the words of those that are to come need
pub record Ahead (rs : List ℕ) (n m p : ℕ) (todo : List ℕ) (e : ℕ) : Type 0 where
  pub far : e ≡ p + length (spelled rs n m todo)

module _ (ms rs : List ℕ) (n m r : ℕ) (out : List ℕ) (p end : ℕ) where
  pub place_start : (todo : List ℕ) → todo ≡ class_ids ms n r → Walk ms n r todo (Placing rs n m out out end end)
  place_start todo e = walk_start ms n r (Placing rs n m out out end end) todo e (record { exact = rw (spelled_none rs n m) refl; ends = rw (spelled_none rs n m) (omega arith) })

  pub ahead_start : (w : ℕ) (todo : List ℕ) → todo ≡ class_ids ms n r → ClassLong ms rs n m r w → end ≡ p + w → Ahead rs n m p todo end
  ahead_start w todo q l e = record { far = rw q (omega (arith, l.exact)) }

  module _ (todo rest : List ℕ) (cur e : ℕ) (step : todo ≡ rest ++ (cur ∷ [])) (a : Ahead rs n m p todo e) where
    split : e ≡ p + (length (spelled rs n m rest) + length (words (key_read rs n m cur)))
    split = a.far ∙ rw (step, spelled_more rs n m rest cur) refl

    -- the words of cur fit in front
    pub ahead_room : length (words (key_read rs n m cur)) ≤ e
    ahead_room = omega (arith, split)

    module _ (mid mid1 : List ℕ) (e' : ℕ) (d : Before rs n m cur e mid e' mid1) where
      pub ahead_more : Ahead rs n m p rest e'
      ahead_more = record { far = omega (arith, split, d.start) }

      pub place_more : end ≤ length out → Walk ms n r todo (Placing rs n m out mid e end) → Walk ms n r rest (Placing rs n m out mid1 e' end)
      place_more fits w = walk_more ms n r todo rest cur step (Placing rs n m out mid e end) (Placing rs n m out mid1 e' end) go w
        where
          go : (l : List ℕ) → Placing rs n m out mid e end l → Placing rs n m out mid1 e' end (cur ∷ l)
          go l P = record {
            exact =
                d.exact
                ∙ rw (P.exact, spelled_front rs n m cur l)
                (sets_front (words (key_read rs n m cur)) (spelled rs n m l) out e' e (omega (arith, d.start)) (omega (arith, P.ends)));
            ends = rw (spelled_front rs n m cur l) (omega (arith, P.ends, d.start, length-append (words (key_read rs n m cur)) (spelled rs n m l)));
          }

-- ---- the piece of a class

module _ (ms rs : List ℕ) (n m r : ℕ) where
  piece_none : len_of ms n r ≡ 0 → class_piece ms rs n m r ≡ []
  unfolding class_piece
  piece_none e = when_no (dec_lt 0 (len_of ms n r)) (class_text ms rs n m r) [] (λ l. omega arith)

  piece_some : 0 < len_of ms n r → class_piece ms rs n m r ≡ class_text ms rs n m r
  unfolding class_piece
  piece_some l = when_yes (dec_lt 0 (len_of ms n r)) (class_text ms rs n m r) [] l

  pub piece_zero : (k : ℕ) → k ≡ len_of ms n r → k ≡ 0 → 0 ≡ length (class_piece ms rs n m r)
  piece_zero k e z = rw (piece_none (sym e ∙ z)) refl

  pub piece_long : (k w : ℕ) → k ≡ len_of ms n r → 0 < k → ClassLong ms rs n m r w → 2 + w ≡ length (class_piece ms rs n m r)
  piece_long k w e s l = rw (piece_some (omega arith)) (omega (arith, l.exact))

  pub piece_skip : (k : ℕ) → k ≡ len_of ms n r → k ≡ 0 → (out : List ℕ) (p : ℕ) → Wrote out p (class_piece ms rs n m r) p out
  piece_skip k e z out p = rw (piece_none (sym e ∙ z)) (wrote_none out p)

  pub piece_room : (k w : ℕ) → k ≡ len_of ms n r → 0 < k → ClassLong ms rs n m r w → (len p : ℕ) → p + length (class_piece ms rs n m r) ≤ len → p + 2 + w ≤ len
  piece_room k w e s l len p fits = omega (arith, piece_long k w e s l)

  -- the number and the count in front of the nodes
  pub piece_put : (k w : ℕ) → k ≡ len_of ms n r → 0 < k → ClassLong ms rs n m r w → (out mid out' : List ℕ) (p : ℕ) → p + length (class_piece ms rs n m r) ≤ length out
      → Placed ms rs n m r out (p + 2) mid → out' ≡ set (set mid p r) (p + 1) k → Wrote out p (class_piece ms rs n m r) (p + 2 + w) out'
  piece_put k w e s l out mid out' p fits P q =
      let c : class_piece ms rs n m r ≡ class_text ms rs n m r = piece_some (omega arith) in
      let t : p + length (class_text ms rs n m r) ≤ length out = rw c at fits in
      let x : out' ≡ sets out p (class_text ms rs n m r) = q ∙ rw (e, P.exact, add-one p) (sets_front (r ∷ len_of ms n r ∷ []) (spelled rs n m (class_ids ms n r)) out p (p + 2) refl (omega arith)) in
      rw c (wrote out p (class_text ms rs n m r) (p + 2 + w) out' x (omega (arith, l.exact)))
