-- The laws behind `parse`: what a bare line says whose verb and numbers are known, where a bare line begins and ends, and what a whole line says.
-- Assumes nothing.
use Rattle.std.specs.Prelude.{◌≡◌, refl, List, [], ◌∷◌, Bool, true, false, ◌&&◌, bytes_eq, cond, Option, Some, None, ℕ, ◌+◌, ◌-◌, ◌≤◌, ◌<◌, leb, eqb, length, get_or, take, drop}
use Rattle.std.proofs.Common.{ap, ◌∙◌, arith, length-take-le, leb-true, le-leb, lt-ltb, le-ltb, eq-eqb, ne_eqb, suc}
use Rattle.std.proofs.Math.Seq.{drop-cons}
use Rattle.std.proofs.lemmas.Bool.{false≢true}
use Rattle.std.proofs.lemmas.List.{drop_all}
use Rattle.std.specs.List.{list_all}
use Rattle.std.specs.Option.{MatchOption, option_map_or, unwrap_or}
use denote.Ref.{Bor}
use Rattle.script.specs.Fields.{fields_of, numbers_of}
use Rattle.script.specs.FieldsLaws.{count_all}
use Rattle.script.specs.Verbs.{Entry, chosen, verbs_table, verb_of_word}
use Rattle.script.specs.Line.{Says, SaysBare, bad, bare, bare_line, call, line_of, mark, of_fields, said, skip, unmarked, unreturned}
use Rattle.script.specs.declared.Call.{Call}
use Rattle.script.specs.declared.Shape.{Shape}
use Rattle.script.specs.declared.Verb.{Verb}
use Rattle.script.specs.declared.Verb.TheVariants.{Bad}

-- ---- the table

-- what each row has, the row that is chosen has
pub chosen_has : (p : Shape → Bool) (w : List ℕ) (es : List Entry) (v : Shape) → list_all (λ (e : Entry). p e.is) es ≡ true → chosen w es ≡ Some v → p v ≡ true
chosen_has p w [] v h e = cc
chosen_has p w (r ∷ es) v h e = go (p r.is) refl h (bytes_eq r.name w) e (chosen_has p w es v)
  where
    go : (x : Bool) → p r.is ≡ x → x && list_all (λ (e : Entry). p e.is) es ≡ true → (b : Bool) → cond b (Some r.is) (chosen w es) ≡ Some v
        → (list_all (λ (e : Entry). p e.is) es ≡ true → chosen w es ≡ Some v → p v ≡ true) → p v ≡ true
    go true q g true e ih = let z : r.is ≡ v = cc in rw (← z) q
    go true q g false e ih = ih g e
    go false q g b e ih = absurd (false≢true g)

-- no verb takes more than 24 numbers
few : (w : List ℕ) (v : Shape) → verb_of_word w ≡ Some v → v.most ≤ 24
unfolding verb_of_word verbs_table
few w v e = leb-true v.most 24 (chosen_has (λ (s : Shape). leb s.most 24) w verbs_table v refl e)

-- ---- a bare line

pub call_bad : (v : Shape) (fs : List (List ℕ)) → (v.least ≤ length fs → length fs ≤ v.most → ⊥) → call (Some v) (numbers_of fs) ≡ bad
call_bad v fs h = go (numbers_of fs) refl
  where
    go : (x : Option (List ℕ)) → numbers_of fs ≡ x → call (Some v) x ≡ bad
    go None e = refl
    go (Some ns) e = by_two (leb v.least (length ns)) refl (leb (length ns) v.most) refl
      where
        by_two : (x : Bool) → leb v.least (length ns) ≡ x → (y : Bool) → leb (length ns) v.most ≡ y → cond (x && y) (record { verb = v.verb; numbers = ns }) bad ≡ bad
        by_two true p true q =
            absurd (h (omega (arith, count_all fs ns e, leb-true v.least (length ns) p)) (omega (arith, count_all fs ns e, leb-true (length ns) v.most q)))
        by_two true p false q = refl
        by_two false p y q = refl

pub call_good : (v : Shape) (ns : List ℕ) → v.least ≤ length ns → length ns ≤ v.most → call (Some v) (Some ns) ≡ record { verb = v.verb; numbers = ns }
call_good v ns a b = rw (le-leb v.least (length ns) a, le-leb (length ns) v.most b) refl

-- the fields of a bare line: a verb's name and the rest
pub record Named (fs : List (List ℕ)) (w : List ℕ) : Type 0 where
  pub cut : fs ≡ w ∷ drop 1 fs

module _ {fs : List (List ℕ)} {w : List ℕ} (n : Named fs w) where
  as_call : of_fields fs ≡ call (verb_of_word w) (numbers_of (drop 1 fs))
  as_call = ap of_fields n.cut

  pub bad_verb : verb_of_word w ≡ None → of_fields fs ≡ bad
  bad_verb e = as_call ∙ rw e refl

  pub bad_number : (v : Shape) → verb_of_word w ≡ Some v → numbers_of (drop 1 fs) ≡ None → of_fields fs ≡ bad
  bad_number v e f = as_call ∙ rw (e, f) refl

  pub bad_count : (v : Shape) → verb_of_word w ≡ Some v → (v.least ≤ length (drop 1 fs) → length (drop 1 fs) ≤ v.most → ⊥) → of_fields fs ≡ bad
  bad_count v e h = as_call ∙ rw e (call_bad v (drop 1 fs) h)

  pub bad_many : (v : Shape) → verb_of_word w ≡ Some v → 24 < length (drop 1 fs) → of_fields fs ≡ bad
  bad_many v e h = bad_count v e (λ a b. absurd (omega (arith, few w v e)))

  pub good_call : (v : Shape) (vs : List ℕ) (k : ℕ) → verb_of_word w ≡ Some v → numbers_of (drop 1 fs) ≡ Some (take k vs) → k ≤ length vs → v.least ≤ k → k ≤ v.most
      → of_fields fs ≡ record { verb = v.verb; numbers = take k vs }
  good_call v vs k e f l a b = as_call ∙ rw (e, f) (call_good v (take k vs) (omega (arith, length-take-le k vs l)) (omega (arith, length-take-le k vs l)))

pub says_plain : (s : List ℕ) (r : Call) (v : Verb) → bare_line s ≡ record { verb = v; numbers = [] } → (r.verb ≡ v) × (r.count ≡ 0) → SaysBare s r
says_plain s r v e p = record { exact = rw (p.0, p.1) e }

pub line_none : (s : List ℕ) → length s < 1 → bare_line s ≡ skip
unfolding bare_line
line_none [] h = refl
line_none (b ∷ s) h = absurd (omega arith)

pub line_note : (s : List ℕ) → 0 < length s → get_or s 0 0 ≡ 35 → bare_line s ≡ skip
unfolding bare_line
line_note [] l h = absurd (omega arith)
line_note (b ∷ s) l h = rw (eq-eqb b 35 h) refl

pub line_fields : (s : List ℕ) → 0 < length s → (get_or s 0 0 ≡ 35 → ⊥) → bare_line s ≡ of_fields (fields_of s)
unfolding bare_line
line_fields [] l h = absurd (omega arith)
line_fields (b ∷ s) l h = rw (ne_eqb b 35 h) refl

-- what was made of the fields, or a line that is no call
pub says_call : (s : List ℕ) (o : Option Call) (r d : Call) → bare_line s ≡ of_fields (fields_of s) → of_fields (fields_of s) ≡ option_map_or said o bad
    → (d.verb ≡ Bad) × (d.count ≡ 0) → r ≡ unwrap_or o d → SaysBare s r
says_call s None r d e f p q = rw q (says_plain s d Bad (e ∙ f) p)
says_call s (Some x) r d e f p q = rw q (record { exact = e ∙ f })

-- ---- where a bare line begins and ends

-- what `strip_prefix` or `strip_suffix` gave, or the line
stripped : (b : Bool) (d : List ℕ) (n k : ℕ) (line r : Bor (List ℕ)) (o : Option (Bor (List ℕ)))
    → MatchOption o (b ≡ false) (λ x. (b ≡ true) × (x.now ≡ d) × (length x.now + k ≡ n)) → r ≡ unwrap_or o line → r.now ≡ cond b d line.now
stripped b d n k line r None h e = rw (e, h) refl
stripped b d n k line r (Some x) h e = rw (e, h.0) h.1

pub unmarked_is : (line r : Bor (List ℕ)) (o : Option (Bor (List ℕ)))
    → MatchOption o (bytes_eq (take 3 line.now) mark ≡ false) (λ x. (bytes_eq (take 3 line.now) mark ≡ true) × (x.now ≡ drop 3 line.now) × (length x.now + 3 ≡ length line.now))
    → r ≡ unwrap_or o line → r.now ≡ unmarked line.now
unfolding unmarked
unmarked_is line r o h e = stripped (bytes_eq (take 3 line.now) mark) (drop 3 line.now) _ _ line r o h e

last_is : (s : List ℕ) (b : ℕ) → (0 ≡ b → ⊥) → bytes_eq (drop (length s - 1) s) (b ∷ []) ≡ eqb (get_or s (length s - 1) 0) b
last_is [] b h = rw (ne_eqb 0 b h) refl
last_is (a ∷ s) b h =
    let k : length (a ∷ s) - 1 ≡ length s = omega arith in
    rw (k, drop-cons (a ∷ s) (length s) 0 (omega arith), drop_all (suc (length s)) (a ∷ s) (omega arith)) (go (eqb (get_or (a ∷ s) (length s) 0) b))
  where
    go : (x : Bool) → x && true ≡ x
    go true = refl
    go false = refl

pub unreturned_is : (line r : Bor (List ℕ)) (o : Option (Bor (List ℕ)))
    → MatchOption o (bytes_eq (drop (length line.now - 1) line.now) (13 ∷ []) ≡ false)
    (λ x. (bytes_eq (drop (length line.now - 1) line.now) (13 ∷ []) ≡ true) × (x.now ≡ take (length line.now - 1) line.now) × (length x.now + 1 ≡ length line.now))
    → r ≡ unwrap_or o line → r.now ≡ unreturned line.now
unfolding unreturned
unreturned_is line r o h e =
    rw (← last_is line.now 13 (λ e. absurd (omega arith))) (stripped (bytes_eq (drop (length line.now - 1) line.now) (13 ∷ [])) (take (length line.now - 1) line.now) _ _ line r o h e)

-- ---- a whole line

pub line_long : (line : List ℕ) → 4096 < length line → line_of line ≡ bad
unfolding line_of
line_long line l = rw (lt-ltb 4096 (length line) l) refl

pub says_long : (line : List ℕ) (r : Call) → 4096 < length line → (r.verb ≡ Bad) × (r.count ≡ 0) → Says line r
says_long line r l p = record { exact = rw (p.0, p.1) (line_long line l) }

-- a line says what its bare line says
pub says_bare : (line : List ℕ) (r : Call) → length line ≤ 4096 → SaysBare (bare line) r → Says line r
unfolding line_of
says_bare line r l b = record { exact = rw (le-ltb 4096 (length line) l) b.exact }
