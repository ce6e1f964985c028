use Rattle.std.proofs.Common.{◌≡◌, refl, ap, ◌∙◌, ℕ, true, false, Bool, cond, List, [], ◌∷◌, map, Some, bytes_eq, find, option_map, rules, tests}
use Rattle.std.proofs.lemmas.Iterator.{YieldsList-from_slice}
use Rattle.std.proofs.lemmas.Iterator.Search.{find_from_yields_List}
use denote.Ref.{Bor}
use Rattle.script.specs.declared.Verb.{Verb}
use Rattle.script.specs.Verbs.{entry, chosen, shape}
use Rattle.script.proofs.verbs.row_of.Goals as goal

abbrev Row : Type 0
Row = Bor (List ℕ) × Verb × ℕ × ℕ

-- the row that `find` gives is the one that is chosen
found : (w : List ℕ) (rows : List Row) → option_map (λ (r : Row). shape r.1 r.2 r.3) (find (λ r. bytes_eq r.0.now w) rows) ≡ chosen w (map (λ r. entry r.0.now r.1 r.2 r.3) rows)
found w [] = refl
found w (r ∷ rows) = go (bytes_eq r.0.now w) (found w rows)
  where
    go : (b : Bool) → option_map (λ (r : Row). shape r.1 r.2 r.3) (find (λ r. bytes_eq r.0.now w) rows) ≡ chosen w (map (λ r. entry r.0.now r.1 r.2 r.3) rows)
        → option_map (λ (r : Row). shape r.1 r.2 r.3) (cond b (Some r) (find (λ r. bytes_eq r.0.now w) rows)) ≡ cond b (Some (shape r.1 r.2 r.3)) (chosen w (map (λ r. entry r.0.now r.1 r.2 r.3) rows))
    go true ih = refl
    go false ih = ih

pub returns-in_err-verb : goal.returns-in_err-verb
returns-in_err-verb c =
    let f = find_from_yields_List (λ (r : Row). bytes_eq r.0.now c.args.w.now) _ _ _ c.find.ensures.ran (YieldsList-from_slice c.args.rows.now (cc)) (λ x b q k. search (rules, tests)) in
    c.from_residual.ensures ∙ ap (option_map (λ (r : Row). shape r.1 r.2 r.3)) (rw c.in_err-verb.was at f) ∙ found c.args.w.now c.args.rows.now

pub returns : goal.returns
returns c =
    let f = find_from_yields_List (λ (r : Row). bytes_eq r.0.now c.args.w.now) _ _ _ c.find.ensures.ran (YieldsList-from_slice c.args.rows.now (cc)) (λ x b q k. search (rules, tests)) in
    ap (option_map (λ (r : Row). shape r.1 r.2 r.3)) (rw c.in_ok-verb.was at f) ∙ found c.args.w.now c.args.rows.now
