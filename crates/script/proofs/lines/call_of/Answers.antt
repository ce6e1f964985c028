use Rattle.std.proofs.Common.{◌≡◌, sym, ap, ◌∙◌, ℕ, ◌==◌, ◌≤◌, Bool, false, List, [], ◌∷◌, Option, Some, drop, length-set, arith, rules, tests}
use Rattle.std.specs.Fn.{CalledAt}
use Rattle.std.specs.Slice.Iter.{split_rest, split_done, split_callee, split_steps}
use Rattle.std.specs.declared.slice.Split.{Split}
use Rattle.std.proofs.lemmas.Iterator.{YieldsList}
use Rattle.std.proofs.lemmas.Iterator.Consumers.{YieldsList-at, YieldsList-turn, YieldsList-end}
use Rattle.std.proofs.lemmas.Iterator.Splits.{YieldsList-from_slice_split}
use Rattle.std.proofs.lemmas.List.{length_push}
use Rattle.std.proofs.lemmas.Grind.{common_steps}
use denote.Param.Members.{Mut}
use denote.Ref.{Bor}
use Rattle.script.specs.Fields.{fields_of}
use Rattle.script.specs.FieldsLaws.{read_more, read_not, read_all}
use Rattle.script.specs.LineLaws.{Named, bad_verb, bad_number, bad_count, bad_many, good_call}
use Rattle.script.proofs.lines.call_of.Goals as goal

-- the first item of a chain, and the chain behind it
behind : {S A B : Type 0} {steps : S → Option A → S → Type 0} {v : A → B} {s : S} (ys : List B) → YieldsList steps v s ys → (x : A) (u : S) → steps s (Some x) u → (ys ≡ v x ∷ drop 1 ys) × YieldsList steps v u (drop 1 ys)
behind [] e x u h = absurd (e.runs x u h)
behind (y ∷ ys) e x u h = let p = e.runs.1 x u h in (ap (λ z. z ∷ ys) (sym p.0), record { runs = p.1 })

-- the first field of a line, and the iterator behind it
first_field : {F : Type 0} {g : Mut F (Bor ℕ × Unit {0}) Bool} {f : F} (line : List ℕ) (s u : Split ℕ F) (x : Bor (List ℕ)) → split_steps g s (Some x) u → split_rest s ≡ line → split_done s ≡ false → split_callee s ≡ f
    → ((x : ℕ) (b : Bool) (q : F) → CalledAt g f x b q → (q ≡ f) × (b ≡ (x == 32))) → Named (fields_of line) x.now × YieldsList (split_steps g) (λ y. y.now) u (drop 1 (fields_of line))
unfolding fields_of
first_field {g = g} line s u x h r d k t =
    let p = behind _ (YieldsList-from_slice_split {s = s} g (λ b. b == 32) line r d k t) x u h in
    (record { cut = p.0 }, p.1)

-- The lines of p and t below stand in each answer: each reads fields of its own goal's record, and a lemma would take just these fields.
pub returns-in_err-shape : goal.returns-in_err-shape
returns-in_err-shape c =
    let p = first_field c.args.line.now c.split-fields.result c.next.new.self c.in_ok-next.field-0 c.in_ok-next.ensures.steps c.split-fields.ensures.rest c.split-fields.ensures.done c.split-fields.ensures.closure (λ x b q k. search (rules, tests)) in
    rw c.from_residual-in_err-shape.ensures (bad_verb p.0 (sym c.verb_of.ensures ∙ c.in_err-shape.was))

pub returns-then-count-eq-NUMBERS : goal.returns-then-count-eq-NUMBERS
returns-then-count-eq-NUMBERS c =
    let p = first_field c.args.line.now c.split-fields.result c.next.new.self c.in_ok-next.field-0 c.in_ok-next.ensures.steps c.split-fields.ensures.rest c.split-fields.ensures.done c.split-fields.ensures.closure (λ x b q k. search (rules, tests)) in
    let t = YieldsList-turn (YieldsList-at c.into_iter-field-iterator.ensures.into_iter_gives p.1) c.loop-field.yielded c.loop-field.field-iterator c.loop-field.yielded_by c.next-in-loop-field.result c.next-in-loop-field.new.self c.in-Some.field c.in-Some.is c.next-in-loop-field.ensures.steps in
    bad_many p.0 _ (sym c.verb_of.ensures ∙ c.in_ok-shape.was) (omega (arith, t.0))

pub returns-in_err-numbers : goal.returns-in_err-numbers
returns-in_err-numbers c =
    let p = first_field c.args.line.now c.split-fields.result c.next.new.self c.in_ok-next.field-0 c.in_ok-next.ensures.steps c.split-fields.ensures.rest c.split-fields.ensures.done c.split-fields.ensures.closure (λ x b q k. search (rules, tests)) in
    let t = YieldsList-turn (YieldsList-at c.into_iter-field-iterator.ensures.into_iter_gives p.1) c.loop-field.yielded c.loop-field.field-iterator c.loop-field.yielded_by c.next-in-loop-field.result c.next-in-loop-field.new.self c.in-Some.field c.in-Some.is c.next-in-loop-field.ensures.steps in
    rw c.from_residual-in_err-numbers.ensures (bad_number p.0 _ (sym c.verb_of.ensures ∙ c.in_ok-shape.was)
    (read_not _ _ _ _ c.loop-field.invariant.read (omega (arith, t.0)) (rw c.loop-field.invariant.count t.1) (sym c.number.ensures ∙ c.in_err-numbers.was)))

pub loop-field-preserved : goal.loop-field-preserved
loop-field-preserved c =
    let p = first_field c.args.line.now c.split-fields.result c.next.new.self c.in_ok-next.field-0 c.in_ok-next.ensures.steps c.split-fields.ensures.rest c.split-fields.ensures.done c.split-fields.ensures.closure (λ x b q k. search (rules, tests)) in
    let t = YieldsList-turn (YieldsList-at c.into_iter-field-iterator.ensures.into_iter_gives p.1) c.loop-field.yielded c.loop-field.field-iterator c.loop-field.yielded_by c.next-in-loop-field.result c.next-in-loop-field.new.self c.in-Some.field c.in-Some.is c.next-in-loop-field.ensures.steps in
    record {
      count = omega (arith, length_push c.loop-field.yielded c.in-Some.field);
      few = omega arith;
      room = length-set _ _ _ ∙ c.loop-field.invariant.room;
      read = read_more _ _ _ _ _ c.loop-field.invariant.read (omega (arith, t.0)) (rw c.loop-field.invariant.count t.1) (sym c.number.ensures ∙ c.in_ok-numbers.was) (omega arith);
    }

pub returns-then-not-contains : goal.returns-then-not-contains
returns-then-not-contains c =
    let o : c.in_ok-shape.shape.least ≤ c.loop-field.count → c.loop-field.count ≤ c.in_ok-shape.shape.most → ⊥ = λ a b. grind (arith, common_steps) in
    let p = first_field c.args.line.now c.split-fields.result c.next.new.self c.in_ok-next.field-0 c.in_ok-next.ensures.steps c.split-fields.ensures.rest c.split-fields.ensures.done c.split-fields.ensures.closure (λ x b q k. search (rules, tests)) in
    let t = YieldsList-end (YieldsList-at c.into_iter-field-iterator.ensures.into_iter_gives p.1) c.loop-field.yielded c.loop-field.field-iterator c.loop-field.yielded_by c.next-in-loop-field.result c.next-in-loop-field.new.self c.in-None.is c.next-in-loop-field.ensures.steps in
    bad_count p.0 _ (sym c.verb_of.ensures ∙ c.in_ok-shape.was) (λ a b. o (omega (arith, t.1)) (omega (arith, t.1)))

pub returns : goal.returns
returns c =
    let i : (c.in_ok-shape.shape.least ≤ c.loop-field.count) × (c.loop-field.count ≤ c.in_ok-shape.shape.most) = (grind (arith, common_steps), grind (arith, common_steps)) in
    let p = first_field c.args.line.now c.split-fields.result c.next.new.self c.in_ok-next.field-0 c.in_ok-next.ensures.steps c.split-fields.ensures.rest c.split-fields.ensures.done c.split-fields.ensures.closure (λ x b q k. search (rules, tests)) in
    let t = YieldsList-end (YieldsList-at c.into_iter-field-iterator.ensures.into_iter_gives p.1) c.loop-field.yielded c.loop-field.field-iterator c.loop-field.yielded_by c.next-in-loop-field.result c.next-in-loop-field.new.self c.in-None.is c.next-in-loop-field.ensures.steps in
    good_call p.0 _ _ _ (sym c.verb_of.ensures ∙ c.in_ok-shape.was) (read_all _ _ _ c.loop-field.invariant.read (omega (arith, t.1))) (omega arith) i.0 i.1
