-- Finite forms, which document 01 prices ("The price of a form", and demand 2's "any finite form"): an operator, a payload and the forms below, left to right.
-- A form is of a class if the class has a node with that operator and payload whose children's classes have the forms below, place by place.
-- Assumes nothing.
use Rattle.std.specs.Prelude.{List, [], ◌∷◌, ℕ}
use Rattle.language.specs.Term.{Term}

infixr 20 ◌then◌
mutual
  pub data Form : Type 0 where
    form : ℕ → ℕ → Forms → Form

  pub data Forms : Type 0 where
    no_form : Forms
    ◌then◌ : Form → Forms → Forms

-- f is a form of class r, if `Has r x` says that class r has the node x, whose children are classes
unfoldable mutual
  pub In : (Has : ℕ → Term → Type 0) → Form → ℕ → Type 0
  In Has (form o l fs) r = (cs : List ℕ) × Has r (record { op = o; payload = l; kids = cs }) × InEach Has fs cs

  pub InEach : (Has : ℕ → Term → Type 0) → Forms → List ℕ → Type 0
  InEach Has no_form [] = Unit {0}
  InEach Has no_form (c ∷ cs) = ⊥
  InEach Has (f then fs) [] = ⊥
  InEach Has (f then fs) (c ∷ cs) = In Has f c × InEach Has fs cs

-- where more is had, a form is still one
mutual
  unfolding In

  pub in_map : (f : Form) (H K : ℕ → Term → Type 0) (r : ℕ) → ((q : ℕ) (x : Term) → H q x → K q x) → In H f r → In K f r
  in_map (form o l fs) H K r w h = (h.0, w r (record { op = o; payload = l; kids = h.0 }) h.1, in_each_map fs H K h.0 w h.2)

  pub in_each_map : (fs : Forms) (H K : ℕ → Term → Type 0) (cs : List ℕ) → ((q : ℕ) (x : Term) → H q x → K q x) → InEach H fs cs → InEach K fs cs
  in_each_map no_form H K [] w h = tt
  in_each_map no_form H K (c ∷ cs) w h = absurd h
  in_each_map (f then fs) H K [] w h = absurd h
  in_each_map (f then fs) H K (c ∷ cs) w h = (in_map f H K c w h.0, in_each_map fs H K cs w h.1)
