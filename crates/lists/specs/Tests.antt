-- Tests: a choice by a decision, decisions put together, and what a bool answer says.
-- Assumes nothing.
use Rattle.std.specs.Prelude.{◌≡◌, ◌≢◌, ◌⊎◌, Bool, true, false, ℕ, ◌≤◌, ◌<◌}
use Rattle.std.proofs.Common.{inl, inr, arith}
use Rattle.std.proofs.Math.Logic.{ite, if_pos, if_neg}
use Rattle.std.proofs.Math.Decide.{ℕ_discrete, dec_lt}

-- ---- a choice

-- a if the test says yes, b if it says no
abbrev pub when {ℓ} : {P : Type 0} {A : Type ℓ} → Dec P → A → A → A
when d a b = ite d a b

pub when_yes {ℓ} : {P : Type 0} {A : Type ℓ} (d : Dec P) (a b : A) → P → when d a b ≡ a
when_yes d a b h = if_pos d h a b

pub when_no {ℓ} : {P : Type 0} {A : Type ℓ} (d : Dec P) (a b : A) → ¬ P → when d a b ≡ b
when_no d a b h = if_neg d h a b

-- ---- decisions that compute

abbrev pub both : {P Q : Type 0} → Dec P → Dec Q → Dec (P × Q)
both (yes p) (yes q) = yes (p, q)
both (yes p) (no n) = no (λ e. n e.1)
both (no n) d = no (λ e. n e.0)

abbrev pub re_dec : {P Q : Type 0} → (P → Q) → (Q → P) → Dec P → Dec Q
re_dec f g (yes p) = yes (f p)
re_dec f g (no n) = no (λ q. n (g q))

-- ---- two numbers, as a sum of two facts

pub eq_or : (x y : ℕ) → (x ≡ y) ⊎ (x ≢ y)
eq_or x y = go (ℕ_discrete x y)
  where
    go : Dec (x ≡ y) → (x ≡ y) ⊎ (x ≢ y)
    go (yes e) = inl e
    go (no n) = inr n

pub lt_or : (x y : ℕ) → (x < y) ⊎ (y ≤ x)
lt_or x y = go (dec_lt x y)
  where
    go : Dec (x < y) → (x < y) ⊎ (y ≤ x)
    go (yes h) = inl h
    go (no n) = inr (omega arith)

-- ---- two constructors of one type

-- they differ: from an equation between two of them `cc` draws this one
pub zero_one {ℓ} : {A : Type ℓ} → ◌≡◌ {A = ℕ} 0 1 → A
zero_one e = absurd (omega arith)

-- ---- a function that answers a bool

-- r says whether P holds
pub record Says (r : Bool) (P : Type 0) : Type 0 where
  pub holds : r ≡ true → P
  pub fails : r ≡ false → P → ⊥

pub says_yes : {P : Type 0} → P → Says true P
says_yes p = record { holds = λ e. p; fails = λ (e : true ≡ false) q. zero_one cc }

pub says_no : {P : Type 0} → (P → ⊥) → Says false P
says_no n = record { holds = λ (e : false ≡ true). zero_one cc; fails = λ e p. n p }
