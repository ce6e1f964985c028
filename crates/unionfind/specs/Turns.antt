-- One turn of `find_in` and of `halve`, by the tests that the code makes: k links are followed and the walk has come to i; o is what the whole call answers.
-- Assumes nothing.
use Rattle.std.specs.Prelude.{Ok, Result, ◌≡◌, ◌≢◌, List, ℕ, suc, ◌+◌, ◌≤◌, ◌<◌, ◌-◌, set}
use Rattle.broken.specs.declared.Broken.{Broken}
use Rattle.broken.specs.Words.{broken}
use Rattle.std.proofs.Math.Path.{sym}
use Rattle.std.proofs.Common.{◌∙◌}
use Rattle.std.proofs.Math.Decide.{ℕ_discrete, dec_lt}
use native.Mathlib.Omega.{arith}
use Rattle.lists.specs.Reads.{at}
use Rattle.lists.specs.Tests.{when_yes, when_no}
use Rattle.unionfind.specs.Words.{find_in, halve, Halved}

module _ (ps : List ℕ) (N : ℕ) (o : Result ℕ Broken) (k i : ℕ) where
  pub turn_none : o ≡ find_in ps N (N - k) i → N ≤ k → broken ≡ o
  unfolding find_in
  turn_none e h = let z : N - k ≡ 0 = omega arith in sym (rw z at e)

  pub turn_here : o ≡ find_in ps N (N - k) i → k < N → at ps i ≡ i → Ok i ≡ o
  unfolding find_in
  turn_here e h r = let z : N - k ≡ suc (N - (k + 1)) = omega arith in sym ((rw z at e) ∙ when_yes (ℕ_discrete (at ps i) i) _ _ r)

  pub turn_out : o ≡ find_in ps N (N - k) i → k < N → at ps i ≢ i → N ≤ at ps i → broken ≡ o
  unfolding find_in
  turn_out e h r q =
      let z : N - k ≡ suc (N - (k + 1)) = omega arith in
      sym ((rw z at e) ∙ when_no (ℕ_discrete (at ps i) i) _ _ r ∙ when_no (dec_lt (at ps i) N) _ _ (λ l. omega arith))

  pub turn_step : o ≡ find_in ps N (N - k) i → k < N → at ps i ≢ i → at ps i < N → o ≡ find_in ps N (N - (k + 1)) (at ps i)
  unfolding find_in
  turn_step e h r q =
      let z : N - k ≡ suc (N - (k + 1)) = omega arith in
      (rw z at e) ∙ when_no (ℕ_discrete (at ps i) i) _ _ r ∙ when_yes (dec_lt (at ps i) N) _ _ q

module _ (ps : List ℕ) (N : ℕ) (o : Halved) (k i : ℕ) where
  pub mend_none : o ≡ halve ps N (N - k) i → N ≤ k → o ≡ record { answer = broken; left = ps }
  unfolding halve
  mend_none e h = let z : N - k ≡ 0 = omega arith in rw z at e

  pub mend_here : o ≡ halve ps N (N - k) i → k < N → at ps i ≡ i → o ≡ record { answer = Ok i; left = ps }
  unfolding halve
  mend_here e h r = let z : N - k ≡ suc (N - (k + 1)) = omega arith in (rw z at e) ∙ when_yes (ℕ_discrete (at ps i) i) _ _ r

  pub mend_out : o ≡ halve ps N (N - k) i → k < N → at ps i ≢ i → N ≤ at ps i → o ≡ record { answer = broken; left = ps }
  unfolding halve
  mend_out e h r q =
      let z : N - k ≡ suc (N - (k + 1)) = omega arith in
      (rw z at e) ∙ when_no (ℕ_discrete (at ps i) i) _ _ r ∙ when_no (dec_lt (at ps i) N) _ _ (λ l. omega arith)

  pub mend_far : o ≡ halve ps N (N - k) i → k < N → at ps i ≢ i → at ps i < N → N ≤ at ps (at ps i) → o ≡ record { answer = broken; left = ps }
  unfolding halve
  mend_far e h r q far =
      let z : N - k ≡ suc (N - (k + 1)) = omega arith in
      (rw z at e) ∙ when_no (ℕ_discrete (at ps i) i) _ _ r ∙ when_yes (dec_lt (at ps i) N) _ _ q ∙ when_no (dec_lt (at ps (at ps i)) N) _ _ (λ l. omega arith)

  pub mend_step : o ≡ halve ps N (N - k) i → k < N → at ps i ≢ i → at ps i < N → at ps (at ps i) < N
      → o ≡ halve (set ps i (at ps (at ps i))) N (N - (k + 1)) (at ps (at ps i))
  unfolding halve
  mend_step e h r q near =
      let z : N - k ≡ suc (N - (k + 1)) = omega arith in
      (rw z at e) ∙ when_no (ℕ_discrete (at ps i) i) _ _ r ∙ when_yes (dec_lt (at ps i) N) _ _ q ∙ when_yes (dec_lt (at ps (at ps i)) N) _ _ near
