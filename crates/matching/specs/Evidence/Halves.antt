-- Every number is twice another, or one more.
use Rattle.std.specs.Prelude.{◌≡◌, ℕ, ◌/◌, ◌%◌, ◌⊎◌, ◌≢◌}
use Rattle.std.proofs.Common.{inl, inr, ⊎_elim, arith}
use Rattle.std.proofs.lemmas.Bool.{cases_lt}
use Rattle.matching.specs.TwoLevels.{lower, upper}

pub half_lower : (i : ℕ) → lower i / 2 ≡ i
half_lower i = omega arith

pub half_upper : (i : ℕ) → upper i / 2 ≡ i
half_upper i = omega arith

pub rest_lower : (i : ℕ) → lower i % 2 ≡ 0
rest_lower i = omega arith

pub rest_upper : (i : ℕ) → upper i % 2 ≡ 1
rest_upper i = omega arith

pub lower_or_upper : (x : ℕ) → (x ≡ lower (x / 2)) ⊎ (x ≡ upper (x / 2))
lower_or_upper x = ⊎_elim (λ h. inl (omega arith)) (λ h. inr (omega arith)) (cases_lt (x % 2) 1)

pub lower_once : (i k : ℕ) → lower i ≡ lower k → i ≡ k
lower_once i k e = omega arith

pub upper_once : (i k : ℕ) → upper i ≡ upper k → i ≡ k
upper_once i k e = omega arith

pub lower_not_upper : (i k : ℕ) → lower i ≢ upper k
lower_not_upper i k e = omega arith
