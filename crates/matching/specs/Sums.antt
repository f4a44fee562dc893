-- Sums and counts over the numbers below n.
use Rattle.std.specs.Prelude.{ℕ, zero, suc, ◌+◌, Bool, cond, ℤ, pos, ◌+ℤ◌}

-- the sum of f
abbrev pub total : ℕ → (ℕ → ℕ) → ℕ
total zero f = 0
total (suc n) f = total n f + f n

-- the sum of f, where f has a sign
abbrev pub balance : ℕ → (ℕ → ℤ) → ℤ
balance zero f = pos 0
balance (suc n) f = balance n f +ℤ f n

-- how many pass a test
abbrev pub tally : ℕ → (ℕ → Bool) → ℕ
tally n b = total n (λ i. cond (b i) 1 0)
