-- Sums over the parties below a number.
use Rattle.std.proofs.Common.{◌≡◌, ℕ, zero, suc, ◌+◌, ◌<◌, ◌≤◌, ⊎_elim, arith}
use Rattle.std.proofs.lemmas.Bool.{cases_eq}
use Rattle.matching.specs.Sums.{total}

pub total_same : (n : ℕ) (f g : ℕ → ℕ) → ((i : ℕ) → i < n → f i ≡ g i) → total n f ≡ total n g
total_same zero f g same = omega arith
total_same (suc n) f g same =
    let rest = total_same n f g (λ i h. same i (omega arith)) in
    let last = same n (omega arith) in
    omega arith

pub total_le : (n : ℕ) (f g : ℕ → ℕ) → ((i : ℕ) → i < n → f i ≤ g i) → total n f ≤ total n g
total_le zero f g le = omega arith
total_le (suc n) f g le =
    let rest = total_le n f g (λ i h. le i (omega arith)) in
    let last = le n (omega arith) in
    omega arith

-- a sum falls where one of its terms does and the others stay
pub total_falls : (n : ℕ) (f g : ℕ → ℕ) (x : ℕ) → x < n → g x < f x → ((i : ℕ) → (i ≡ x → ⊥) → g i ≡ f i) → total n g < total n f
total_falls zero f g x h less same = omega arith
total_falls (suc n) f g x h less same = ⊎_elim
    (λ e. let rest = total_same n g f (λ i b. same i (λ f. omega arith)) in let last : g n < f n = rw e at less in omega arith)
    (λ d. let rest = total_falls n f g x (omega arith) less same in let last = same n (λ f. d (omega arith)) in omega arith)
    (cases_eq x n)

-- what bounds each term bounds the sum
pub total_bound : (n : ℕ) (f g h : ℕ → ℕ) → ((i : ℕ) → i < n → f i ≤ g i + h i) → total n f ≤ total n g + total n h
total_bound zero f g h each = omega arith
total_bound (suc n) f g h each =
    let rest = total_bound n f g h (λ i l. each i (omega arith)) in
    let last = each n (omega arith) in
    omega arith

-- a sum of nothing has no term
pub total_zero : (n : ℕ) (f : ℕ → ℕ) → total n f ≡ 0 → (i : ℕ) → i < n → f i ≡ 0
total_zero zero f none i l = absurd (omega arith)
total_zero (suc n) f none i l = ⊎_elim
    (λ e. let last : f n ≡ 0 = omega arith in rw e last)
    (λ d. total_zero n f (omega arith) i (omega arith))
    (cases_eq i n)
