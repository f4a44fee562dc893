-- The weighted sum of bytes, step by step.
use Rattle.std.proofs.Common.{◌≡◌, ℕ, zero, suc, ◌+◌, ◌*◌, ◌<◌, ◌≤◌, refl, subst, ap₂, mul-le-mul, arith}
use Rattle.roster.specs.Layout.{weighted}

pub weighted_none : (f : ℕ → ℕ) → weighted f 0 ≡ 0
unfolding weighted
weighted_none f = refl

pub weighted_more : (f : ℕ → ℕ) (n : ℕ) → weighted f (n + 1) ≡ weighted f n + (n + 1) * f n
unfolding weighted
weighted_more f n =
    let e : suc n ≡ n + 1 = omega arith in
    subst (λ (m : ℕ). weighted f m ≡ weighted f n + (n + 1) * f n) e refl

pub weight_bound : (i b : ℕ) → i < 508 → b < 256 → (i + 1) * b ≤ 129540
weight_bound i b h l =
    let p : i + 1 ≤ 508 = omega arith in
    let q : b ≤ 255 = omega arith in
    mul-le-mul p q

pub weighted_same : (f g : ℕ → ℕ) (n : ℕ) → ((i : ℕ) → i < n → f i ≡ g i) → weighted f n ≡ weighted g n
unfolding weighted
weighted_same f g zero h = refl
weighted_same f g (suc n) h =
    ap₂ (λ (a b : ℕ). a + (n + 1) * b) (weighted_same f g n (λ i l. h i (omega arith))) (h n (omega arith))
