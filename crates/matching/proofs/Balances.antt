-- Sums with a sign over the numbers below n, and a sum over one side read as a sum over the other.
use Rattle.std.proofs.Common.{◌≡◌, ℕ, zero, suc, ◌<◌, ◌≤◌, cond, eqb, ℤ, pos, ◌+ℤ◌, neg_ℤ, ◌≤ℤ◌, sym, refl, ap, ◌∙◌, ⊎_elim, arith}
use Rattle.std.proofs.lemmas.Int.{ints}
use Rattle.std.proofs.lemmas.Bool.{cases_eq, cond-true, cond-false, eq-eqb, ne_eqb}
use Rattle.matching.specs.Sums.{balance, total}

pub balance_same : (n : ℕ) (f g : ℕ → ℤ) → ((i : ℕ) → i < n → f i ≡ g i) → balance n f ≡ balance n g
balance_same zero f g same = refl
balance_same (suc n) f g same =
    let rest = balance_same n f g (λ i h. same i (omega arith)) in
    let last = same n (omega arith) in
    omega (arith, ints)

pub balance_turned : (n : ℕ) (f g : ℕ → ℤ) → ((i : ℕ) → f i ≡ neg_ℤ (g i)) → balance n f ≡ neg_ℤ (balance n g)
balance_turned zero f g turned = refl
balance_turned (suc n) f g turned =
    let rest = balance_turned n f g turned in
    let last = turned n in
    omega (arith, ints)

-- what bounds each term bounds the sum
pub balance_bound : (n : ℕ) (f a b : ℕ → ℤ) (m : ℕ → ℕ) → ((i : ℕ) → i < n → ((f i +ℤ pos (m i)) +ℤ a i) ≤ℤ b i) →
    ((balance n f +ℤ pos (total n m)) +ℤ balance n a) ≤ℤ balance n b
balance_bound zero f a b m each = omega (arith, ints)
balance_bound (suc n) f a b m each =
    let rest = balance_bound n f a b m (λ i h. each i (omega arith)) in
    let last = each n (omega arith) in
    omega (arith, ints)

balance_zero : (n : ℕ) → balance n (λ _. pos 0) ≡ pos 0
balance_zero zero = refl
balance_zero (suc n) = let rest = balance_zero n in omega (arith, ints)

balance_sum : (n : ℕ) (f g : ℕ → ℤ) → balance n (λ i. f i +ℤ g i) ≡ balance n f +ℤ balance n g
balance_sum zero f g = refl
balance_sum (suc n) f g = let rest = balance_sum n f g in omega (arith, ints)

-- the order of two sums does not matter
balance_exchanged : (n m : ℕ) (w : ℕ → ℕ → ℤ) → balance n (λ i. balance m (λ j. w i j)) ≡ balance m (λ j. balance n (λ i. w i j))
balance_exchanged zero m w = sym (balance_zero m)
balance_exchanged (suc n) m w =
    let rest = balance_exchanged n m w in
    let parts = balance_sum m (λ j. balance n (λ i. w i j)) (λ j. w n j) in
    omega (arith, ints)

-- the value at a partner written as in a plan, 0 where there is none
abbrev pub at : ℕ → (ℕ → ℤ) → ℤ
at zero h = pos 0
at (suc j) h = h j

-- of a sum in which only the partner's term counts, that term is left
balance_none : (n k : ℕ) (h : ℕ → ℤ) → ((j : ℕ) → j < n → k ≡ suc j → ⊥) → balance n (λ j. cond (eqb k (suc j)) (h j) (pos 0)) ≡ pos 0
balance_none n k h none =
    balance_same n (λ j. cond (eqb k (suc j)) (h j) (pos 0)) (λ _. pos 0) (λ j l. cond-false _ _ _ (ne_eqb k (suc j) (none j l))) ∙ balance_zero n

balance_at : (n k : ℕ) (h : ℕ → ℤ) → k ≤ n → balance n (λ j. cond (eqb k (suc j)) (h j) (pos 0)) ≡ at k h
balance_at n zero h few = balance_none n 0 h (λ j l e. omega arith)
balance_at zero (suc k) h few = absurd (omega arith)
balance_at (suc n) (suc k) h few = ⊎_elim
    (λ e. let none = balance_none n (suc k) h (λ j l f. omega arith) in
    let here = cond-true (eqb (suc k) (suc n)) (h n) (pos 0) (eq-eqb (suc k) (suc n) (omega arith)) in
    let same = ap h e in
    omega (arith, ints))
    (λ d. let rest = balance_at n (suc k) h (omega arith) in
    let here = cond-false (eqb (suc k) (suc n)) (h n) (pos 0) (ne_eqb (suc k) (suc n) (λ f. d (omega arith))) in
    omega (arith, ints))
    (cases_eq k n)

-- partners below two numbers, each the other's
pub record Mutual (n m : ℕ) (f g : ℕ → ℕ) : Type 0 where
  pub there : (i j : ℕ) → i < n → f i ≡ suc j → (j < m) × (g j ≡ suc i)
  pub back : (j i : ℕ) → j < m → g j ≡ suc i → (i < n) × (f i ≡ suc j)

-- a sum over pairs is the same over either partner
pub balance_pairs : (n m : ℕ) (f g : ℕ → ℕ) → Mutual n m f g → (w : ℕ → ℕ → ℤ) →
    balance n (λ i. at (f i) (w i)) ≡ balance m (λ j. at (g j) (λ i. w i j))
balance_pairs n m f g pairing w =
    balance_same n (λ i. at (f i) (w i)) (λ i. balance m (λ j. cond (eqb (f i) (suc j)) (w i j) (pos 0)))
    (λ i h. sym (balance_at m (f i) (w i) (below (f i) m (λ k e. (pairing.there i k h e).0))))
    ∙ balance_exchanged n m (λ i j. cond (eqb (f i) (suc j)) (w i j) (pos 0))
    ∙ balance_same m (λ j. balance n (λ i. cond (eqb (f i) (suc j)) (w i j) (pos 0))) (λ j. at (g j) (λ i. w i j))
    (λ j h. balance_same n (λ i. cond (eqb (f i) (suc j)) (w i j) (pos 0)) (λ i. cond (eqb (g j) (suc i)) (w i j) (pos 0))
    (λ i l. ap (λ b. cond b (w i j) (pos 0)) (alike i j l h))
    ∙ balance_at n (g j) (λ i. w i j) (below (g j) n (λ k e. (pairing.back j k h e).0)))
  where
    below : (k l : ℕ) → ((p : ℕ) → k ≡ suc p → p < l) → k ≤ l
    below zero l h = omega arith
    below (suc k) l h = omega (arith, h k refl)

    alike : (i j : ℕ) → i < n → j < m → eqb (f i) (suc j) ≡ eqb (g j) (suc i)
    alike i j hi hj = ⊎_elim
        (λ e. eq-eqb (f i) (suc j) e ∙ sym (eq-eqb (g j) (suc i) (pairing.there i j hi e).1))
        (λ d. ne_eqb (f i) (suc j) d ∙ sym (ne_eqb (g j) (suc i) (λ e. d (pairing.back j i hj e).1)))
        (cases_eq (f i) (suc j))
