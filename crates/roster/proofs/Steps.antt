-- Numbers from one on up, one by one.
use Rattle.std.proofs.Common.{ℕ, ◌+◌, ◌<◌, ◌≤◌, sym, subst, ⊎_elim, arith}
use Rattle.std.proofs.lemmas.Bool.{cases_eq}

module _ (P : ℕ → Type 0) (m n : ℕ) where
  -- the first of them, and the rest
  pub first_then : P n → ((i : ℕ) → n + 1 ≤ i → i < m → P i) → (i : ℕ) → n ≤ i → i < m → P i
  first_then p rest i l h = ⊎_elim (λ e. subst P (sym e) p) (λ ne. rest i (omega arith) h) (cases_eq i n)

  pub none_left : m ≤ n → (i : ℕ) → n ≤ i → i < m → P i
  none_left e i l h = absurd (omega arith)
