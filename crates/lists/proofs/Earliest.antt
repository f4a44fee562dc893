-- What the first of several faults tells of each of them.
use Rattle.std.proofs.Common.{◌≡◌, ℕ, zero, suc, ◌+◌, ◌-◌, ◌<◌, Some, None, Option, refl, ◌∙◌, ⊎_elim, add-one, arith}
use Rattle.std.proofs.lemmas.Bool.{cases_lt}
use Rattle.lists.specs.Order.{or_else, earliest}

module _ {X : Type 0} where
  pub or_none : (a b : Option X) → a ≡ None → b ≡ None → or_else a b ≡ None
  or_none a b p q = rw p q

  pub or_first : (a b : Option X) (x : X) → a ≡ Some x → or_else a b ≡ Some x
  or_first a b x p = rw p refl

  pub or_second : (a b : Option X) → a ≡ None → or_else a b ≡ b
  or_second a b p = rw p refl

  pub none_first : (a b : Option X) → or_else a b ≡ None → a ≡ None
  none_first None b e = refl
  none_first (Some x) b e = e

  pub none_second : (a b : Option X) → or_else a b ≡ None → b ≡ None
  none_second None b e = e
  none_second (Some x) b e = absurd (let z : ◌≡◌ {A = ℕ} 0 1 = cc in omega arith)

  -- nothing is found below 0
  pub earliest_none : (f : ℕ → Option X) → earliest 0 f ≡ None
  unfolding earliest
  earliest_none f = refl

  pub earliest_more : (n : ℕ) (f : ℕ → Option X) → earliest (n + 1) f ≡ or_else (earliest n f) (f n)
  unfolding earliest
  earliest_more n f = rw add-one refl

  -- nothing below a number and nothing at it
  pub earliest_step : (n : ℕ) (f : ℕ → Option X) → earliest n f ≡ None → f n ≡ None → earliest (n + 1) f ≡ None
  earliest_step n f p q = earliest_more n f ∙ or_none (earliest n f) (f n) p q

  -- what is found first stays the first
  pub earliest_stays : (n d : ℕ) (f : ℕ → Option X) (x : X) → earliest n f ≡ Some x → earliest (n + d) f ≡ Some x
  earliest_stays n zero f x p = let e : n + 0 ≡ n = omega arith in rw e p
  earliest_stays n (suc d) f x p =
      let e : n + suc d ≡ (n + d) + 1 = omega arith in
      rw e (earliest_more (n + d) f ∙ or_first (earliest (n + d) f) (f (n + d)) x (earliest_stays n d f x p))

  pub earliest_found : (n m : ℕ) (f : ℕ → Option X) (x : X) → n < m → earliest n f ≡ None → f n ≡ Some x → earliest m f ≡ Some x
  earliest_found n m f x l p q =
      let e : m ≡ (n + 1) + (m - (n + 1)) = omega arith in
      rw e (earliest_stays (n + 1) (m - (n + 1)) f x (earliest_more n f ∙ or_second (earliest n f) (f n) p ∙ q))

  -- nothing found: nothing at each
  pub earliest_each : (n : ℕ) (f : ℕ → Option X) → earliest n f ≡ None → (k : ℕ) → k < n → f k ≡ None
  unfolding earliest
  earliest_each zero f e k l = absurd (omega arith)
  earliest_each (suc n) f e k l =
      ⊎_elim (λ h. earliest_each n f (none_first (earliest n f) (f n) e) k h)
      (λ h. let s : k ≡ n = omega arith in rw s (none_second (earliest n f) (f n) e))
      (cases_lt k n)

  pub each_earliest : (n : ℕ) (f : ℕ → Option X) → ((k : ℕ) → k < n → f k ≡ None) → earliest n f ≡ None
  unfolding earliest
  each_earliest zero f h = refl
  each_earliest (suc n) f h =
      or_none (earliest n f) (f n) (each_earliest n f (λ k l. h k (omega arith))) (h n (omega arith))
