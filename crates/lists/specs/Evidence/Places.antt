-- What the place of a number in a list tells of the list.
use Rattle.std.specs.Prelude.{◌≡◌, ℕ, suc, ◌+◌, ◌<◌, ◌≤◌, cond, not, List, length, Some, None, ◌==◌, ◌≢◌, nat_lt, slice_index, refl}
use Rattle.std.specs.List.{position_or_len}
use Rattle.std.proofs.Common.{ap, sym, ◌∙◌, ⊎_elim, arith}
use Rattle.std.proofs.lemmas.Bool.{cases_lt, eqb-true, eqb-false, lt-ltb, le-ltb, cond-true, cond-false}
use Rattle.std.proofs.lemmas.List.Recursion.{is_position_or_len}
use Rattle.std.proofs.lemmas.List.Sums.{passes_at_first, fails_before_first, prefix_len-le-length}
use Rattle.lists.specs.Rankings.{place}

-- it is the first that passes the test for that number, as the library has it
place_is : (xs : List ℕ) (v : ℕ) → place xs v ≡ position_or_len (λ x. x == v) xs
place_is xs v = is_position_or_len (λ l. place l v) (λ x. x == v) refl (λ x l. ap (λ n. cond (x == v) 0 n) (let e : suc (place l v) ≡ 1 + place l v = omega arith in e)) xs

pub place_le : (xs : List ℕ) (v : ℕ) → place xs v ≤ length xs
place_le xs v = omega (arith, place_is xs v, prefix_len-le-length (λ x. not (x == v)) xs)

-- what stands at the place
pub get_or_place : (xs : List ℕ) (v : ℕ) → place xs v < length xs → slice_index xs (place xs v) ≡ v
get_or_place xs v h = rw (place_is xs v) (eqb-true _ _ (passes_at_first (λ x. x == v) xs 0 (omega (arith, place_is xs v))))

-- it stands nowhere before
pub place_first : (xs : List ℕ) (v k : ℕ) → k < length xs → slice_index xs k ≡ v → place xs v ≤ k
place_first xs v k h e =
    ⊎_elim (λ l. absurd (eqb-false (slice_index xs k) v (fails_before_first (λ x. x == v) xs k 0 (omega (arith, place_is xs v))) e)) (λ l. l) (cases_lt k (place xs v))

-- a list that names nobody twice
abbrev pub Distinct : List ℕ → Type 0
Distinct xs = (k m : ℕ) → k < length xs → m < length xs → slice_index xs k ≡ slice_index xs m → k ≡ m

-- in such a list the place is the one where the number stands
pub place_at : (xs : List ℕ) → Distinct xs → (v k : ℕ) → k < length xs → slice_index xs k ≡ v → place xs v ≡ k
place_at xs once v k h e =
    let first = place_first xs v k h e in
    once (place xs v) k (omega arith) h (get_or_place xs v (omega arith) ∙ sym e)

-- a number that stands nowhere has no place
pub no_place : (xs : List ℕ) (v : ℕ) → ((k : ℕ) → k < length xs → slice_index xs k ≢ v) → length xs ≤ place xs v
no_place xs v none =
    ⊎_elim (λ h. absurd (none (place xs v) h (get_or_place xs v h))) (λ h. h) (cases_lt (place xs v) (length xs))

-- an Option that a test gives, read by its two cases
module _ {X : Type 0} (k n : ℕ) (x : X) where
  pub given_some : (y : X) → Some y ≡ cond (nat_lt k n) (Some x) None → (k < n) × (y ≡ x)
  given_some y e = ⊎_elim
      (λ h. let t = lt-ltb k n h in (h, (let s : Some y ≡ Some x = e ∙ cond-true (nat_lt k n) (Some x) None t in cc)))
      (λ h. let s : Some y ≡ None = e ∙ cond-false (nat_lt k n) (Some x) None (le-ltb k n h) in absurd (let z : ◌≡◌ {A = ℕ} 0 1 = cc in omega arith))
      (cases_lt k n)

  pub given_none : None ≡ cond (nat_lt k n) (Some x) None → n ≤ k
  given_none e = ⊎_elim
      (λ h. let s : None ≡ Some x = e ∙ cond-true (nat_lt k n) (Some x) None (lt-ltb k n h) in absurd (let z : ◌≡◌ {A = ℕ} 0 1 = cc in omega arith))
      (λ h. h)
      (cases_lt k n)

  pub gives_some : (y : X) → k < n → y ≡ x → Some y ≡ cond (nat_lt k n) (Some x) None
  gives_some y h e = ap Some e ∙ sym (cond-true (nat_lt k n) (Some x) None (lt-ltb k n h))

  pub gives_none : n ≤ k → None ≡ cond (nat_lt k n) (Some x) None
  gives_none h = sym (cond-false (nat_lt k n) (Some x) None (le-ltb k n h))
