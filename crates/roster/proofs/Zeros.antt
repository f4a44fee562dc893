-- Parts of blocks that have to be zero, and the first byte there that is not.
use Rattle.std.proofs.Common.{◌≡◌, ℕ, ◌+◌, ◌-◌, ◌<◌, ◌≤◌, false, not, eqb, List, length, get_or, Some, None, sym, subst, arith}
use Rattle.std.specs.List.{position}
use Rattle.std.proofs.lemmas.List.Quantifiers.{position-Some}
use Rattle.std.proofs.lemmas.List.Sums.{fails_before_first}
use Rattle.std.proofs.lemmas.Bool.Decides.{nat_tests}
use Rattle.lists.specs.declared.faults.Fault.TheVariants.{BlockField}
use Rattle.lists.proofs.Earliest.{earliest_each, each_earliest, earliest_found}
use Rattle.roster.specs.Layout.{byte_at}
use Rattle.roster.specs.FirstFault.{byte_fault, zero_fault}
use Rattle.roster.proofs.Tests.{none_equal, equal_none}

-- zeros in a part of a block, and no fault among them
pub zeros_fit : (bs : List ℕ) (b from to : ℕ) → zero_fault bs b from to ≡ None → (i : ℕ) → from ≤ i → i < to → byte_at bs b i ≡ 0
zeros_fit bs b from to e i l h =
    let z : from + (i - from) ≡ i = omega arith in
    subst (λ (j : ℕ). byte_at bs b j ≡ 0) z
    (none_equal _ _ (BlockField b (from + (i - from))) (earliest_each (to - from) (λ (k : ℕ). byte_fault bs b (from + k) 0) e (i - from) (omega arith)))

pub fit_zeros : (bs : List ℕ) (b from to : ℕ) → ((i : ℕ) → from ≤ i → i < to → byte_at bs b i ≡ 0) → zero_fault bs b from to ≡ None
fit_zeros bs b from to h = each_earliest (to - from) (λ (k : ℕ). byte_fault bs b (from + k) 0)
    (λ k l. equal_none _ _ (BlockField b (from + k)) (h (from + k) (omega arith) (omega arith)))

-- the bytes of that part as a slice
module _ (bs : List ℕ) (b from to : ℕ) (xs : List ℕ) (len : from + length xs ≡ to)
    (same : (k : ℕ) → k < length xs → get_or xs k 0 ≡ byte_at bs b (from + k)) where
  span : to - from ≡ length xs
  span = omega arith

  at_zero : (k : ℕ) → k < length xs → not (eqb (get_or xs k 0) 0) ≡ false → byte_fault bs b (from + k) 0 ≡ None
  at_zero k l e = let s = same k l in grind (arith, nat_tests)

  pub zeros_none : position (λ v. not (eqb v 0)) xs ≡ None → None ≡ zero_fault bs b from to
  zeros_none e =
      rw span
      (sym (each_earliest (length xs) (λ k. byte_fault bs b (from + k) 0)
      (λ k l. at_zero k l (fails_before_first (λ v. not (eqb v 0)) xs k 0 (grind (arith, nat_tests))))))

  pub zeros_some : (i : ℕ) → position (λ v. not (eqb v 0)) xs ≡ Some i → Some (BlockField b (from + i)) ≡ zero_fault bs b from to
  zeros_some i e =
      let p = position-Some (λ v. not (eqb v 0)) xs i 0 e in
      let s = same i p.0 in
      rw span
      (sym (earliest_found i (length xs) (λ k. byte_fault bs b (from + k) 0) (BlockField b (from + i)) p.0
      (each_earliest i (λ k. byte_fault bs b (from + k) 0) (λ k l. at_zero k (omega arith) (p.2 k l)))
      (let t = p.1 in grind (arith, nat_tests))))
