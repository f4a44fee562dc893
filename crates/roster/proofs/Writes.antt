-- Lists that are counted out and lists that are written into.
use Rattle.std.proofs.Common.{◌≡◌, ℕ, zero, suc, ◌+◌, ◌<◌, ◌≢◌, List, map, length, get_or, set, sym, refl, ◌∙◌, subst, ⊎_elim, arith}
use Rattle.std.specs.List.{range_with_len}
use Rattle.std.proofs.lemmas.List.FromFn.{get_or-map-range_with_len, length-map-range_with_len, fill_by_all}
use Rattle.std.proofs.lemmas.List.{get_or-set_same, get_or-set_other}
use Rattle.std.proofs.lemmas.Bool.{cases_lt}

-- lists made by functions that agree
pub counted_same : {X : Type 0} (f g : ℕ → X) (n : ℕ) → ((i : ℕ) → i < n → f i ≡ g i) → map f (range_with_len 0 n) ≡ map g (range_with_len 0 n)
counted_same f g zero h = refl
counted_same f g (suc n) h =
    fill_by_all g (map f (range_with_len 0 (suc n))) (suc n) (f 0) (length-map-range_with_len f 0 (suc n))
    (λ k l. get_or-map-range_with_len f 0 (suc n) k k (f 0) l (omega arith) ∙ h k l)

-- what holds of every element below a number, after a write at it
pub each_set : {X : Type 0} (Q : ℕ → X → Type 0) (xs : List X) (n : ℕ) (x d : X) → n < length xs
    → ((i : ℕ) → i < n → Q i (get_or xs i d)) → Q n x → (i : ℕ) → i < n + 1 → Q i (get_or (set xs n x) i d)
each_set Q xs n x d l below here i b = ⊎_elim
    (λ h. let ne : i ≢ n = omega arith in subst (Q i) (sym (get_or-set_other xs n i x d ne)) (below i h))
    (λ h.
    let e : n ≡ i = omega arith in
    subst (λ (j : ℕ). Q j (get_or (set xs n x) j d)) e (subst (Q n) (sym (get_or-set_same xs n x d l)) here))
    (cases_lt i n)
