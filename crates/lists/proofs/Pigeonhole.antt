-- Different numbers below n are at most n, so a party names at most as many as the other side has.
use Rattle.std.proofs.Common.{◌≡◌, ℕ, ◌<◌, ◌≤◌, List, true, eqb, length, get_or, sym, ◌∙◌, arith}
use Rattle.std.specs.List.{Any, IsDistinct}
use Rattle.std.proofs.lemmas.Bool.{eqb-true, ne_eqb}
use Rattle.std.proofs.lemmas.Grind.{get_or_default_zero}
use Rattle.std.proofs.lemmas.List.Folds.{Any-from_list_any}
use Rattle.std.proofs.lemmas.Map.Keys.{IsDistinct-from_apart}
use Rattle.std.proofs.lemmas.Map.Steps.{length-le_from_distinct_below}
use Rattle.lists.specs.Rankings.{Rankings, Lawful, ranks, size}
use Rattle.lists.specs.Evidence.Places.{Distinct}
use Rattle.lists.specs.Sides.{other}
use Rattle.lists.specs.declared.parties.Side.{Side}

pub distinct_few : (xs : List ℕ) (n : ℕ) → ((k : ℕ) → k < length xs → get_or xs k 0 < n) → Distinct xs → length xs ≤ n
distinct_few xs n within once = length-le_from_distinct_below xs n apart (λ q e. named q (Any-from_list_any (eqb q) xs e))
  where
    apart : IsDistinct eqb xs
    apart = IsDistinct-from_apart eqb xs (λ a b d l h. ne_eqb (get_or xs a d) (get_or xs b d) (λ e.
        let same = once a b (omega arith) h (sym (get_or_default_zero xs a d (omega arith)) ∙ e ∙ get_or_default_zero xs b d h) in
        omega arith))

    named : (q : ℕ) → Any (λ x. eqb q x ≡ true) xs → q < n
    named q (k, x, h, at, is) = omega (arith, within k h, eqb-true q x is, get_or_default_zero xs k x h)

pub length_few : (L : Rankings) → Lawful L → (s : Side) (i : ℕ) → length (ranks L s i) ≤ 500
length_few L lawful s i =
    let few = distinct_few (ranks L s i) (size L (other s)) (lawful.within s i) (lawful.once s i) in
    omega (arith, few, lawful.few (other s))
