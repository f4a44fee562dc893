use Rattle.std.proofs.Common.{◌≡◌, List, [], ◌∷◌, map, length, get_or, string_bytes, codes, sym, ap, ◌∙◌, subst, ap₂, arith}
use Rattle.std.proofs.lemmas.Bool.Decides.{nat_tests}
use Rattle.std.proofs.lemmas.Slice.Eq.{bytes_eq-Decides}
use Rattle.planner.specs.Commands.{Asks, Found}
use Rattle.planner.proofs.commands.Command.of.Goals as goal

-- a list of four, element by element
four : {A : Type 0} (xs : List A) (x y z w : A) → length xs ≡ 4 → x ≡ get_or xs 0 x → y ≡ get_or xs 1 y → z ≡ get_or xs 2 z
    → w ≡ get_or xs 3 w → xs ≡ x ∷ y ∷ z ∷ w ∷ []
four (a ∷ b ∷ c ∷ d ∷ []) x y z w e hx hy hz hw = cc
four [] x y z w e hx hy hz hw = absurd (omega arith)
four (a ∷ []) x y z w e hx hy hz hw = absurd (omega arith)
four (a ∷ b ∷ []) x y z w e hx hy hz hw = absurd (omega arith)
four (a ∷ b ∷ c ∷ []) x y z w e hx hy hz hw = absurd (omega arith)
four (a ∷ b ∷ c ∷ d ∷ g ∷ xs) x y z w e hx hy hz hw = absurd (omega arith)

pub returns-in-len4 : goal.returns-in-len4
returns-in-len4 c =
    let word = c.word-item-then-words-lt5 in
    let words = ap (map string_bytes) (four c.args.words.now word.result c.size-item.result c.crews-item.result c.sites-item.result (grind (arith, nat_tests)) word.is c.size-item.is c.crews-item.is c.sites-item.is) in
    let is = bytes_eq-Decides c.as_str-then-words-lt5.result.now (codes "--ring") in
    let first = sym (is.0 (sym c.if-eq.ensures)) ∙ c.as_str-then-words-lt5.ensures.value in
    let rest = ap₂ (λ s t. s ∷ t) c.as_str-in-len4.ensures.value (ap₂ (λ s t. s ∷ t ∷ []) c.as_str-in-len4-2.ensures.value c.as_str-in-len4-3.ensures.value) in
    subst (λ ws. Found c.of_ring.result (Asks ws)) (ap₂ (λ s t. s ∷ t) first rest ∙ sym words) c.of_ring.ensures
