-- Tables of places, as a number is put behind a list.
use Rattle.std.proofs.Common.{◌≡◌, ℕ, ◌+◌, ◌<◌, ◌≤◌, cond, eqb, List, [], ◌∷◌, ◌++◌, length, get_or, set, Some, None, Option, refl, ◌∙◌, ⊎_elim, arith, one-add}
use Rattle.std.proofs.lemmas.Bool.{cases_lt, cases_eq}
use Rattle.std.proofs.lemmas.Bool.Decides.{nat_tests}
use Rattle.std.proofs.lemmas.List.{get_or-set_same, get_or-set_other, get_or_past, length_push}
use Rattle.std.proofs.lemmas.List.Folds.{position_or_len_push}
use Rattle.std.proofs.lemmas.List.Recursion.{is_position_or_len}
use Rattle.std.specs.List.{position_or_len}
use Rattle.lists.specs.Rankings.{place}
use Rattle.lists.specs.Evidence.Places.{place_le}
use Rattle.roster.specs.Held.{Placed}

-- a table without places fits a list that names nobody
pub Placed_none : (places : List (Option ℕ)) → ((v : ℕ) → v < length places → get_or places v None ≡ None) → Placed [] places
Placed_none places none v = ⊎_elim (none v) (get_or_past places v None) (cases_lt v (length places))

place_first_passing : (xs : List ℕ) (v : ℕ) → place xs v ≡ position_or_len (λ x. eqb x v) xs
place_first_passing xs v = is_position_or_len (λ ys. place ys v) (λ x. eqb x v) refl (λ x ys. rw one-add refl) xs

place_push : (xs : List ℕ) (v w : ℕ) → place (xs ++ v ∷ []) w ≡ cond (eqb (place xs w) (length xs)) (length xs + cond (eqb v w) 0 1) (place xs w)
place_push xs v w = rw (place_first_passing (xs ++ v ∷ []) w, place_first_passing xs w) (position_or_len_push (λ x. eqb x w) xs v)

module _ (xs : List ℕ) (places : List (Option ℕ)) (h : Placed xs places) (v : ℕ) (low : v < length places) (absent : length xs ≤ place xs v) where
  pub Placed_push : Placed (xs ++ v ∷ []) (set places v (Some (length xs)))
  Placed_push w =
      let long = length_push xs v in
      let after = place_push xs v w in
      let within = place_le xs w in
      ⊎_elim
      (λ e. rw e (get_or-set_same places v (Some (length xs)) None low ∙ grind (arith, nat_tests)))
      (λ ne. get_or-set_other places v w (Some (length xs)) None ne ∙ h w ∙ grind (arith, nat_tests))
      (cases_eq w v)
