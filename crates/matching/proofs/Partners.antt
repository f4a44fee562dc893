-- Whom a plan gives a party, read from either side.
use Rattle.std.proofs.Common.{◌≡◌, ℕ, zero, suc, ◌<◌, true, ltb, List, [], length, get_or, sym, refl, ap, ◌∙◌, ⊎_elim, arith}
use Rattle.std.proofs.lemmas.List.{get_or_past}
use Rattle.std.proofs.lemmas.Bool.{cases_lt, cond-true, cond_both, lt-ltb, ltb-true}
use Rattle.lists.specs.Rankings.{Rankings, Names, half, place, size}
use Rattle.lists.specs.Evidence.Places.{get_or_place, place_first}
use Rattle.lists.specs.declared.parties.Side.{Side}
use Rattle.lists.specs.declared.parties.Side.TheVariants.{Crew, Site}
use Rattle.matching.specs.Plans.{With, PlanOn, partner_of, placed}
use Rattle.matching.proofs.Balances.{Mutual}

-- a crew that has a partner is within the plan
pub within_plan : (P : List ℕ) (i j : ℕ) → With P Crew i j → i < length P
within_plan P i j w = ⊎_elim (λ h. h) (λ h. absurd (let z = get_or_past P i 0 h in omega arith)) (cases_lt i (length P))

-- a party that names another is one of its side
pub naming : (L : Rankings) (s : Side) (i j : ℕ) → Names L s i j → i < size L s
naming L s i j h = ⊎_elim (λ m. m) (λ m. absurd (let z = ap length (get_or_past (half L s) i [] m) in omega arith)) (cases_lt i (size L s))

-- the partner of a party is with it
pub partner_with : (P : List ℕ) (s : Side) (i j : ℕ) → partner_of P s i ≡ suc j → With P s i j
partner_with P Crew i j e = e
partner_with P Site j i e =
    cond_both (ltb (place P (suc j)) (length P)) (suc (place P (suc j))) 0 (λ k. k ≡ suc i → get_or P i 0 ≡ suc j)
    (λ t f. let there = get_or_place P (suc j) (ltb-true (place P (suc j)) (length P) t) in let is : place P (suc j) ≡ i = omega arith in sym (ap (λ k. get_or P k 0) is) ∙ there)
    (λ _ f. absurd (omega arith))
    e

module _ (L : Rankings) (P : List ℕ) (plan : PlanOn L P) where
  pub with_partner : (s : Side) (i j : ℕ) → With P s i j → partner_of P s i ≡ suc j
  with_partner Crew i j w = w
  with_partner Site j i w =
      let here = within_plan P i j w in
      let first = place_first P (suc j) i here w in
      let low : place P (suc j) < length P = omega arith in
      cond-true (ltb (place P (suc j)) (length P)) (suc (place P (suc j))) 0 (lt-ltb (place P (suc j)) (length P) low)
      ∙ ap suc (plan.single j (place P (suc j)) i (get_or_place P (suc j) low) w)

  -- a party and its partner name each other
  pub with_names : (s : Side) (i j : ℕ) → With P s i j → Names L s i j
  with_names Crew i j w = (plan.listed i j w).0
  with_names Site j i w = (plan.listed i j w).1

  pub partner_names : (s : Side) (i j : ℕ) → partner_of P s i ≡ suc j → Names L s i j
  partner_names s i j e = with_names s i j (partner_with P s i j e)

  pub partners : Mutual (size L Crew) (size L Site) (partner_of P Crew) (partner_of P Site)
  partners = record {
    there = λ i j _ e. (naming L Site j i (plan.listed i j e).1, with_partner Site j i e);
    back = λ j i _ e. let w = partner_with P Site j i e in (naming L Crew i j (plan.listed i j w).0, w);
  }

  pub placed_within : (s : Side) (i : ℕ) → placed P s i ≡ true → i < size L s
  placed_within s i e = within (partner_of P s i) (λ j f. naming L s i j (partner_names s i j f)) (ltb-true 0 (partner_of P s i) e)
    where
      within : (k : ℕ) → ((j : ℕ) → k ≡ suc j → i < size L s) → 0 < k → i < size L s
      within zero some more = absurd (omega arith)
      within (suc j) some more = some j refl
