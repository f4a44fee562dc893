-- What the checks of a plan find, crew by crew and as a whole.
use Rattle.std.proofs.Common.{◌≡◌, ℕ, zero, suc, ◌+◌, ◌<◌, ◌≤◌, Bool, true, false, eqb, ltb, leb, List, length, get_or, set, replicate, None, sym, refl, ap, ◌∙◌, subst, ⊎_elim, arith, length-set}
use Rattle.std.proofs.lemmas.List.{get_or-replicate, get_or-set_same, get_or-set_other}
use Rattle.std.proofs.lemmas.Bool.{cases_eq, eqb-true, leb-true, ltb-true, eq-eqb, le-leb, lt-ltb, le-ltb}
use Rattle.std.proofs.lemmas.Bool.Decides.{nat_tests}
use Rattle.lists.specs.Order.{or_else, unless}
use Rattle.lists.specs.Rankings.{Rankings, ranks, place, size}
use Rattle.lists.specs.Evidence.Places.{get_or_place, place_first}
use Rattle.lists.specs.declared.faults.Which.{Which}
use Rattle.lists.specs.declared.faults.Fault.TheVariants.{HandedLength, NoSuchSite, SiteTaken, PairNotListed}
use Rattle.lists.specs.declared.parties.Side.TheVariants.{Crew, Site}
use Rattle.matching.specs.Checks.{named, free, crew_fault, plan_fault, length_fault, PassingIsBeingAPlan, TakenBelow, with_taken}
use Rattle.matching.specs.Plans.{PlanOn}
use Rattle.lists.proofs.Earliest.{or_none, none_first, none_second, earliest_each, each_earliest}
use Rattle.matching.proofs.Partners.{within_plan}

unless_none : {X : Type 0} (t : Bool) (x : X) → unless t x ≡ None → t ≡ true
unless_none true x e = refl
unless_none false x e = cc

none_unless : {X : Type 0} (t : Bool) (x : X) → t ≡ true → unless t x ≡ None
none_unless t x e = rw e refl

module _ (L : Rankings) (xs : List ℕ) (w : Which) where
  pub length_passes : length xs ≡ size L Crew → length_fault L xs w ≡ None
  length_passes e = none_unless (eqb (length xs) (size L Crew)) (HandedLength w) (eq-eqb (length xs) (size L Crew) e)

-- what passing tells of a crew
pub record CrewPasses (L : Rankings) (P : List ℕ) (i : ℕ) : Type 0 where
  pub exists : get_or P i 0 ≤ size L Site
  pub listed : (j : ℕ) → get_or P i 0 ≡ suc j → place (ranks L Crew i) j < length (ranks L Crew i)
  pub first : (j : ℕ) → get_or P i 0 ≡ suc j → i ≤ place P (suc j)

module _ (L : Rankings) (P : List ℕ) (w : Which) (i : ℕ) where
  pub crew_passes : crew_fault L P w i ≡ None → CrewPasses L P i
  crew_passes e =
      let n = get_or P i 0 in
      let a = unless (leb n (size L Site)) (NoSuchSite w i) in
      let b = unless (named (ranks L Crew i) n) (PairNotListed w i) in
      let d = unless (free P i n) (SiteTaken w i) in
      let rest = none_second a (or_else b d) e in
      let names = unless_none (named (ranks L Crew i) n) (PairNotListed w i) (none_first b d rest) in
      let frees = unless_none (free P i n) (SiteTaken w i) (none_second b d rest) in
      record {
        exists = leb-true n (size L Site) (unless_none (leb n (size L Site)) (NoSuchSite w i) (none_first a (or_else b d) e));
        listed = λ j f. ltb-true _ _ (rw f at names);
        first = λ j f. leb-true _ _ (rw f at frees);
      }

  pub passing_crew : CrewPasses L P i → crew_fault L P w i ≡ None
  passing_crew passes =
      or_none _ _ (none_unless _ _ (le-leb (get_or P i 0) (size L Site) passes.exists))
      (or_none _ _ (none_unless _ _ (names (get_or P i 0) passes.listed)) (none_unless _ _ (frees (get_or P i 0) passes.first)))
    where
      names : (n : ℕ) → ((j : ℕ) → n ≡ suc j → place (ranks L Crew i) j < length (ranks L Crew i)) → named (ranks L Crew i) n ≡ true
      names zero each = refl
      names (suc j) each = lt-ltb _ _ (each j refl)

      frees : (n : ℕ) → ((j : ℕ) → n ≡ suc j → i ≤ place P (suc j)) → free P i n ≡ true
      frees zero each = refl
      frees (suc j) each = le-leb _ _ (each j refl)

pub passing_is_a_plan : PassingIsBeingAPlan
passing_is_a_plan L lawful P w = (sound, passing)
  where
    sound : plan_fault L P w ≡ None → PlanOn L P
    sound e =
        let whole : length P ≡ size L Crew = eqb-true _ _ (unless_none (eqb (length P) (size L Crew)) (HandedLength w) (none_first (length_fault L P w) _ e)) in
        let each : (i : ℕ) → i < length P → CrewPasses L P i = λ i h. crew_passes L P w i (earliest_each (size L Crew) (crew_fault L P w) (none_second (length_fault L P w) _ e) i (omega arith)) in
        record {
          whole = whole;
          listed = λ i j f. let n = (each i (within_plan P i j f)).listed j f in (n, lawful.returned Crew i j n);
          single = λ j i k f g.
              let here = within_plan P i j f in
              let there = within_plan P k j g in
              omega (arith, (each i here).first j f, (each k there).first j g, place_first P (suc j) i here f, place_first P (suc j) k there g);
        }

    passing : PlanOn L P → plan_fault L P w ≡ None
    passing plan =
        or_none (length_fault L P w) _ (length_passes L P w plan.whole)
        (each_earliest (size L Crew) (crew_fault L P w) (λ i h. passing_crew L P w i (record {
          exists = exists i (get_or P i 0) refl;
          listed = λ j f. (plan.listed i j f).0;
          first = λ j f.
              let low = place_first P (suc j) i (within_plan P i j f) f in
              let here = within_plan P i j f in
              omega (arith, plan.single j (place P (suc j)) i (get_or_place P (suc j) (omega arith)) f);
        })))
      where
        exists : (i n : ℕ) → get_or P i 0 ≡ n → n ≤ size L Site
        exists i zero e = omega arith
        exists i (suc j) e =
            let n = (plan.listed i j e).0 in
            omega (arith, lawful.within Crew i (place (ranks L Crew i) j) n, get_or_place (ranks L Crew i) j n)

-- no crew has a site yet
pub taken_none : (P : List ℕ) (sites : List Bool) → sites ≡ replicate 500 false → TakenBelow P 0 sites
taken_none P sites e = record {
  sized = ap length e;
  each = λ j h. ap (λ v. get_or v j false) e ∙ get_or-replicate 500 j false false h ∙ sym (le-ltb (place P (suc j)) 0 (omega arith));
}

-- a crew takes its site
pub taken_more : (P : List ℕ) (i : ℕ) (sites : List Bool) → i < length P → get_or P i 0 ≤ 500 → TakenBelow P i sites → TakenBelow P (i + 1) (with_taken sites (get_or P i 0))
taken_more P i sites here few below = more (get_or P i 0) refl few
  where
    -- only what is written for a crew changes with it
    others : (j : ℕ) → (get_or P i 0 ≡ suc j → ⊥) → ltb (place P (suc j)) i ≡ ltb (place P (suc j)) (i + 1)
    others j d =
        let differ : place P (suc j) ≡ i → ⊥ = λ e. d (sym (ap (λ k. get_or P k 0) e) ∙ get_or_place P (suc j) (omega arith)) in
        grind (arith, nat_tests)

    more : (n : ℕ) → get_or P i 0 ≡ n → n ≤ 500 → TakenBelow P (i + 1) (with_taken sites n)
    more zero e low = record { sized = below.sized; each = λ j h. below.each j h ∙ others j (λ f. omega arith) }
    more (suc n) e low = record {
      sized = length-set sites n true ∙ below.sized;
      each = λ j h. ⊎_elim
          (λ f. subst (λ k. get_or (set sites n true) k false ≡ ltb (place P (suc k)) (i + 1)) f
          (let fits = below.sized in get_or-set_same sites n true false (omega arith)
          ∙ sym (lt-ltb _ _ (let first = place_first P (suc n) i here e in omega arith))))
          (λ d. get_or-set_other sites n j true false (λ f. d (sym f)) ∙ below.each j h ∙ others j (λ f. d (omega arith)))
          (cases_eq n j);
    }
