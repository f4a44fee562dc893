-- The plan read off a stable plan of the two-level lists is a plan on the lists and keeps the level rules.
use Rattle.std.proofs.Common.{◌≡◌, ℕ, zero, suc, ◌<◌, ◌≤◌, true, false, eqb, ltb, ◌⊎◌, List, [], ◌∷◌, length, get_or, Some, None, sym, refl, ap, ◌∙◌, subst, inl, inr, ⊎_elim, arith}
use Rattle.std.specs.Option.{option_or}
use Rattle.std.proofs.lemmas.List.FromFn.{length-map-range_with_len, get_or-map-range_with_len}
use Rattle.std.proofs.lemmas.Bool.{cases_Bool, cases_eq, cond-true, cond-false, eq-eqb, ne_eqb, lt-ltb, le-ltb, ltb-true}
use Rattle.lists.specs.Rankings.{Rankings, Lawful, Names, ranks, place, size}
use Rattle.lists.specs.declared.parties.Side.TheVariants.{Crew, Site}
use Rattle.matching.specs.Deferred.{crew_best_of}
use Rattle.matching.specs.Levels.{LevelRules, level_of, level_held, favours}
use Rattle.matching.specs.Plans.{With, Listed, PlanOn, partner_of, number_written, site_written}
use Rattle.matching.specs.Settled.{real_site_of, copy_partner, site_by_copies, level_by_copies, sites_in, levels_in, settled_plan_of, settled_levels_of, SettledPlanIsDominant}
use Rattle.matching.specs.Stability.{Rather, Stable}
use Rattle.matching.specs.TwoLevels.{lower, upper, stand_in_of, lower_list, upper_list, own_list, fits_two_levels, crew_total, two_levels_of}
use Rattle.matching.specs.Votes.{likes}
use Rattle.matching.specs.Evidence.Halves.{lower_not_upper}
use Rattle.matching.specs.Evidence.TwoLevels.{Sized, sized, by_crew, size_crews, place_split_lower, place_split_upper, place_own_lower, place_own_upper, length_lower, place_lower, place_lower_own, place_upper, place_upper_own, two_levels_lawful}
use Rattle.matching.specs.Evidence.Joins.{each_join, each_one, each_named}
use Rattle.matching.proofs.Partners.{naming, within_plan, partner_with, with_partner}
use Rattle.matching.proofs.RoleLists.{ranks_lower, ranks_upper, ranks_real, ranks_own}
use Rattle.matching.proofs.Deferral.{deferred_best}
use Rattle.matching.proofs.Dominance.{levelled_dominant}
use Rattle.matching.proofs.Steps.{named}

-- the lower or the upper crew, by the level
abbrev copy : ℕ → ℕ → ℕ
copy zero i = lower i
copy (suc a) i = upper i

copy_once : (a b i k : ℕ) → copy a i ≡ copy b k → i ≡ k
copy_once zero zero i k e = omega arith
copy_once zero (suc b) i k e = omega arith
copy_once (suc a) zero i k e = omega arith
copy_once (suc a) (suc b) i k e = omega arith

zero_or_one : (a : ℕ) → a ≤ 1 → (a ≡ 0) ⊎ (a ≡ 1)
zero_or_one zero h = inl refl
zero_or_one (suc a) h = inr (omega arith)

-- how the two-level lists rank, as lists
module _ {L : Rankings} (lawful : Lawful L) (few : fits_two_levels L ≡ true) where
  abbrev L₂ : Rankings
  L₂ = two_levels_of L

  z : Sized L
  z = sized L few

  named_real : (i j : ℕ) → Names L Crew i j → j < size L Site
  named_real i j n = naming L Site j i (lawful.returned Crew i j n)

  -- a pair of the two-level lists that the crew names
  both_list : (x y : ℕ) → Names L₂ Crew x y → Listed L₂ x y
  both_list x y n = (n, (two_levels_lawful lawful).returned Crew x y n)

  listed_copy : (a i j : ℕ) → Names L Crew i j → Listed L₂ (copy a i) j
  listed_copy zero i j n = both_list (lower i) j (rw (ranks_lower L z i (naming L Crew i j n)) (omega (arith, place_lower lawful i j n, length_lower lawful i)))
  listed_copy (suc a) i j n = let real = named_real i j n in both_list (upper i) j (rw (ranks_upper L z i (naming L Crew i j n)) (omega (arith, place_upper lawful i j (λ e. omega arith))))

  listed_own : (a i : ℕ) → i < size L Crew → Listed L₂ (copy a i) (stand_in_of L i)
  listed_own zero i h = both_list (lower i) (stand_in_of L i) (rw (ranks_lower L z i h) (omega (arith, place_lower_own lawful i, length_lower lawful i)))
  listed_own (suc a) i h = both_list (upper i) (stand_in_of L i) (rw (ranks_upper L z i h) (omega (arith, place_upper_own lawful i)))

  -- whom a crew of the two-level lists can have: a site that the crew names, or the stand-in
  abbrev CanHave : ℕ → ℕ → Type 0
  CanHave i v = (v ≡ stand_in_of L i) ⊎ Names L Crew i v

  own_had : (i k : ℕ) → k < length (stand_in_of L i ∷ []) → CanHave i (get_or (stand_in_of L i ∷ []) k 0)
  own_had i = each_one (CanHave i) (stand_in_of L i) (inl refl)

  names_copy : (a i y : ℕ) → i < size L Crew → Names L₂ Crew (copy a i) y → CanHave i y
  names_copy zero i y h n = each_named (CanHave i) (lower_list L i)
      (each_join (CanHave i) (ranks L Crew i) (stand_in_of L i ∷ []) (λ k l. inr (named L lawful Crew i k l)) (own_had i)) y (rw (ranks_lower L z i h) at n)
  names_copy (suc a) i y h n = each_named (CanHave i) (upper_list L i)
      (each_join (CanHave i) (stand_in_of L i ∷ []) (ranks L Crew i) (own_had i) (λ k l. inr (named L lawful Crew i k l))) y (rw (ranks_upper L z i h) at n)

  -- a crew ranks the sites that it names in the same order at both levels
  crew_order : (a i j k : ℕ) → Names L Crew i j → Names L Crew i k → place (ranks L Crew i) j < place (ranks L Crew i) k →
      place (ranks L₂ Crew (copy a i)) j < place (ranks L₂ Crew (copy a i)) k
  crew_order zero i j k nj nk h = rw (ranks_lower L z i (naming L Crew i j nj)) (omega (arith, place_lower lawful i j nj, place_lower lawful i k nk))
  crew_order (suc a) i j k nj nk h = let rj = named_real i j nj in let rk = named_real i k nk in rw (ranks_upper L z i (naming L Crew i j nj)) (omega (arith, place_upper lawful i j (λ e. omega arith), place_upper lawful i k (λ e. omega arith)))

  -- a lower crew ranks its stand-in last
  own_last : (i j : ℕ) → Names L Crew i j → place (ranks L₂ Crew (lower i)) j < place (ranks L₂ Crew (lower i)) (stand_in_of L i)
  own_last i j n = rw (ranks_lower L z i (naming L Crew i j n)) (omega (arith, place_lower lawful i j n, place_lower_own lawful i))

  -- an upper crew ranks its stand-in first
  own_first : (i y : ℕ) → i < size L Crew → (stand_in_of L i ≡ y → ⊥) → place (ranks L₂ Crew (upper i)) (stand_in_of L i) < place (ranks L₂ Crew (upper i)) y
  own_first i y h n = rw (ranks_upper L z i h) (omega (arith, place_upper_own lawful i, place_upper lawful i y n))

  -- a site ranks upper crews before lower ones, and those of a level in its own order
  upper_before : (i k j : ℕ) → Names L Site j i → place (ranks L₂ Site j) (upper i) < place (ranks L₂ Site j) (lower k)
  upper_before i k j n = rw (ranks_real L z j (naming L Site j i n)) (omega (arith, place_split_upper (ranks L Site j) i n, place_split_lower (ranks L Site j) k))

  site_order : (a i k j : ℕ) → Names L Site j i → Names L Site j k → place (ranks L Site j) i < place (ranks L Site j) k →
      place (ranks L₂ Site j) (copy a i) < place (ranks L₂ Site j) (copy a k)
  site_order zero i k j ni nk h = rw (ranks_real L z j (naming L Site j i ni)) (omega (arith, place_split_lower (ranks L Site j) i, place_split_lower (ranks L Site j) k))
  site_order (suc a) i k j ni nk h = rw (ranks_real L z j (naming L Site j i ni)) (omega (arith, place_split_upper (ranks L Site j) i ni, place_split_upper (ranks L Site j) k nk))

  -- a stand-in names only its own two crews, the lower one first
  abbrev IsCopy : ℕ → ℕ → Type 0
  IsCopy i v = (v ≡ lower i) ⊎ (v ≡ upper i)

  own_named : (i x : ℕ) → i < size L Crew → Names L₂ Site (stand_in_of L i) x → IsCopy i x
  own_named i x h n = each_named (IsCopy i) (own_list i)
      (each_join (IsCopy i) (lower i ∷ []) (upper i ∷ []) (each_one (IsCopy i) (lower i) (inl refl)) (each_one (IsCopy i) (upper i) (inr refl))) x (rw (ranks_own L z i h) at n)

  own_order : (i : ℕ) → i < size L Crew → place (ranks L₂ Site (stand_in_of L i)) (lower i) < place (ranks L₂ Site (stand_in_of L i)) (upper i)
  own_order i h = rw (ranks_own L z i h) (omega (arith, place_own_lower i, place_own_upper i))

  -- what a stable plan of the two-level lists gives the two crews of one crew
  module _ (T : List ℕ) (stable : Stable L₂ T) where
    -- the stand-in is with one of them
    own_taken : (i : ℕ) → i < size L Crew → (With T Crew (upper i) (stand_in_of L i) → ⊥) → With T Crew (lower i) (stand_in_of L i)
    own_taken i h not-upper = ⊎_elim (λ w. w)
        (λ not_lower. absurd (stable.steady (upper i) (stand_in_of L i) (
          listed_own 1 i h,
          (λ k w. own_first i k h (λ e. not-upper (w ∙ ap suc (sym e)))),
          (λ x w. absurd (⊎_elim (λ e. not_lower (sym (ap (λ v. get_or T v 0) e) ∙ w)) (λ e. not-upper (sym (ap (λ v. get_or T v 0) e) ∙ w))
              (own_named i x h (stable.plan.listed x (stand_in_of L i) w).1))),
        )))
        (cases_eq (get_or T (lower i) 0) (suc (stand_in_of L i)))

    -- where it is with the upper one, the lower one has a site that the crew names
    lower_placed : (i : ℕ) → i < size L Crew → With T Crew (upper i) (stand_in_of L i) → (j : ℕ) × With T Crew (lower i) j × Names L Crew i j
    lower_placed i h up = placed_at (get_or T (lower i) 0) refl
      where
        placed_at : (p : ℕ) → get_or T (lower i) 0 ≡ p → (j : ℕ) × With T Crew (lower i) j × Names L Crew i j
        placed_at zero e = absurd (stable.steady (lower i) (stand_in_of L i) (
          listed_own 0 i h,
          (λ k w. absurd (omega arith)),
          (λ x w. let only = stable.plan.single (stand_in_of L i) (upper i) x up w in
              rw only at (own_order i h)),
        ))
        placed_at (suc j) e = (
          j,
          e,
          ⊎_elim
              (λ own. absurd (lower_not_upper i i (stable.plan.single (stand_in_of L i) (lower i) (upper i) (e ∙ ap suc own) up)))
              (λ n. n) (names_copy 0 i j h (stable.plan.listed (lower i) j e).0),
        )

    -- a crew read off: the copy at its level has its site, the other copy the stand-in
    pub record Read (i a : ℕ) : Type 0 where
      pub level : level_by_copies L T i ≡ a
      pub binary : a ≤ 1
      pub has : get_or T (copy a i) 0 ≡ site_by_copies L T i
      pub spare : a ≡ 1 → With T Crew (lower i) (stand_in_of L i)
      pub waits : a ≡ 0 → With T Crew (upper i) (stand_in_of L i)
      pub names : (j : ℕ) → site_by_copies L T i ≡ suc j → Names L Crew i j
      pub placed : a ≡ 0 → site_by_copies L T i ≡ 0 → ⊥

    real_site_is : (j : ℕ) → j < size L Site → real_site_of L (Some j) ≡ Some j
    real_site_is j h = cond-true (ltb j (size L Site)) (Some j) None (lt-ltb j (size L Site) h)

    no_site : (i : ℕ) → real_site_of L (Some (stand_in_of L i)) ≡ None
    no_site i = cond-false (ltb (stand_in_of L i) (size L Site)) (Some (stand_in_of L i)) None (le-ltb (stand_in_of L i) (size L Site) (omega arith))

    -- a number of the plan, with nobody in the place of a stand-in
    abbrev kept_number : ℕ → ℕ
    kept_number p = number_written (real_site_of L (site_written p))

    read_lower : (i : ℕ) → i < size L Crew → With T Crew (upper i) (stand_in_of L i) → Read i 0
    read_lower i h up =
        let down = lower_placed i h up in
        let real = real_site_is down.0 (named_real i down.0 down.2) in
        let low : real_site_of L (copy_partner T (lower i)) ≡ Some down.0 = ap (λ p. real_site_of L (site_written p)) down.1 ∙ real in
        let site : site_by_copies L T i ≡ suc down.0 = ap (λ o. number_written (option_or o (real_site_of L (copy_partner T (upper i))))) low in
        record {
          level = cond-true (eqb (get_or T (upper i) 0) (suc (stand_in_of L i))) 0 1 (eq-eqb (get_or T (upper i) 0) (suc (stand_in_of L i)) up);
          binary = omega arith;
          has = down.1 ∙ sym site;
          spare = λ e. absurd (omega arith);
          waits = λ _. up;
          names = λ j e. subst (Names L Crew i) (let s : down.0 ≡ j = omega arith in s) down.2;
          placed = λ _ e. omega arith;
        }

    read_upper : (i : ℕ) → i < size L Crew → (With T Crew (upper i) (stand_in_of L i) → ⊥) → Read i 1
    read_upper i h not-upper =
        let down = own_taken i h not-upper in
        let low : real_site_of L (copy_partner T (lower i)) ≡ None = ap (λ p. real_site_of L (site_written p)) down ∙ no_site i in
        let site : site_by_copies L T i ≡ kept_number (get_or T (upper i) 0) = ap (λ o. number_written (option_or o (real_site_of L (copy_partner T (upper i))))) low in
        let is = upper_real (get_or T (upper i) 0) refl in
        record {
          level = cond-false (eqb (get_or T (upper i) 0) (suc (stand_in_of L i))) 0 1 (ne_eqb (get_or T (upper i) 0) (suc (stand_in_of L i)) not-upper);
          binary = omega arith;
          has = sym (site ∙ is.0);
          spare = λ _. down;
          waits = λ e. absurd (omega arith);
          names = λ j e. is.1 j (sym (site ∙ is.0) ∙ e);
          placed = λ e. absurd (omega arith);
        }
      where
        upper_real : (p : ℕ) → get_or T (upper i) 0 ≡ p → (kept_number (get_or T (upper i) 0) ≡ get_or T (upper i) 0) × ((j : ℕ) → get_or T (upper i) 0 ≡ suc j → Names L Crew i j)
        upper_real zero e = (ap kept_number e ∙ sym e, (λ j f. absurd (omega arith)))
        upper_real (suc j) e =
            let n : Names L Crew i j = ⊎_elim (λ own. absurd (not-upper (e ∙ ap suc own))) (λ n. n) (names_copy 1 i j h (stable.plan.listed (upper i) j e).0) in
            (ap kept_number e ∙ ap number_written (real_site_is j (named_real i j n)) ∙ sym e, (λ k f. subst (Names L Crew i) (let s : j ≡ k = omega arith in s) n))

    pub reading : (i : ℕ) → i < size L Crew → Read i (level_by_copies L T i)
    reading i h = ⊎_elim
        (λ up. let r = read_lower i h up in subst (Read i) (sym r.level) r)
        (λ n. let r = read_upper i h n in subst (Read i) (sym r.level) r)
        (cases_eq (get_or T (upper i) 0) (suc (stand_in_of L i)))

    abbrev P : List ℕ
    P = sites_in L T

    abbrev K : List ℕ
    K = levels_in L T

    site_at : (i : ℕ) → i < size L Crew → get_or P i 0 ≡ site_by_copies L T i
    site_at i h = get_or-map-range_with_len (site_by_copies L T) 0 (size L Crew) i i 0 h (omega arith)

    level_at : (i : ℕ) → i < size L Crew → get_or K i 0 ≡ level_by_copies L T i
    level_at i h = get_or-map-range_with_len (level_by_copies L T) 0 (size L Crew) i i 0 h (omega arith)

    placed_crew : (i j : ℕ) → With P Crew i j → i < size L Crew
    placed_crew i j w = let h = within_plan P i j w in omega (arith, length-map-range_with_len (site_by_copies L T) 0 (size L Crew))

    -- the copy at its level has what the crew has
    copy_has : (i j : ℕ) → With P Crew i j → With T Crew (copy (level_by_copies L T i) i) j
    copy_has i j w = let h = placed_crew i j w in (reading i h).has ∙ sym (site_at i h) ∙ w

    pub settled_is_plan : PlanOn L P
    settled_is_plan = record {
      whole = length-map-range_with_len (site_by_copies L T) 0 (size L Crew);
      listed = λ i j w. let h = placed_crew i j w in let n = (reading i h).names j (sym (site_at i h) ∙ w) in (n, lawful.returned Crew i j n);
      single = λ j i k w v. copy_once (level_by_copies L T i) (level_by_copies L T k) i k (stable.plan.single j (copy (level_by_copies L T i) i) (copy (level_by_copies L T k) k) (copy_has i j w) (copy_has k j v));
    }

    -- who has a site in the stable plan: the copy, at its level, of the crew that has it in the plan
    holder : (j x : ℕ) → j < size L Site → With T Site j x → (k : ℕ) × (x ≡ copy (level_by_copies L T k) k) × With P Crew k j
    holder j x real w =
        let there : x < crew_total L = omega (arith, naming L₂ Crew x j (stable.plan.listed x j w).0, size_crews L) in
        by_crew L (λ v. With T Site j v → (k : ℕ) × (v ≡ copy (level_by_copies L T k) k) × With P Crew k j) x there
        (λ i h v. let r = reading i h in at_level i h 0 v
        (⊎_elim (λ e. e) (λ e. absurd (let s = r.spare e in omega arith)) (zero_or_one (level_by_copies L T i) r.binary)))
        (λ i h v. let r = reading i h in at_level i h 1 v
        (⊎_elim (λ e. absurd (let s = r.waits e in omega arith)) (λ e. e) (zero_or_one (level_by_copies L T i) r.binary)))
        w
      where
        at_level : (i : ℕ) → i < size L Crew → (a : ℕ) → With T Crew (copy a i) j → level_by_copies L T i ≡ a → (k : ℕ) × (copy a i ≡ copy (level_by_copies L T k) k) × With P Crew k j
        at_level i h a v e = (i, ap (λ b. copy b i) (sym e), site_at i h ∙ sym (reading i h).has ∙ ap (λ b. get_or T (copy b i) 0) e ∙ v)

    -- a crew at its level would rather have a site that it favours
    crew_rather : (i j : ℕ) → Names L Crew i j → favours L P Crew i j ≡ true → Rather L₂ T Crew (copy (level_by_copies L T i) i) j
    crew_rather i j n f k w =
        let h = naming L Crew i j n in
        let r = reading i h in
        let has : With P Crew i k = site_at i h ∙ sym r.has ∙ w in
        let m = r.names k (sym (site_at i h) ∙ has) in
        crew_order (level_by_copies L T i) i j k n m (ltb-true (place (ranks L Crew i) j) (place (ranks L Crew i) k) (sym (ap (likes (ranks L Crew i) (suc j)) has) ∙ f))

    -- a site favours a crew over whomever it has
    site_favours : (i j k : ℕ) → With P Crew k j → favours L P Site j i ≡ true → place (ranks L Site j) i < place (ranks L Site j) k
    site_favours i j k w f = ltb-true (place (ranks L Site j) i) (place (ranks L Site j) k) (sym (ap (likes (ranks L Site j) (suc i)) (with_partner L P settled_is_plan Site j k w)) ∙ f)

    -- a site would rather have a copy of a crew, if it ranks that before the copy of each crew that it may have
    site_rather : (a i j : ℕ) → j < size L Site → ((k : ℕ) → With P Crew k j → place (ranks L₂ Site j) (copy a i) < place (ranks L₂ Site j) (copy (level_by_copies L T k) k)) → Rather L₂ T Site j (copy a i)
    site_rather a i j real before x w = let o = holder j x real w in
        rw o.1 (before o.0 o.2)

    -- the level of a site that a crew has
    site_level : (k j : ℕ) → With P Crew k j → level_of P K Site j ≡ level_by_copies L T k
    site_level k j w = ap (level_held K) (with_partner L P settled_is_plan Site j k w) ∙ level_at k (placed_crew k j w)

    -- the upper copy of a crew is ranked before the copy of whomever the site has
    upper_wins : (i j k : ℕ) → Names L Site j i → With P Crew k j → favours L P Site j i ≡ true → place (ranks L₂ Site j) (copy 1 i) < place (ranks L₂ Site j) (copy (level_by_copies L T k) k)
    upper_wins i j k n w f = by_level (level_by_copies L T k) (reading k (placed_crew k j w)).binary
      where
        by_level : (b : ℕ) → b ≤ 1 → place (ranks L₂ Site j) (copy 1 i) < place (ranks L₂ Site j) (copy b k)
        by_level zero _ = upper_before i k j n
        by_level (suc b) _ = site_order 1 i k j n (settled_is_plan.listed k j w).1 (site_favours i j k w f)

    -- where the site has level 0, so has whomever it has
    lower_held : (j k : ℕ) → With P Crew k j → level_of P K Site j ≡ 0 → level_by_copies L T k ≡ 0
    lower_held j k w e = sym (site_level k j w) ∙ e

    site_binary : (j : ℕ) → (level_of P K Site j ≡ 0) ⊎ (level_of P K Site j ≡ 1)
    site_binary j = by_partner (partner_of P Site j) refl
      where
        by_partner : (p : ℕ) → partner_of P Site j ≡ p → (level_of P K Site j ≡ 0) ⊎ (level_of P K Site j ≡ 1)
        by_partner zero e = inl (ap (level_held K) e)
        by_partner (suc k) e =
            let w = partner_with P Site j k e in
            ⊎_elim (λ low. inl (site_level k j w ∙ low)) (λ up. inr (site_level k j w ∙ up)) (zero_or_one (level_by_copies L T k) (reading k (placed_crew k j w)).binary)

    -- the lower copy of a crew that a site of level 0 favours is ranked before the copy of whomever it has
    lower_wins : (i j : ℕ) → Names L Site j i → level_of P K Site j ≡ 0 → favours L P Site j i ≡ true →
        (k : ℕ) → With P Crew k j → place (ranks L₂ Site j) (copy 0 i) < place (ranks L₂ Site j) (copy (level_by_copies L T k) k)
    lower_wins i j n low f k w = rw (lower_held j k w low) (site_order 0 i k j n (settled_is_plan.listed k j w).1 (site_favours i j k w f))

    pub settled_rules : LevelRules L P K
    settled_rules = record {
      whole = length-map-range_with_len (level_by_copies L T) 0 (size L Crew);
      binary = λ i h. rw (level_at i h) (reading i h).binary;
      is_left_out = λ i h e. let r = reading i h in
          ⊎_elim (λ low. absurd (r.placed low (sym (site_at i h) ∙ e))) (λ up. level_at i h ∙ up) (zero_or_one (level_by_copies L T i) r.binary);
      both_for = λ i j apart crew site. (
        both_crew i j apart.listed crew site,
        both_site i j apart.listed crew site (both_crew i j apart.listed crew site),
      );
      neither_for = λ i j apart up low. (neither_crew i j apart.listed up low, neither_site i j apart.listed up low);
    }
      where
        level_of_settled : (i j : ℕ) → Names L Crew i j → get_or K i 0 ≡ level_by_copies L T i
        level_of_settled i j n = level_at i (naming L Crew i j n)

        both_crew : (i j : ℕ) → Listed L i j → favours L P Crew i j ≡ true → favours L P Site j i ≡ true → get_or K i 0 ≡ 0
        both_crew i j both crew site = level_of_settled i j both.0 ∙ ⊎_elim (λ e. e)
            (λ e. absurd (stable.steady (copy 1 i) j (
              listed_copy 1 i j both.0,
              rw e at (crew_rather i j both.0 crew),
              site_rather 1 i j (named_real i j both.0) (λ k w. upper_wins i j k both.1 w site),
            )))
            (zero_or_one (level_by_copies L T i) (reading i (naming L Crew i j both.0)).binary)

        both_site : (i j : ℕ) → Listed L i j → favours L P Crew i j ≡ true → favours L P Site j i ≡ true → get_or K i 0 ≡ 0 → level_of P K Site j ≡ 1
        both_site i j both crew site zero-crew = ⊎_elim
            (λ low. absurd (stable.steady (copy 0 i) j (
              listed_copy 0 i j both.0,
              subst (λ a. Rather L₂ T Crew (copy a i) j) (sym (level_of_settled i j both.0) ∙ zero-crew) (crew_rather i j both.0 crew),
              site_rather 0 i j (named_real i j both.0) (lower_wins i j both.1 low site),
            )))
            (λ e. e) (site_binary j)

        neither_crew : (i j : ℕ) → Listed L i j → get_or K i 0 ≡ 1 → level_of P K Site j ≡ 0 → favours L P Crew i j ≡ false
        neither_crew i j both up low = ⊎_elim
            (λ crew. absurd (stable.steady (copy 1 i) j (
              listed_copy 1 i j both.0,
              subst (λ a. Rather L₂ T Crew (copy a i) j) (sym (level_of_settled i j both.0) ∙ up) (crew_rather i j both.0 crew),
              site_rather 1 i j (named_real i j both.0)
                  (λ k w. rw (lower_held j k w low) (upper_before i k j both.1)),
            )))
            (λ e. e) (cases_Bool (favours L P Crew i j))

        neither_site : (i j : ℕ) → Listed L i j → get_or K i 0 ≡ 1 → level_of P K Site j ≡ 0 → favours L P Site j i ≡ false
        neither_site i j both up low = ⊎_elim
            (λ site. absurd (stable.steady (copy 0 i) j (
              listed_copy 0 i j both.0,
              (λ k w. let own = (reading i (naming L Crew i j both.0)).spare (sym (level_of_settled i j both.0) ∙ up) in
                  let is : stand_in_of L i ≡ k = omega arith in
                  rw is at (own_last i j both.0)),
              site_rather 0 i j (named_real i j both.0) (lower_wins i j both.1 low site),
            )))
            (λ e. e) (cases_Bool (favours L P Site j i))

pub settled_well : SettledPlanIsDominant
settled_well L lawful few =
    let source = deferred_best (two_levels_of L) (two_levels_lawful lawful) in
    let stable = source.crew_best.stable in
    let plan = settled_is_plan lawful few (crew_best_of (two_levels_of L)) stable in
    let rules = settled_rules lawful few (crew_best_of (two_levels_of L)) stable in
    record { source = source; plan = plan; rules = rules; dominant = levelled_dominant L (settled_plan_of L) (settled_levels_of L) plan rules }
