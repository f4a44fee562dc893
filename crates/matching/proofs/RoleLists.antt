-- The lists of the parties of two-level lists, by their roles.
use Rattle.std.proofs.Common.{◌≡◌, ℕ, ◌<◌, List, [], ◌∷◌, map, length, Some, sym, refl, ◌∙◌, ⊎_elim, arith, length-append}
use lib.ListN.{length-map}
use Rattle.std.proofs.lemmas.List.{get_or_append_left}
use Rattle.std.proofs.lemmas.Bool.{cases_lt}
use Rattle.std.proofs.lemmas.Bool.Decides.{nat_tests}
use Rattle.lists.specs.Rankings.{Rankings, Lawful, ranks, place, size, entry_at, place_of}
use Rattle.lists.specs.declared.parties.Party.{Party}
use Rattle.lists.specs.declared.parties.Side.TheVariants.{Crew, Site}
use Rattle.lists.proofs.Pigeonhole.{length_few}
use Rattle.matching.specs.Copies.{copy_number}
use Rattle.matching.specs.Roles.{HasRole, role_list}
use Rattle.matching.specs.TwoLevels.{lower, upper, stand_in_of, lower_list, upper_list, split_list, own_list, two_levels_of}
use Rattle.matching.specs.declared.copies.CrewCopy.{CrewCopy}
use Rattle.matching.specs.declared.copies.CrewCopy.TheVariants.{Lower, Upper}
use Rattle.matching.specs.declared.roles.Role.{Role}
use Rattle.matching.specs.declared.roles.Role.TheVariants.{Copied, Real, StandIn}
use Rattle.matching.specs.Evidence.Halves.{lower_not_upper, upper_once}
use Rattle.matching.specs.Evidence.Joins.{place_front, place_behind, place_image, place_tail, no_image}
use Rattle.matching.specs.Evidence.TwoLevels.{Sized, length_split, length_lower, place_lower_own, place_split_lower, place_split_upper, sized_by_crew, sized_by_site, size_crews, size_sites, ranks_crew, ranks_site, crew_lower, crew_upper, site_split, site_own}

module _ (L : Rankings) (z : Sized L) where
  pub ranks_lower : (i : ℕ) → i < size L Crew → ranks (two_levels_of L) Crew (lower i) ≡ lower_list L i
  ranks_lower i h = ranks_crew L (lower i) (omega (arith, z.crews_are)) ∙ crew_lower L i

  pub ranks_upper : (i : ℕ) → i < size L Crew → ranks (two_levels_of L) Crew (upper i) ≡ upper_list L i
  ranks_upper i h = ranks_crew L (upper i) (omega (arith, z.crews_are)) ∙ crew_upper L i

  pub ranks_real : (j : ℕ) → j < size L Site → ranks (two_levels_of L) Site j ≡ split_list (ranks L Site j)
  ranks_real j h = ranks_site L j (omega (arith, z.sites_are)) ∙ site_split L j h

  pub ranks_own : (i : ℕ) → i < size L Crew → ranks (two_levels_of L) Site (stand_in_of L i) ≡ own_list i
  ranks_own i h = ranks_site L (stand_in_of L i) (omega (arith, z.sites_are)) ∙ site_own L i

-- the role of a party that there is
module _ (L : Rankings) (p : Party) (there : p.number < size (two_levels_of L) p.side) where
  -- a role that it has, with the list that it then has
  abbrev pub Plays : Role → Type 0
  Plays r = HasRole L p r × (ranks (two_levels_of L) p.side p.number ≡ role_list L (Some r))

  crew_sized : p.side ≡ Crew → Sized L
  crew_sized s = let h : p.number < size (two_levels_of L) Crew = rw s at there in sized_by_crew L p.number (omega (arith, size_crews L))

  site_sized : p.side ≡ Site → Sized L
  site_sized s = let h : p.number < size (two_levels_of L) Site = rw s at there in sized_by_site L p.number (omega (arith, size_sites L))

  pub copied_role : (c : CrewCopy) → p.side ≡ Crew → p.number ≡ copy_number c → Plays (Copied c)
  copied_role (Lower i) s n =
      let z = crew_sized s in
      let h : lower i < size (two_levels_of L) Crew = rw (s, n) at there in
      let low : i < size L Crew = omega (arith, size_crews L, z.crews_are) in
      ((s, n, low), rw (s, n) (ranks_lower L z i low))
  copied_role (Upper i) s n =
      let z = crew_sized s in
      let h : upper i < size (two_levels_of L) Crew = rw (s, n) at there in
      let low : i < size L Crew = omega (arith, size_crews L, z.crews_are) in
      ((s, n, low), rw (s, n) (ranks_upper L z i low))

  pub real_role : p.side ≡ Site → p.number < size L Site → Plays (Real p.number)
  real_role s h = ((s, refl, h), rw s (ranks_real L (site_sized s) p.number h))

  pub stand_in_role : (i : ℕ) → p.side ≡ Site → p.number ≡ stand_in_of L i → Plays (StandIn i)
  stand_in_role i s n =
      let z = site_sized s in
      let h : stand_in_of L i < size (two_levels_of L) Site = rw (s, n) at there in
      let low : i < size L Crew = omega (arith, size_sites L, z.sites_are) in
      ((s, n, low), rw (s, n) (ranks_own L z i low))

-- an upper crew stands in a split list where its crew stood
pub place_of_split_upper : (xs : List ℕ) (i : ℕ) → place_of (split_list xs) (upper i) ≡ place_of xs i
place_of_split_upper xs i =
    let long = length_split xs in
    let u = length-map xs upper in
    let at = place_image upper upper_once xs i in
    let none = no_image lower xs (upper i) (λ k. lower_not_upper k i) in
    ⊎_elim
    (λ h. let there = place_split_upper xs i h in grind (arith, nat_tests))
    (λ h. let behind = place_behind (map upper xs) (map lower xs) (upper i) (omega arith) in grind (arith, nat_tests))
    (cases_lt (place xs i) (length xs))

-- a site that is no stand-in stands in a lower crew's list where it stood
pub place_of_lower : (L : Rankings) (i y : ℕ) → (y ≡ stand_in_of L i → ⊥) → place_of (lower_list L i) y ≡ place_of (ranks L Crew i) y
place_of_lower L i y n =
    let xs = ranks L Crew i in
    let long = length-append xs (stand_in_of L i ∷ []) in
    let none = place_tail (stand_in_of L i) [] y (λ e. n (sym e)) in
    ⊎_elim
    (λ h. let there = place_front xs (stand_in_of L i ∷ []) y h in grind (arith, nat_tests))
    (λ h. let behind = place_behind xs (stand_in_of L i ∷ []) y h in grind (arith, nat_tests))
    (cases_lt (place xs y) (length xs))

-- the stand-in is the last there
pub place_of_lower_own : {L : Rankings} → Lawful L → (i y : ℕ) → y ≡ stand_in_of L i → place_of (lower_list L i) y ≡ Some (length (ranks L Crew i))
place_of_lower_own {L} lawful i y e =
    let at = place_lower_own lawful i in
    let long = length_lower lawful i in
    rw e (grind (arith, nat_tests))

-- the same of its places, as the answer to a question about the list below
pub lower_place_lem : {L : Rankings} → Lawful L → (i y : ℕ) → (y ≡ stand_in_of L i → ⊥) → place_of (ranks L Crew i) y ≡ place_of (lower_list L i) y
lower_place_lem {L} lawful i y n = sym (place_of_lower L i y n)

-- and of whom it names, but for the last place
pub lower_entry_lem : {L : Rankings} → Lawful L → (i k : ℕ) → (k ≡ length (ranks L Crew i) → ⊥) → entry_at (ranks L Crew i) k ≡ entry_at (lower_list L i) k
lower_entry_lem {L} lawful i k n =
    let xs = ranks L Crew i in
    let long = length_lower lawful i in
    ⊎_elim
    (λ h. let there = get_or_append_left xs (stand_in_of L i ∷ []) 0 k h in grind (arith, nat_tests))
    (λ h. grind (arith, nat_tests))
    (cases_lt k (length xs))

-- what the places in both kinds of list need
pub ruleset lower_places = (place_of_lower, place_of_lower_own)

pub ruleset split_places = (place_of_split_upper, place_split_lower, length_split, length_few)

-- what the counts need
pub ruleset counts = (size_crews, size_sites)
