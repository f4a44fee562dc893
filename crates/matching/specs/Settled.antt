-- The settled plan with its levels, as two-level lists and their crew-best stable plan give it.
use Rattle.std.specs.Prelude.{◌≡◌, ℕ, suc, true, cond, List, map, Some, None, Option, Result, ◌==◌, nat_lt, slice_index}
use Rattle.std.specs.List.{range_with_len}
use Rattle.std.specs.Option.{option_or}
use Rattle.lists.specs.Order.{or_else, unless, granted}
use Rattle.lists.specs.Rankings.{Rankings, Lawful, size}
use Rattle.lists.specs.declared.faults.Fault.{Fault}
use Rattle.lists.specs.declared.faults.Fault.TheVariants.{ListsTooLarge}
use Rattle.lists.specs.declared.faults.Which.TheVariants.{First, Second}
use Rattle.lists.specs.declared.parties.Side.TheVariants.{Crew, Site}
use Rattle.matching.specs.Checks.{length_fault}
use Rattle.matching.specs.Deferred.{crew_best_of}
use Rattle.matching.specs.Levels.{LevelRules}
use Rattle.matching.specs.Plans.{PlanOn, number_written, site_written}
use Rattle.matching.specs.Stability.{TheCrewBest}
use Rattle.matching.specs.TwoLevels.{lower, upper, stand_in_of, fits_two_levels, two_levels_of}
use Rattle.matching.specs.Votes.{Dominant}

-- a site of the two-level lists, with nobody in the place of a stand-in
abbrev pub real_site_of : Rankings → Option ℕ → Option ℕ
real_site_of L None = None
real_site_of L (Some j) = cond (nat_lt j (size L Site)) (Some j) None

-- the partner that crew x has in a plan on the two-level lists
abbrev pub copy_partner : List ℕ → ℕ → Option ℕ
copy_partner T x = site_written (slice_index T x)

-- what the plan read off has for crew i: the site of its lower or else of its upper crew
abbrev pub site_by_copies : Rankings → List ℕ → ℕ → ℕ
site_by_copies L T i = number_written (option_or (real_site_of L (copy_partner T (lower i))) (real_site_of L (copy_partner T (upper i))))

-- its level: 0 where the stand-in is with its upper crew, and 1 where it is not
abbrev pub level_by_copies : Rankings → List ℕ → ℕ → ℕ
level_by_copies L T i = cond (slice_index T (upper i) == suc (stand_in_of L i)) 0 1

abbrev pub sites_in : Rankings → List ℕ → List ℕ
sites_in L T = map (site_by_copies L T) (range_with_len 0 (size L Crew))

abbrev pub levels_in : Rankings → List ℕ → List ℕ
levels_in L T = map (level_by_copies L T) (range_with_len 0 (size L Crew))

-- the settled plan of lists, and its levels
abbrev pub settled_plan_of : Rankings → List ℕ
settled_plan_of L = sites_in L (crew_best_of (two_levels_of L))

abbrev pub settled_levels_of : Rankings → List ℕ
settled_levels_of L = levels_in L (crew_best_of (two_levels_of L))

-- its source is the one crew-best plan of the lists with two levels; it is a plan on the lists,
-- keeps the level rules with its levels, and is dominant
pub record SettledWell (L : Rankings) : Type 0 where
  pub source : TheCrewBest (two_levels_of L) (crew_best_of (two_levels_of L))
  pub plan : PlanOn L (settled_plan_of L)
  pub rules : LevelRules L (settled_plan_of L) (settled_levels_of L)
  pub dominant : Dominant L (settled_plan_of L)

-- that holds of all lawful lists that are not too large
abbrev pub SettledPlanIsDominant : Type 0
SettledPlanIsDominant = (L : Rankings) → Lawful L → fits_two_levels L ≡ true → SettledWell L

-- lists that are too large, and then buffers that are not one for each crew
abbrev pub settle_fault : Rankings → List ℕ → List ℕ → Option Fault
settle_fault L P K = or_else (unless (fits_two_levels L) ListsTooLarge) (or_else (length_fault L P First) (length_fault L K Second))

-- the call over lists, by its two buffers before and after and its answer
pub record SettleCall (L : Rankings) (P K P' K' : List ℕ) (answer : Result (Unit {0}) Fault) : Type 0 where
  pub answers : answer ≡ granted (settle_fault L P K) tt
  pub writes : settle_fault L P K ≡ None → (P' ≡ settled_plan_of L) × (K' ≡ settled_levels_of L)
  pub keeps : (f : Fault) → settle_fault L P K ≡ Some f → (P' ≡ P) × (K' ≡ K)
