-- The first fault of a plan, and of a plan with levels, in the order of the checks.
use Rattle.std.specs.Prelude.{◌≡◌, ℕ, zero, suc, ◌<◌, Bool, true, false, not, ◌&&◌, ◌||◌, ◌↔◌, List, length, None, Option, ◌==◌, nat_le, nat_lt, slice_index, slice_index_or, slice_set}
use Rattle.lists.specs.Order.{or_else, unless, earliest}
use Rattle.lists.specs.Rankings.{Rankings, Lawful, ranks, place, size}
use Rattle.lists.specs.declared.faults.Fault.{Fault}
use Rattle.lists.specs.declared.faults.Fault.TheVariants.{HandedLength, NoSuchSite, SiteTaken, PairNotListed, LevelUnfit, PairUnfit}
use Rattle.lists.specs.declared.faults.Which.{Which}
use Rattle.lists.specs.declared.faults.Which.TheVariants.{Only, First, Second}
use Rattle.lists.specs.declared.parties.Side.TheVariants.{Crew, Site}
use Rattle.matching.specs.Levels.{level_of, favours}
use Rattle.matching.specs.Plans.{PlanOn}

-- a plan, or levels, that are not one for each crew
abbrev pub length_fault : {X : Type 0} → Rankings → List X → Which → Option Fault
length_fault L xs w = unless (length xs == size L Crew) (HandedLength w)

-- a list names the partner that is written, if any
abbrev pub named : List ℕ → ℕ → Bool
named xs zero = true
named xs (suc j) = nat_lt (place xs j) (length xs)

-- no crew below i has the partner that is written, if any
abbrev pub free : List ℕ → ℕ → ℕ → Bool
free P i zero = true
free P i (suc j) = nat_le i (place P (suc j))

-- what a plan says of a crew: a site that does not exist, one that is not listed, one that is taken
abbrev pub crew_fault : Rankings → List ℕ → Which → ℕ → Option Fault
crew_fault L P w i =
    or_else (unless (nat_le (slice_index P i) (size L Site)) (NoSuchSite w i))
    (or_else (unless (named (ranks L Crew i) (slice_index P i)) (PairNotListed w i))
    (unless (free P i (slice_index P i)) (SiteTaken w i)))

-- a plan: its length, and then every crew in turn
abbrev pub plan_fault : Rankings → List ℕ → Which → Option Fault
plan_fault L P w = or_else (length_fault L P w) (earliest (size L Crew) (crew_fault L P w))

-- numbers that pass are the plans on lists
abbrev pub PassingIsBeingAPlan : Type 0
PassingIsBeingAPlan = (L : Rankings) → Lawful L → (P : List ℕ) (w : Which) → (plan_fault L P w ≡ None) ↔ PlanOn L P

-- which sites the crews below i have, in a table
pub record TakenBelow (P : List ℕ) (i : ℕ) (sites : List Bool) : Type 0 where
  pub sized : length sites ≡ 500
  pub each : (j : ℕ) → j < 500 → slice_index_or sites j false ≡ nat_lt (place P (suc j)) i

-- the table with the site that is written for a crew, if any
abbrev pub with_taken : List Bool → ℕ → List Bool
with_taken sites zero = sites
with_taken sites (suc j) = slice_set sites j true

-- a level of 0 or 1, and 1 for a crew left out
abbrev pub level_fits : ℕ → ℕ → Bool
level_fits zero k = k == 1
level_fits (suc j) k = nat_le k 1

abbrev pub level_fault : List ℕ → List ℕ → ℕ → Option Fault
level_fault P K i = unless (level_fits (slice_index P i) (slice_index K i)) (LevelUnfit i)

-- the levels of a crew and a site fit the votes of the two for each other
abbrev pub pair_fits : ℕ → ℕ → Bool → Bool → Bool
pair_fits crew site for against =
    (not (for && against) || (crew == 0 && site == 1)) && (not (crew == 1 && site == 0) || (not for && not against))

-- an entry of a crew's list that is a pair outside the plan, with levels that do not fit
abbrev pub pair_fault : Rankings → List ℕ → List ℕ → ℕ → ℕ → Option Fault
pair_fault L P K i k =
    unless (slice_index P i == suc (slice_index (ranks L Crew i) k)
    || pair_fits (level_of P K Crew i) (level_of P K Site (slice_index (ranks L Crew i) k))
    (favours L P Crew i (slice_index (ranks L Crew i) k)) (favours L P Site (slice_index (ranks L Crew i) k) i))
    (PairUnfit i k)

-- a plan with levels: both lengths, every crew with its level in turn, and then every entry of every crew
abbrev pub levels_fault : Rankings → List ℕ → List ℕ → Option Fault
levels_fault L P K =
    or_else (length_fault L P First)
    (or_else (length_fault L K Second)
    (or_else (earliest (size L Crew) (λ i. or_else (crew_fault L P Only i) (level_fault P K i)))
    (earliest (size L Crew) (λ i. earliest (length (ranks L Crew i)) (pair_fault L P K i)))))
