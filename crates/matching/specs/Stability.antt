-- What a stable plan is, and which of them is the best for the crews.
use Rattle.std.specs.Prelude.{◌≡◌, ℕ, ◌<◌, ◌≤◌, cond, List, length, Ok, Err, Result, ◌==◌, ◌≢◌}
use Rattle.lists.specs.Rankings.{Rankings, ranks, place, size}
use Rattle.lists.specs.declared.faults.Fault.{Fault}
use Rattle.lists.specs.declared.faults.Fault.TheVariants.{BufferLength}
use Rattle.lists.specs.declared.parties.Side.{Side}
use Rattle.lists.specs.declared.parties.Side.TheVariants.{Crew, Site}
use Rattle.matching.specs.Plans.{With, Listed, PlanOn}

-- a party would rather have another: it ranks that one before whomever the plan gives it
abbrev pub Rather : Rankings → List ℕ → Side → ℕ → ℕ → Type 0
Rather L P s i j = (k : ℕ) → With P s i k → place (ranks L s i) j < place (ranks L s i) k

-- a listed pair blocks a plan if both would rather have each other
abbrev pub Blocks : Rankings → List ℕ → ℕ → ℕ → Type 0
Blocks L P i j = Listed L i j × Rather L P Crew i j × Rather L P Site j i

-- a stable plan: no pair blocks it
pub record Stable (L : Rankings) (P : List ℕ) : Type 0 where
  pub plan : PlanOn L P
  pub steady : (i j : ℕ) → Blocks L P i j → ⊥

-- the crew-best stable plan: no crew has a better site in any stable plan
pub record CrewBest (L : Rankings) (P : List ℕ) : Type 0 where
  pub stable : Stable L P
  pub best : (Q : List ℕ) → Stable L Q → (i j : ℕ) → With Q Crew i j →
      (k : ℕ) × With P Crew i k × (place (ranks L Crew i) k ≤ place (ranks L Crew i) j)

-- the one crew-best stable plan: every other is the same
pub record TheCrewBest (L : Rankings) (P : List ℕ) : Type 0 where
  pub crew_best : CrewBest L P
  pub alone : (Q : List ℕ) → CrewBest L Q → Q ≡ P

-- the stable call over lists, by its buffer before and after and its answer
pub record StableCall (L : Rankings) (before after : List ℕ) (answer : Result (Unit {0}) Fault) : Type 0 where
  pub answers : answer ≡ cond (length before == size L Crew) (Ok tt) (Err BufferLength)
  pub writes : length before ≡ size L Crew → TheCrewBest L after
  pub keeps : (length before ≢ size L Crew) → after ≡ before
