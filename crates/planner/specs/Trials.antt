-- The text of a trial: its two stable plans side by side.
use Rattle.std.specs.Prelude.{◌≡◌, ℕ, ◌⊎◌, List, Some, Option}
use Rattle.lists.specs.Rankings.{Rankings, flipped}
use Rattle.lists.specs.declared.faults.Fault.{Fault}
use Rattle.lists.specs.declared.parties.Side.TheVariants.{Crew, Site}
use Rattle.matching.specs.Stability.{TheCrewBest}
use Rattle.planner.specs.Choices.{trial_text}
use Rattle.planner.specs.Partners.{partner_in}
use Rattle.planner.specs.declared.troubles.Trouble.{Trouble}
use Rattle.planner.specs.declared.troubles.Trouble.TheVariants.{Unfit, Memory}

-- the text shows the crew-best stable plan of the lists, and that of their flip
pub record TrialText (L : Rankings) (text : List ℕ) : Type 0 where
  pub crew_plan : List ℕ
  pub site_plan : List ℕ
  pub crew_best : TheCrewBest L crew_plan
  pub site_best : TheCrewBest (flipped L) site_plan
  pub shows : text ≡ trial_text L (partner_in crew_plan Crew) (partner_in site_plan Site)

-- why no text is made: the fault of what was handed in, or that no memory is left
abbrev pub Stops : Option Fault → Trouble → Type 0
Stops fault trouble = (trouble ≡ Memory) ⊎ ((f : Fault) × (fault ≡ Some f) × (trouble ≡ Unfit f))
