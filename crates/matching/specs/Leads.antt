-- What the level rules promise of a plan.
use Rattle.std.specs.Prelude.{◌≡◌, ℕ, List, pos, neg_ℤ, ◌≤ℤ◌}
use Rattle.lists.specs.Rankings.{Rankings}
use Rattle.lists.specs.declared.parties.Side.{Side}
use Rattle.matching.specs.Levels.{LevelRules}
use Rattle.matching.specs.Plans.{PlanOn, placed}
use Rattle.matching.specs.Votes.{lead, missed, Dominant}

-- the lead of one plan over another is that of the other over it with its sign turned
abbrev pub LeadIsAntisymmetric : Type 0
LeadIsAntisymmetric = (L : Rankings) (P Q : List ℕ) → lead L Q P ≡ neg_ℤ (lead L P Q)

-- a plan that keeps the rules leads any other by at least 1 for each party that only the other places
abbrev pub LevelledPlanLeads : Type 0
LevelledPlanLeads = (L : Rankings) (P K Q : List ℕ) → PlanOn L P → LevelRules L P K → PlanOn L Q → pos (missed L P Q) ≤ℤ lead L P Q

-- it loses to none and leads every plan that has more pairs
abbrev pub LevelledPlanIsDominant : Type 0
LevelledPlanIsDominant = (L : Rankings) (P K : List ℕ) → PlanOn L P → LevelRules L P K → Dominant L P

-- two such plans place the same parties
abbrev pub LevelledPlansPlaceTheSame : Type 0
LevelledPlansPlaceTheSame = (L : Rankings) (P K Q M : List ℕ) → PlanOn L P → LevelRules L P K → PlanOn L Q → LevelRules L Q M →
    (s : Side) (i : ℕ) → placed P s i ≡ placed Q s i
