-- Lawful lists are short.
use Rattle.std.proofs.Common.{◌≤◌}
use Rattle.lists.specs.Rankings.{Rankings, Lawful, size}
use Rattle.lists.specs.declared.parties.Side.TheVariants.{Crew, Site}
use Rattle.matching.specs.TwoLevels.{two_levels_of}
use Rattle.matching.specs.Evidence.TwoLevels.{two_levels_lawful}

pub few_crews : (L : Rankings) → Lawful L → size L Crew ≤ 500
few_crews L lawful = lawful.few Crew

pub few_sites : (L : Rankings) → Lawful L → size L Site ≤ 500
few_sites L lawful = lawful.few Site

pub ruleset few_parties = (few_crews, few_sites)

-- and so are two-level lists over them
pub few_copies : (L : Rankings) → Lawful L → size (two_levels_of L) Crew ≤ 500
few_copies L lawful = (two_levels_lawful lawful).few Crew
