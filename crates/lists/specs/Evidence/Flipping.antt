-- The flip of lawful lists is lawful.
use Rattle.lists.specs.Rankings.{Rankings, Lawful, flipped}
use Rattle.lists.specs.declared.parties.Side.TheVariants.{Crew, Site}

pub flipped_lawful : {L : Rankings} → Lawful L → Lawful (flipped L)
flipped_lawful h = record {
  few = elim [ Crew ↦ h.few Site | Site ↦ h.few Crew ];
  within = elim [ Crew ↦ h.within Site | Site ↦ h.within Crew ];
  once = elim [ Crew ↦ h.once Site | Site ↦ h.once Crew ];
  returned = elim [ Crew ↦ h.returned Site | Site ↦ h.returned Crew ];
}
