-- The two sides of a trial.
use Rattle.lists.specs.declared.parties.Party.{Party}
use Rattle.lists.specs.declared.parties.Side.{Side}
use Rattle.lists.specs.declared.parties.Side.TheVariants.{Crew, Site}

-- the side that a side ranks
abbrev pub other : Side → Side
other Crew = Site
other Site = Crew

-- the party of the same number on the other side
abbrev pub across : Party → Party
across p = record { side = other p.side; number = p.number }
