-- The words in which the planner says why it gives up.
use Rattle.std.specs.Prelude.{ℕ, List, Some, None, codes, Option}
use Rattle.lists.specs.Words.{fault_words}
use Rattle.planner.specs.declared.troubles.Trouble.{Trouble}
use Rattle.planner.specs.declared.troubles.Trouble.TheVariants.{Usage, Unfit, Io, Memory}

-- the words of a fault and of the planner itself; those of the system are its own
abbrev pub trouble_words : Trouble → Option (List ℕ)
trouble_words Usage = Some (codes "unknown words; planner --help says which there are")
trouble_words (Unfit fault) = Some (fault_words fault)
trouble_words (Io error) = None
trouble_words Memory = Some (codes "out of memory")
