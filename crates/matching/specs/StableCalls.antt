-- What the stable call finds.
use Rattle.std.specs.Prelude.{◌≡◌, ℕ, List}
use Rattle.lists.specs.Rankings.{Rankings}
use Rattle.matching.specs.Deferred.{crew_best_of}
use Rattle.matching.specs.Stability.{TheCrewBest}

-- a plan that is the one crew-best stable plan, as deferred acceptance finds it
pub record Found (L : Rankings) (P : List ℕ) : Type 0 where
  pub best : TheCrewBest L P
  pub is : P ≡ crew_best_of L
