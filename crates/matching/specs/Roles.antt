-- Who the parties of two-level lists are, by the lists below.
use Rattle.std.specs.Prelude.{◌≡◌, ℕ, ◌<◌, List, [], Some, None, Option}
use Rattle.lists.specs.Rankings.{Rankings, ranks, size}
use Rattle.lists.specs.declared.parties.Party.{Party}
use Rattle.lists.specs.declared.parties.Side.TheVariants.{Crew, Site}
use Rattle.matching.specs.TwoLevels.{lower, upper, stand_in_of, lower_list, upper_list, split_list, own_list}
use Rattle.matching.specs.declared.copies.CrewCopy.TheVariants.{Lower, Upper}
use Rattle.matching.specs.declared.roles.Role.{Role}
use Rattle.matching.specs.declared.roles.Role.TheVariants.{Copied, Real, StandIn}

-- a party has a role: a crew is a copy of one below, a site is one below or stands in for a crew
abbrev pub HasRole : Rankings → Party → Role → Type 0
HasRole L p (Copied (Lower i)) = (p.side ≡ Crew) × (p.number ≡ lower i) × (i < size L Crew)
HasRole L p (Copied (Upper i)) = (p.side ≡ Crew) × (p.number ≡ upper i) × (i < size L Crew)
HasRole L p (Real j) = (p.side ≡ Site) × (p.number ≡ j) × (j < size L Site)
HasRole L p (StandIn i) = (p.side ≡ Site) × (p.number ≡ stand_in_of L i) × (i < size L Crew)

-- the list that a role has; without one it is empty
abbrev pub role_list : Rankings → Option Role → List ℕ
role_list L None = []
role_list L (Some (Copied (Lower i))) = lower_list L i
role_list L (Some (Copied (Upper i))) = upper_list L i
role_list L (Some (Real j)) = split_list (ranks L Site j)
role_list L (Some (StandIn i)) = own_list i
