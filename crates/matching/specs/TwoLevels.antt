-- The two-level lists over lists: every crew twice, lower and upper, and a stand-in site for each crew.
use Rattle.std.specs.Prelude.{ℕ, ◌+◌, ◌-◌, ◌*◌, ◌/◌, ◌%◌, Bool, cond, ◌&&◌, List, [], ◌∷◌, ◌++◌, map, ◌==◌, nat_le, nat_lt}
use Rattle.std.specs.List.{range_with_len}
use Rattle.lists.specs.Rankings.{Rankings, ranks, size}
use Rattle.lists.specs.declared.parties.Side.TheVariants.{Crew, Site}

-- the lower and the upper crew that crew i becomes
abbrev pub lower : ℕ → ℕ
lower i = 2 * i

abbrev pub upper : ℕ → ℕ
upper i = 2 * i + 1

-- the site that stands in for crew i
abbrev pub stand_in_of : Rankings → ℕ → ℕ
stand_in_of L i = size L Site + i

-- the lower crew names its stand-in last, the upper crew first
abbrev pub lower_list : Rankings → ℕ → List ℕ
lower_list L i = ranks L Crew i ++ stand_in_of L i ∷ []

abbrev pub upper_list : Rankings → ℕ → List ℕ
upper_list L i = stand_in_of L i ∷ ranks L Crew i

-- by number: the even ones are lower crews, the odd ones upper crews
abbrev pub crew_list : Rankings → ℕ → List ℕ
crew_list L x = cond (x % 2 == 0) (lower_list L (x / 2)) (upper_list L (x / 2))

-- a site ranks the upper crews of those that it names, in order, before their lower crews
abbrev pub split_list : List ℕ → List ℕ
split_list xs = map upper xs ++ map lower xs

-- a stand-in names its lower crew and then its upper one
abbrev pub own_list : ℕ → List ℕ
own_list i = lower i ∷ upper i ∷ []

-- by number: the sites, and after them the stand-ins
abbrev pub site_list : Rankings → ℕ → List ℕ
site_list L y = cond (nat_lt y (size L Site)) (split_list (ranks L Site y)) (own_list (y - size L Site))

-- at most 250 parties on each side
abbrev pub fits_two_levels : Rankings → Bool
fits_two_levels L = nat_le (size L Crew) 250 && nat_le (size L Site) 250

-- how many crews and sites there are; none over lists that are too large
abbrev pub crew_total : Rankings → ℕ
crew_total L = cond (fits_two_levels L) (2 * size L Crew) 0

abbrev pub site_total : Rankings → ℕ
site_total L = cond (fits_two_levels L) (size L Site + size L Crew) 0

abbrev pub two_levels_of : Rankings → Rankings
two_levels_of L = record { crews = map (crew_list L) (range_with_len 0 (crew_total L)); sites = map (site_list L) (range_with_len 0 (site_total L)) }
