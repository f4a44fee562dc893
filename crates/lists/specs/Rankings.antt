-- What lists of crews and sites mean, and the laws they keep.
use Rattle.std.specs.Prelude.{◌≡◌, ℕ, zero, suc, ◌<◌, ◌≤◌, cond, List, [], ◌∷◌, length, Some, None, Option, ◌==◌, nat_lt, slice_index, slice_index_or}
use Rattle.lists.specs.Sides.{other}
use Rattle.lists.specs.declared.parties.Side.{Side}
use Rattle.lists.specs.declared.parties.Side.TheVariants.{Crew, Site}

-- a list of sites for every crew, and a list of crews for every site
pub record Rankings : Type 0 where
  pub crews : List (List ℕ)
  pub sites : List (List ℕ)

-- the lists of one side
abbrev pub half : Rankings → Side → List (List ℕ)
half L Crew = L.crews
half L Site = L.sites

-- how many parties a side has
abbrev pub size : Rankings → Side → ℕ
size L s = length (half L s)

-- the list of one party; a number that names no party has the empty one
abbrev pub ranks : Rankings → Side → ℕ → List ℕ
ranks L s i = slice_index_or (half L s) i []

-- the first place of a number in a list, or the list's length where it is absent
abbrev pub place : List ℕ → ℕ → ℕ
place [] v = zero
place (x ∷ xs) v = cond (x == v) zero (suc (place xs v))

-- what stands at a place, absent past the end
abbrev pub entry_at : List ℕ → ℕ → Option ℕ
entry_at xs k = cond (nat_lt k (length xs)) (Some (slice_index xs k)) None

-- the place of a number, absent where it is not in the list
abbrev pub place_of : List ℕ → ℕ → Option ℕ
place_of xs v = cond (nat_lt (place xs v) (length xs)) (Some (place xs v)) None

-- a party has another in its list
abbrev pub Names : Rankings → Side → ℕ → ℕ → Type 0
Names L s i j = place (ranks L s i) j < length (ranks L s i)

-- the laws of lists
pub record Lawful (L : Rankings) : Type 0 where
  pub few : (s : Side) → size L s ≤ 500
  pub within : (s : Side) (i k : ℕ) → k < length (ranks L s i) → slice_index (ranks L s i) k < size L (other s)
  pub once : (s : Side) (i k m : ℕ) → k < length (ranks L s i) → m < length (ranks L s i) → slice_index (ranks L s i) k ≡ slice_index (ranks L s i) m → k ≡ m
  pub returned : (s : Side) (i j : ℕ) → Names L s i j → Names L (other s) j i

-- the same lists with the sides exchanged
abbrev pub flipped : Rankings → Rankings
flipped L = record { crews = L.sites; sites = L.crews }
