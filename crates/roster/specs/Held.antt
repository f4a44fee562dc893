-- When a table of places fits a list, and the lists of both sides.
use Rattle.std.specs.Prelude.{◌≡◌, ℕ, List, None, Option, slice_index_or}
use Rattle.lists.specs.Rankings.{Rankings, place_of}

-- the table tells the place of every number
abbrev pub Placed : List ℕ → List (Option ℕ) → Type 0
Placed xs places = (v : ℕ) → slice_index_or places v None ≡ place_of xs v

-- the lists of both sides
abbrev pub both_of : List (List ℕ) → List (List ℕ) → Rankings
both_of c s = record { crews = c; sites = s }
