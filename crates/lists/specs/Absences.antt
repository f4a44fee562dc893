-- Parties that are withdrawn, and the lists as they read without them.
use Rattle.std.specs.Prelude.{ℕ, Bool, true, false, cond, ◌&&◌, List, [], ◌∷◌, map, length, ◌==◌, nat_lt, slice_index_or}
use Rattle.std.specs.List.{range_with_len}
use Rattle.lists.specs.Rankings.{Rankings, size}
use Rattle.lists.specs.declared.parties.Party.{Party}
use Rattle.lists.specs.declared.parties.Side.{Side}
use Rattle.lists.specs.declared.parties.Side.TheVariants.{Crew, Site}

-- a set of parties
abbrev pub Absences : Type 0
Absences = Side → ℕ → Bool

-- nobody is withdrawn
abbrev pub nobody : Absences
nobody s i = false

-- a list without those who are withdrawn, the others in their order
abbrev pub remaining : (ℕ → Bool) → List ℕ → List ℕ
remaining gone [] = []
remaining gone (x ∷ xs) = cond (gone x) (remaining gone xs) (x ∷ remaining gone xs)

-- the lists of one side: a party that is withdrawn itself has the empty one
abbrev pub struck_side : (ℕ → Bool) → (ℕ → Bool) → List (List ℕ) → List (List ℕ)
struck_side own others lists = map (λ i. cond (own i) [] (remaining others (slice_index_or lists i []))) (range_with_len 0 (length lists))

-- the lists as they read without the parties that are withdrawn; the counts stay
abbrev pub struck : Rankings → Absences → Rankings
struck L W = record { crews = struck_side (W Crew) (W Site) L.crews; sites = struck_side (W Site) (W Crew) L.sites }

-- the sides are the same
abbrev pub same_side : Side → Side → Bool
same_side Crew Crew = true
same_side Crew Site = false
same_side Site Crew = false
same_side Site Site = true

-- the set with one party put in or taken out; a number that names no party changes nothing
abbrev pub marked : Rankings → Party → Bool → Absences → Absences
marked L p away W s i = cond (same_side p.side s && p.number == i && nat_lt i (size L s)) away (W s i)
