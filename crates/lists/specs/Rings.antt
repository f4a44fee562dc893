-- The ring: every party names the whole other side, going round from a start of its own.
use Rattle.std.specs.Prelude.{ℕ, ◌+◌, ◌%◌, List, map}
use Rattle.std.specs.List.{range_with_len}
use Rattle.lists.specs.Rankings.{Rankings}
use Rattle.lists.specs.declared.parties.Side.{Side}
use Rattle.lists.specs.declared.parties.Side.TheVariants.{Crew, Site}

-- once round n numbers, beginning at a
abbrev pub turn : ℕ → ℕ → List ℕ
turn n a = map (λ k. (a + k) % n) (range_with_len 0 n)

-- the lists of one side: party i begins at i and the side's shift
abbrev pub turns : ℕ → ℕ → List (List ℕ)
turns n shift = map (λ i. turn n (i + shift)) (range_with_len 0 n)

-- the shift of a side
abbrev pub shift_of : ℕ → ℕ → Side → ℕ
shift_of u w Crew = u
shift_of u w Site = w

-- n parties a side, the crews shifted by u and the sites by w
abbrev pub ring_lists : ℕ → ℕ → ℕ → Rankings
ring_lists n u w = record { crews = turns n u; sites = turns n w }
