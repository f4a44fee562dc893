-- How a roster's bytes are laid out, and the lists that they show.
use Rattle.std.specs.Prelude.{ℕ, zero, suc, ◌+◌, ◌*◌, ◌%◌, List, map, slice_index}
use Rattle.std.specs.List.{range_with_len}
use Rattle.lists.specs.Rankings.{Rankings}
use Rattle.lists.specs.declared.parties.Side.{Side}
use Rattle.lists.specs.declared.parties.Side.TheVariants.{Crew, Site}

-- a byte of a block of 512
abbrev pub byte_at : List ℕ → ℕ → ℕ → ℕ
byte_at bs b i = slice_index bs (512 * b + i)

-- the two-byte number that begins at a byte of a block, high byte first
abbrev pub two_at : List ℕ → ℕ → ℕ → ℕ
two_at bs b i = 256 * byte_at bs b i + byte_at bs b (i + 1)

-- the four-byte number that begins at a byte of a block, high byte first
abbrev pub four_at : List ℕ → ℕ → ℕ → ℕ
four_at bs b i = 65536 * two_at bs b i + two_at bs b (i + 2)

-- the sum of (i + 1) * f i over the i below a number
unfoldable pub weighted : (ℕ → ℕ) → ℕ → ℕ
weighted f zero = 0
weighted f (suc n) = weighted f n + (n + 1) * f n

-- the check of a block with these bytes
abbrev pub seal : (ℕ → ℕ) → ℕ
seal f = weighted f 508 % 131071

-- the first entries of a block's list
abbrev pub entries : List ℕ → ℕ → ℕ → List ℕ
entries bs b n = map (λ k. two_at bs b (6 + 2 * k)) (range_with_len 0 n)

-- a block's list
abbrev pub list_in : List ℕ → ℕ → List ℕ
list_in bs b = entries bs b (two_at bs b 4)

-- byte 0 of each block of a side
abbrev pub kind_of : Side → ℕ
kind_of Crew = 2
kind_of Site = 3

-- how many parties a side has, as block 0 tells
abbrev pub count_on : List ℕ → Side → ℕ
count_on bs Crew = two_at bs 0 4
count_on bs Site = two_at bs 0 6

-- the block of a side's party 0: the crews come first, and after them the sites
abbrev pub first_on : List ℕ → Side → ℕ
first_on bs Crew = 1
first_on bs Site = 1 + count_on bs Crew

-- the block of a party
abbrev pub block_of : List ℕ → Side → ℕ → ℕ
block_of bs s i = first_on bs s + i

-- the lists in the blocks of a side
abbrev pub lists_in : List ℕ → Side → List (List ℕ)
lists_in bs s = map (λ i. list_in bs (block_of bs s i)) (range_with_len 0 (count_on bs s))

-- the lists that a roster shows
abbrev pub shown : List ℕ → Rankings
shown bs = record { crews = lists_in bs Crew; sites = lists_in bs Site }
