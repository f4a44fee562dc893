-- The first fault of a roster's bytes, if any.
use Rattle.std.specs.Prelude.{ℕ, ◌+◌, ◌-◌, ◌*◌, ◌%◌, ◌&&◌, List, [], length, Option, ◌==◌, nat_le, nat_lt, slice_index, slice_index_or}
use Rattle.lists.specs.Rankings.{place}
use Rattle.lists.specs.declared.faults.Fault.{Fault}
use Rattle.lists.specs.declared.faults.Fault.TheVariants.{RosterLength, BlockCheck, BlockField, EntryTooHigh, EntryRepeated, EntryUnreturned}
use Rattle.lists.specs.declared.parties.Side.{Side}
use Rattle.lists.specs.declared.parties.Side.TheVariants.{Crew, Site}
use Rattle.lists.specs.Sides.{other}
use Rattle.roster.specs.Layout.{byte_at, two_at, four_at, seal, entries, kind_of, count_on, first_on, block_of, shown}
use Rattle.lists.specs.Order.{or_else, unless, earliest}

-- a length of 0, one that is no whole number of blocks, and one above 501 blocks
abbrev pub length_fault : List ℕ → Option Fault
length_fault bs = unless (nat_lt 0 (length bs) && length bs % 512 == 0 && nat_le (length bs) (512 * 501)) RosterLength

-- a block whose check does not fit its bytes
abbrev pub check_fault : List ℕ → ℕ → Option Fault
check_fault bs b = unless (seal (byte_at bs b) == four_at bs b 508) (BlockCheck b)

-- a byte that is not the one that belongs there
abbrev pub byte_fault : List ℕ → ℕ → ℕ → ℕ → Option Fault
byte_fault bs b i v = unless (byte_at bs b i == v) (BlockField b i)

-- a two-byte field that is not the number that belongs there
abbrev pub number_fault : List ℕ → ℕ → ℕ → ℕ → Option Fault
number_fault bs b i v = unless (two_at bs b i == v) (BlockField b i)

-- a two-byte field that is above a bound
abbrev pub bound_fault : List ℕ → ℕ → ℕ → ℕ → Option Fault
bound_fault bs b i n = unless (nat_le (two_at bs b i) n) (BlockField b i)

-- a byte that is not zero, from one byte on up to another
abbrev pub zero_fault : List ℕ → ℕ → ℕ → ℕ → Option Fault
zero_fault bs b from to = earliest (to - from) (λ k. byte_fault bs b (from + k) 0)

-- the fields of block 0, byte by byte
abbrev pub head_fault : List ℕ → Option Fault
head_fault bs =
    or_else (check_fault bs 0)
    (or_else (byte_fault bs 0 0 1)
    (or_else (zero_fault bs 0 1 4)
    (or_else (bound_fault bs 0 4 250)
    (or_else (bound_fault bs 0 6 250)
    (zero_fault bs 0 8 508)))))

-- a number of blocks that does not fit the counts
abbrev pub blocks_fault : List ℕ → Option Fault
blocks_fault bs = unless (length bs == 512 * (1 + two_at bs 0 4 + two_at bs 0 6)) RosterLength

-- the fields of a party's block, byte by byte
abbrev pub fields_fault : List ℕ → Side → ℕ → Option Fault
fields_fault bs s i =
    or_else (check_fault bs (block_of bs s i))
    (or_else (byte_fault bs (block_of bs s i) 0 (kind_of s))
    (or_else (byte_fault bs (block_of bs s i) 1 0)
    (or_else (number_fault bs (block_of bs s i) 2 i)
    (or_else (bound_fault bs (block_of bs s i) 4 (count_on bs (other s)))
    (zero_fault bs (block_of bs s i) (6 + 2 * two_at bs (block_of bs s i) 4) 508)))))

-- an entry that names nobody, or somebody whom an earlier entry of its list names
abbrev pub entry_fault : List ℕ → ℕ → ℕ → ℕ → Option Fault
entry_fault bs b n k =
    or_else (unless (nat_lt (two_at bs b (6 + 2 * k)) n) (EntryTooHigh b (6 + 2 * k)))
    (unless (nat_le k (place (entries bs b k) (two_at bs b (6 + 2 * k)))) (EntryRepeated b (6 + 2 * k)))

-- a party's block: its fields, and then its entries in turn
abbrev pub party_fault : List ℕ → Side → ℕ → Option Fault
party_fault bs s i =
    or_else (fields_fault bs s i)
    (earliest (two_at bs (block_of bs s i) 4) (entry_fault bs (block_of bs s i) (count_on bs (other s))))

-- the blocks of a side in order
abbrev pub side_fault : List ℕ → Side → Option Fault
side_fault bs s = earliest (count_on bs s) (party_fault bs s)

-- an entry of party i's list xs whose party does not name i back
abbrev pub return_fault : List (List ℕ) → ℕ → ℕ → List ℕ → ℕ → Option Fault
return_fault back b i xs k =
    unless (nat_lt (place (slice_index_or back (slice_index xs k) []) i) (length (slice_index_or back (slice_index xs k) [])))
    (EntryUnreturned b (6 + 2 * k))

-- the entries of one party in turn; the blocks of its side begin at a number
abbrev pub party_returns_fault : List (List ℕ) → List (List ℕ) → ℕ → ℕ → Option Fault
party_returns_fault own back first i =
    earliest (length (slice_index_or own i [])) (return_fault back (first + i) i (slice_index_or own i []))

-- the entries of one side, party by party
abbrev pub returns_fault : List (List ℕ) → List (List ℕ) → ℕ → Option Fault
returns_fault own back first = earliest (length own) (party_returns_fault own back first)

-- the whole roster
abbrev pub first_fault : List ℕ → Option Fault
first_fault bs =
    or_else (length_fault bs)
    (or_else (head_fault bs)
    (or_else (blocks_fault bs)
    (or_else (side_fault bs Crew)
    (or_else (side_fault bs Site)
    (or_else (returns_fault (shown bs).crews (shown bs).sites (first_on bs Crew))
    (returns_fault (shown bs).sites (shown bs).crews (first_on bs Site)))))))
