-- Lists laid down as the bytes of a roster, and the law that ties rosters to lists.
use Rattle.std.specs.Prelude.{◌≡◌, ℕ, ◌-◌, ◌/◌, ◌%◌, ◌<◌, ◌≤◌, ◌↔◌, List, [], ◌∷◌, ◌++◌, length, replicate, None, slice_index, slice_index_or}
use Rattle.std.specs.List.{range_with_len, flat_map}
use Rattle.lists.specs.Rankings.{Rankings, Lawful}
use Rattle.roster.specs.Layout.{seal, shown}
use Rattle.roster.specs.FirstFault.{first_fault}

-- a number in two bytes, and in four, high byte first
abbrev pub two_bytes : ℕ → List ℕ
two_bytes n = n / 256 ∷ n % 256 ∷ []

abbrev pub four_bytes : ℕ → List ℕ
four_bytes n = two_bytes (n / 65536) ++ two_bytes (n % 65536)

-- a text with zeros up to byte 508
abbrev pub padded : List ℕ → List ℕ
padded text = text ++ replicate (508 - length text) 0

-- a block: the padded text, and the check of it
abbrev pub block : List ℕ → List ℕ
block text = padded text ++ four_bytes (seal (λ i. slice_index (padded text) i))

-- the text of block 0
abbrev pub head_text : Rankings → List ℕ
head_text L = 1 ∷ 0 ∷ 0 ∷ 0 ∷ two_bytes (length L.crews) ++ two_bytes (length L.sites)

-- the text of a party's block
abbrev pub party_text : ℕ → ℕ → List ℕ → List ℕ
party_text kind i xs = kind ∷ 0 ∷ two_bytes i ++ (two_bytes (length xs) ++ flat_map two_bytes xs)

-- a block for every party of a side, in order
abbrev pub side_blocks : ℕ → List (List ℕ) → List ℕ
side_blocks kind lists = flat_map (λ i. block (party_text kind i (slice_index_or lists i []))) (range_with_len 0 (length lists))

-- block 0, the crews and the sites
abbrev pub laid_down : Rankings → List ℕ
laid_down L = block (head_text L) ++ (side_blocks 2 L.crews ++ side_blocks 3 L.sites)

-- bytes are a roster without a fault that shows lists exactly if they are these lists laid down,
-- and the lists are lawful and have at most 250 parties on a side
abbrev pub RostersAreListsLaidDown : Type 0
RostersAreListsLaidDown =
    (bs : List ℕ) (L : Rankings) → ((j : ℕ) → slice_index bs j < 256)
    → (((first_fault bs ≡ None) × (shown bs ≡ L))
    ↔ (Lawful L × (length L.crews ≤ 250) × (length L.sites ≤ 250) × (bs ≡ laid_down L)))
