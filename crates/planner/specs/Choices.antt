-- What is printed of a trial: with whom each party works, which of its choices that is, and who is left out.
use Rattle.std.specs.Prelude.{◌≡◌, ℕ, zero, suc, ◌+◌, ◌-◌, cond, List, [], ◌++◌, length, is_some, Some, None, codes, decimal, String, string_bytes, IfOk, Option, Result, ◌==◌}
use Rattle.std.specs.List.{repeat}
use Rattle.lists.specs.Rankings.{Rankings, size, ranks, place_of}
use Rattle.lists.specs.Sides.{other}
use Rattle.lists.specs.Words.{party_words}
use Rattle.lists.specs.declared.parties.Side.{Side}
use Rattle.lists.specs.declared.parties.Side.TheVariants.{Crew, Site}

-- the answer of a call that makes a text, where there is memory for it
abbrev pub Tells : {A E : Type 0} → Result (String A) E → List ℕ → Type 0
Tells answer text = IfOk answer (λ s. string_bytes s ≡ text)

-- a partner, its place in a list counted from 1, and the length of the list
abbrev pub ranked_text : Side → ℕ → ℕ → ℕ → List ℕ
ranked_text s j k n =
    party_words (record { side = s; number = j }) ++ (codes ", choice " ++ (decimal (k + 1) ++ (codes " of " ++ decimal n)))

abbrev pub placed_text : Side → ℕ → Option ℕ → ℕ → List ℕ
placed_text s j None n = codes "left out"
placed_text s j (Some k) n = ranked_text s j k n

-- a party with a partner or none
abbrev pub partner_text : Rankings → Side → ℕ → Option ℕ → List ℕ
partner_text L s i None = codes "left out"
partner_text L s i (Some j) = placed_text (other s) j (place_of (ranks L s i) j) (length (ranks L s i))

-- party i of a side, by the partners that a plan gives
abbrev pub choice_text : Rankings → (Side → ℕ → Option ℕ) → Side → ℕ → List ℕ
choice_text L partner s i = partner_text L s i (partner s i)

-- the numbers below n of those who have no partner, each after a space
abbrev pub left_numbers : (ℕ → Option ℕ) → ℕ → List ℕ
left_numbers partner zero = []
left_numbers partner (suc n) = left_numbers partner n ++ cond (is_some (partner n)) [] (codes " " ++ decimal n)

-- the same, or a word where there are none
abbrev pub left_text : (ℕ → Option ℕ) → ℕ → List ℕ
left_text partner n = cond (length (left_numbers partner n) == 0) (codes " none") (left_numbers partner n)

-- a line on those whom a plan leaves out, by the plan's name, the partners it gives and the counts
abbrev pub left_line : List ℕ → (Side → ℕ → Option ℕ) → (Side → ℕ) → List ℕ
left_line name partner count =
    codes "left out, " ++ (name ++ (codes ": crews" ++ (left_text (partner Crew) (count Crew)
    ++ (codes "; sites" ++ (left_text (partner Site) (count Site) ++ codes "\n")))))

-- a text with spaces after it, up to a width
abbrev pub pad_to : ℕ → List ℕ → List ℕ
pad_to width text = text ++ repeat (width - length text) (codes " ")

-- a party with what it has in the two plans
abbrev pub row_text : Side → ℕ → List ℕ → List ℕ → List ℕ
row_text s i left right = pad_to 12 (party_words (record { side = s; number = i })) ++ (pad_to 31 left ++ (right ++ codes "\n"))

-- the line of a party, by the partners that the two plans give
abbrev pub line_text : Rankings → (Side → ℕ → Option ℕ) → (Side → ℕ → Option ℕ) → Side → ℕ → List ℕ
line_text L p q s i = row_text s i (choice_text L p s i) (choice_text L q s i)

-- the lines of the parties below n, one after the other
abbrev pub lines : (ℕ → List ℕ) → ℕ → List ℕ
lines line zero = []
lines line (suc n) = lines line n ++ line n

-- the parties of a side
abbrev pub table_text : Rankings → (Side → ℕ → Option ℕ) → (Side → ℕ → Option ℕ) → Side → List ℕ
table_text L p q s = lines (line_text L p q s) (size L s)

abbrev pub counts_text : ℕ → ℕ → List ℕ
counts_text crews sites = codes "crews: " ++ (decimal crews ++ (codes "\nsites: " ++ (decimal sites ++ codes "\n")))

-- the line on each of the two plans
abbrev pub left_lines : (Side → ℕ) → (Side → ℕ → Option ℕ) → (Side → ℕ → Option ℕ) → List ℕ
left_lines count p q = left_line (codes "crew-best") p count ++ left_line (codes "site-best") q count

-- the parts of the whole in their order, under the names of the two plans
abbrev pub joined_text : List ℕ → List ℕ → List ℕ → List ℕ → List ℕ
joined_text counts crews sites left =
    counts ++ (codes "\n            crew-best                      site-best\n" ++ (crews ++ (codes "\n" ++ (sites ++ (codes "\n" ++ left)))))

-- the whole trial, by the partners that the two plans give
abbrev pub trial_text : Rankings → (Side → ℕ → Option ℕ) → (Side → ℕ → Option ℕ) → List ℕ
trial_text L p q =
    joined_text (counts_text (size L Crew) (size L Site)) (table_text L p q Crew) (table_text L p q Site) (left_lines (size L) p q)
