-- What the words after the program's name ask for.
use Rattle.std.specs.Prelude.{◌≡◌, ℕ, ◌<◌, List, [], ◌∷◌, ◌++◌, Some, None, codes, Option}
use Rattle.std.specs.Str.Parse.{IsNumeral, without_leading_plus, digits_value}
use Rattle.planner.specs.declared.commands.Command.{Command}
use Rattle.planner.specs.declared.commands.Command.TheVariants.{Help, Input, File, Ring}

-- the word writes the number in decimal digits, after a plus or not, within 16 bits
pub record Writes (word : List ℕ) (n : ℕ) : Type 0 where
  pub digits : IsNumeral 10 (without_leading_plus word)
  pub fits : digits_value 10 (without_leading_plus word) < 65536
  pub means : n ≡ digits_value 10 (without_leading_plus word)

-- the word begins with two dashes, so that it names no file
pub record Dashed (word : List ℕ) : Type 0 where
  pub rest : List ℕ
  pub begins : word ≡ codes "--" ++ rest

-- the words for a ring: its name, and a number each for its size and its two shifts
pub record RingWords (words : List (List ℕ)) (size crews sites : ℕ) : Type 0 where
  pub size_word : List ℕ
  pub crews_word : List ℕ
  pub sites_word : List ℕ
  pub are : words ≡ codes "--ring" ∷ size_word ∷ crews_word ∷ sites_word ∷ []
  pub is_size : Writes size_word size
  pub is_crews : Writes crews_word crews
  pub is_sites : Writes sites_word sites

abbrev pub Asks : List (List ℕ) → Command → Type 0
Asks words Help = words ≡ codes "--help" ∷ []
Asks words Input = words ≡ []
Asks words (File path) = (words ≡ path.now ∷ []) × (Dashed path.now → ⊥)
Asks words (Ring size crews sites) = RingWords words size crews sites

-- the answer is one that is meant, and there is none only where nothing is meant
abbrev pub Found : {A : Type 0} → Option A → (A → Type 0) → Type 0
Found (Some x) Means = Means x
Found {A = A} None Means = (x : A) → Means x → ⊥
