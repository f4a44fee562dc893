-- What a plan is: pairs of crews and sites, written as one number for each crew.
use Rattle.std.specs.Prelude.{◌≡◌, ℕ, zero, suc, Bool, cond, List, length, Some, None, Option, nat_lt, slice_index}
use Rattle.lists.specs.Rankings.{Rankings, Names, size, place}
use Rattle.lists.specs.declared.parties.Side.{Side}
use Rattle.lists.specs.declared.parties.Side.TheVariants.{Crew, Site}
use Rattle.matching.specs.Sums.{tally}

-- a plan has 0 for a crew without a site, and the site's number plus 1 for one with a site
abbrev pub number_written : Option ℕ → ℕ
number_written None = 0
number_written (Some j) = suc j

abbrev pub site_written : ℕ → Option ℕ
site_written zero = None
site_written (suc j) = Some j

-- a plan has 0 for a crew that it leaves out, and the site's number plus 1 for one that it places
abbrev pub With : List ℕ → Side → ℕ → ℕ → Type 0
With P Crew i j = slice_index P i ≡ suc j
With P Site j i = slice_index P i ≡ suc j

-- whom a party has in a plan: 0 for nobody, else the other's number plus 1
abbrev pub partner_of : List ℕ → Side → ℕ → ℕ
partner_of P Crew i = slice_index P i
partner_of P Site j = cond (nat_lt (place P (suc j)) (length P)) (suc (place P (suc j))) 0

-- a party that a plan has in a pair is placed, any other is left out
abbrev pub placed : List ℕ → Side → ℕ → Bool
placed P s i = nat_lt 0 (partner_of P s i)

-- a pair that both parties have in their lists
abbrev pub Listed : Rankings → ℕ → ℕ → Type 0
Listed L i j = Names L Crew i j × Names L Site j i

-- a plan on lists: listed pairs, no party in two of them
pub record PlanOn (L : Rankings) (P : List ℕ) : Type 0 where
  pub whole : length P ≡ size L Crew
  pub listed : (i j : ℕ) → With P Crew i j → Listed L i j
  pub single : (j i k : ℕ) → With P Site j i → With P Site j k → i ≡ k

-- how many pairs a plan has
abbrev pub pairs : List ℕ → ℕ
pairs P = tally (length P) (placed P Crew)
