-- Levels of crews and sites, and the rules that make them evidence for a plan.
use Rattle.std.specs.Prelude.{◌≡◌, ℕ, zero, suc, ◌<◌, ◌≤◌, Bool, true, false, List, length, slice_index}
use Rattle.lists.specs.Rankings.{Rankings, ranks, size}
use Rattle.lists.specs.declared.parties.Side.{Side}
use Rattle.lists.specs.declared.parties.Side.TheVariants.{Crew, Site}
use Rattle.matching.specs.Plans.{With, Listed, partner_of}
use Rattle.matching.specs.Votes.{likes}

-- the level of the crew that is written, 0 where there is none
abbrev pub level_held : List ℕ → ℕ → ℕ
level_held K zero = 0
level_held K (suc i) = slice_index K i

-- the level of a party: a crew's is written down, a placed site has its crew's, and a site left out has 0
abbrev pub level_of : List ℕ → List ℕ → Side → ℕ → ℕ
level_of P K Crew i = slice_index K i
level_of P K Site j = level_held K (partner_of P Site j)

-- the vote of a party for another against whomever the plan gives it: true for +, false for -
abbrev pub favours : Rankings → List ℕ → Side → ℕ → ℕ → Bool
favours L P s i j = likes (ranks L s i) (suc j) (partner_of P s i)

-- a listed pair outside a plan
pub record Apart (L : Rankings) (P : List ℕ) (i j : ℕ) : Type 0 where
  pub listed : Listed L i j
  pub outside : With P Crew i j → ⊥

-- the level rules of a plan on lists
pub record LevelRules (L : Rankings) (P K : List ℕ) : Type 0 where
  -- one level for each crew, at most 1
  pub whole : length K ≡ size L Crew
  pub binary : (i : ℕ) → i < size L Crew → slice_index K i ≤ 1
  -- a crew left out has level 1
  pub is_left_out : (i : ℕ) → i < size L Crew → slice_index P i ≡ 0 → slice_index K i ≡ 1
  -- where both would rather have each other, the crew's level is 0 and that of the site is 1
  pub both_for : (i j : ℕ) → Apart L P i j → favours L P Crew i j ≡ true → favours L P Site j i ≡ true →
      (level_of P K Crew i ≡ 0) × (level_of P K Site j ≡ 1)
  -- where the crew has level 1 and the site 0, neither would
  pub neither_for : (i j : ℕ) → Apart L P i j → level_of P K Crew i ≡ 1 → level_of P K Site j ≡ 0 →
      (favours L P Crew i j ≡ false) × (favours L P Site j i ≡ false)
