-- How the parties vote between two plans, and what makes a plan lose or dominate.
use Rattle.std.specs.Prelude.{ℕ, zero, suc, ◌+◌, ◌<◌, Bool, true, false, cond, not, ◌&&◌, List, ℤ, pos, negsuc, ◌+ℤ◌, ◌<ℤ◌, nat_lt}
use Rattle.lists.specs.Rankings.{Rankings, ranks, place, size}
use Rattle.lists.specs.declared.parties.Side.{Side}
use Rattle.lists.specs.declared.parties.Side.TheVariants.{Crew, Site}
use Rattle.matching.specs.Plans.{PlanOn, partner_of, placed, pairs}
use Rattle.matching.specs.Sums.{balance, tally}

-- a party with this list likes one partner better than another, both written as in a plan:
-- anybody is better than nobody, and of two the one that stands earlier
abbrev pub likes : List ℕ → ℕ → ℕ → Bool
likes xs zero q = false
likes xs (suc p) zero = true
likes xs (suc p) (suc q) = nat_lt (place xs p) (place xs q)

-- its vote for the first of two partners against the second: 1 for, -1 against, 0 for neither
abbrev pub vote : List ℕ → ℕ → ℕ → ℤ
vote xs p q = cond (likes xs p q) (pos 1) (cond (likes xs q p) (negsuc 0) (pos 0))

-- the votes of a side for plan P against plan Q, added up
abbrev pub votes_of : Rankings → List ℕ → List ℕ → Side → ℤ
votes_of L P Q s = balance (size L s) (λ i. vote (ranks L s i) (partner_of P s i) (partner_of Q s i))

-- the lead of plan P over plan Q
abbrev pub lead : Rankings → List ℕ → List ℕ → ℤ
lead L P Q = votes_of L P Q Crew +ℤ votes_of L P Q Site

-- plan P loses to plan Q
abbrev pub Loses : Rankings → List ℕ → List ℕ → Type 0
Loses L P Q = lead L P Q <ℤ pos 0

-- a dominant plan loses to none, and leads every plan that has more pairs
pub record Dominant (L : Rankings) (P : List ℕ) : Type 0 where
  pub plan : PlanOn L P
  pub unbeaten : (Q : List ℕ) → PlanOn L Q → Loses L P Q → ⊥
  pub ahead : (Q : List ℕ) → PlanOn L Q → pairs P < pairs Q → pos 0 <ℤ lead L P Q

-- how many parties of a side plan Q places and plan P leaves out
abbrev pub missed_of : Rankings → List ℕ → List ℕ → Side → ℕ
missed_of L P Q s = tally (size L s) (λ i. placed Q s i && not (placed P s i))

-- how many parties plan Q places and plan P leaves out
abbrev pub missed : Rankings → List ℕ → List ℕ → ℕ
missed L P Q = missed_of L P Q Crew + missed_of L P Q Site
