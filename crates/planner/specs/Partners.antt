-- Whom a party works with in a plan that is written for the parties of one side.
use Rattle.std.specs.Prelude.{ℕ, zero, suc, ◌+◌, List, Some, None, Option, ◌==◌, slice_index, vec_items}
use Rattle.std.specs.List.{position}
use Rattle.lists.specs.declared.parties.Side.{Side}
use Rattle.lists.specs.declared.parties.Side.TheVariants.{Crew, Site}
use Rattle.planner.specs.declared.pairings.Pairing.{Pairing}

-- a partner as a plan writes it: 0 for none, else its number plus 1
abbrev pub written : ℕ → Option ℕ
written zero = None
written (suc j) = Some j

-- who has the party of a number on the other side
abbrev pub held : List ℕ → ℕ → Option ℕ
held P j = position (λ partner. partner == j + 1) P

-- by the side that the plan is written for and the side of the party
abbrev pub partner_in : List ℕ → Side → Side → ℕ → Option ℕ
partner_in P Crew Crew i = written (slice_index P i)
partner_in P Site Site j = written (slice_index P j)
partner_in P Crew Site j = held P j
partner_in P Site Crew i = held P i

-- the partners that a pairing gives
abbrev pub partners_of : Pairing → Side → ℕ → Option ℕ
partners_of x = partner_in (vec_items x.plan) x.side
