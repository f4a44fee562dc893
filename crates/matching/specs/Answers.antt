-- What a site answers to a crew that asks, and what its answer leaves.
use Rattle.std.specs.Prelude.{ℕ, suc, ◌<◌, cond, List, replicate, Some, None, Option, nat_lt, slice_index, slice_index_or, slice_set}
use Rattle.matching.specs.declared.proposals.Hold.{Hold}
use Rattle.matching.specs.declared.proposals.Proposals.{Proposals}

-- the crew that is refused: of the one held and the one that asks, the one that the site ranks later
abbrev pub refused_of : Option Hold → ℕ → ℕ → Option ℕ
refused_of None crew place = None
refused_of (Some h) crew place = Some (cond (nat_lt h.place place) crew h.crew)

-- the crew that the site holds after that
abbrev pub kept_of : Option Hold → ℕ → ℕ → Option Hold
kept_of None crew place = Some (record { crew = crew; place = place })
kept_of (Some h) crew place = cond (nat_lt h.place place) (Some h) (Some (record { crew = crew; place = place }))

-- the refusals with one more for the crew that is refused
abbrev pub counted : List ℕ → Option ℕ → List ℕ
counted refusals None = refusals
counted refusals (Some crew) = slice_set refusals crew (suc (slice_index refusals crew))

-- the crew held plus 1, or 0 for none
abbrev pub held_by : Option Hold → ℕ
held_by None = 0
held_by (Some h) = suc h.crew

-- the place of the crew held, or 0 for none
abbrev pub held_at : Option Hold → ℕ
held_at None = 0
held_at (Some h) = h.place

-- nobody has asked yet
abbrev pub unasked : Proposals
unasked = record { refusals = replicate 500 0; holds = replicate 500 None }

-- by number: how many entries have refused a crew, what a site holds, which crew that is and at which place
abbrev pub refusals_in : Proposals → ℕ → ℕ
refusals_in p i = slice_index p.refusals i

abbrev pub hold_in : Proposals → ℕ → Option Hold
hold_in p j = slice_index_or p.holds j None

abbrev pub holder_in : Proposals → ℕ → ℕ
holder_in p j = held_by (hold_in p j)

abbrev pub rank_in : Proposals → ℕ → ℕ
rank_in p j = held_at (hold_in p j)

-- what a crew leaves that asks a site which ranks it at a place
abbrev pub asked_of : Proposals → ℕ → ℕ → ℕ → Proposals
asked_of p crew site place = record {
  refusals = counted p.refusals (refused_of (hold_in p site) crew place);
  holds = slice_set p.holds site (kept_of (hold_in p site) crew place);
}

-- one more refusal of a crew can be noted
abbrev pub HasRoom : Proposals → ℕ → Type 0
HasRoom p crew = (crew < 500) × (refusals_in p crew < 500)
