-- The crew-best stable plan as deferred acceptance finds it: crews ask in turn, and a site holds the best that has asked it.
use Rattle.std.specs.Prelude.{◌≡◌, ℕ, zero, suc, cond, ◌↔◌, List, map, length, Some, None, Option, nat_lt, slice_index}
use Rattle.std.specs.List.{range_with_len}
use Rattle.lists.specs.Rankings.{Rankings, Lawful, ranks, place, size}
use Rattle.lists.specs.declared.parties.Side.TheVariants.{Crew, Site}
use Rattle.matching.specs.Acceptance.{chosen}
use Rattle.matching.specs.Answers.{refused_of, unasked, refusals_in, hold_in, asked_of}
use Rattle.matching.specs.Stability.{TheCrewBest}
use Rattle.matching.specs.Sums.{total}
use Rattle.matching.specs.declared.proposals.Proposals.{Proposals}

-- the site that a crew asks next
abbrev pub asks : Rankings → Proposals → ℕ → ℕ
asks L p a = slice_index (ranks L Crew a) (refusals_in p a)

-- at which place that site ranks it
abbrev pub asks_at : Rankings → Proposals → ℕ → ℕ
asks_at L p a = place (ranks L Site (asks L p a)) a

-- whom the site refuses then, and what its answer leaves
abbrev pub refuses : Rankings → Proposals → ℕ → Option ℕ
refuses L p a = refused_of (hold_in p (asks L p a)) a (asks_at L p a)

abbrev pub answered : Rankings → Proposals → ℕ → Proposals
answered L p a = asked_of p a (asks L p a) (asks_at L p a)

-- whoever is refused goes on, if anybody is
abbrev pub going_on : Option ℕ → Proposals → (ℕ → Proposals) → Proposals
going_on None p on = p
going_on (Some x) p on = on x

-- a crew asks, and after it whoever is refused, until nobody is or one has asked all; so many turns at most
abbrev pub progress_of_chain : ℕ → Rankings → Proposals → ℕ → Proposals
progress_of_chain zero L p a = p
progress_of_chain (suc turns) L p a =
    cond (nat_lt (refusals_in p a) (length (ranks L Crew a)))
    (going_on (refuses L p a) (answered L p a) (progress_of_chain turns L (answered L p a)))
    p

-- how many entries the crews have
abbrev pub entry_count : Rankings → ℕ
entry_count L = total (size L Crew) (λ i. length (ranks L Crew i))

-- the first n crews have asked; every turn but the last uses up an entry
abbrev pub progress_of_all : Rankings → ℕ → Proposals
progress_of_all L zero = unasked
progress_of_all L (suc n) = progress_of_chain (suc (entry_count L)) L (progress_of_all L n) n

-- what the crews have in the end
abbrev pub crew_best_of : Rankings → List ℕ
crew_best_of L = map (λ i. chosen (ranks L Crew i) (refusals_in (progress_of_all L (size L Crew)) i)) (range_with_len 0 (size L Crew))

-- that is the one crew-best stable plan, so it tells of any plan whether it is
abbrev pub DeferredAcceptanceTellsTheCrewBest : Type 0
DeferredAcceptanceTellsTheCrewBest = (L : Rankings) → Lawful L → (P : List ℕ) → TheCrewBest L P ↔ (crew_best_of L ≡ P)
