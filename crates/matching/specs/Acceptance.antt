-- What deferred acceptance keeps while crews ask and sites answer.
use Rattle.std.specs.Prelude.{◌≡◌, ℕ, suc, ◌-◌, ◌<◌, ◌≤◌, cond, List, length, Some, None, Option, ◌≢◌, nat_lt, slice_index}
use Rattle.lists.specs.Rankings.{Rankings, ranks, place, size}
use Rattle.lists.specs.declared.parties.Side.TheVariants.{Crew, Site}
use Rattle.matching.specs.Answers.{refusals_in, holder_in, rank_in}
use Rattle.matching.specs.Plans.{With}
use Rattle.matching.specs.Stability.{Stable}
use Rattle.matching.specs.Sums.{total}
use Rattle.matching.specs.declared.proposals.Proposals.{Proposals}

-- The state: how many entries have refused each crew, the crew that each site holds plus 1 or 0 for none,
-- and the place of that crew in the site's list. The first n crews have begun, and crew a of them is asking;
-- where a is n, nobody is.
pub record Asking (L : Rankings) (refusals holder rank : ℕ → ℕ) (n a : ℕ) : Type 0 where
  -- a crew is refused by no more entries than it has
  pub reach : (i : ℕ) → refusals i ≤ length (ranks L Crew i)
  -- a crew that has begun and is not asking is held by the next entry, where one is left
  pub engaged : (i : ℕ) → i < n → (i ≢ a) → refusals i < length (ranks L Crew i) →
      holder (slice_index (ranks L Crew i) (refusals i)) ≡ suc i
  -- whom a site holds: a crew that has begun, does not ask, and has come to that site in its list
  pub begun : (j i : ℕ) → holder j ≡ suc i → i < n
  pub answered : (j i : ℕ) → holder j ≡ suc i → i ≢ a
  pub asked : (j i : ℕ) → holder j ≡ suc i → refusals i < length (ranks L Crew i)
  pub holds : (j i : ℕ) → holder j ≡ suc i → slice_index (ranks L Crew i) (refusals i) ≡ j
  -- the place noted is that of the crew held
  pub noted : (j i : ℕ) → holder j ≡ suc i → rank j ≡ place (ranks L Site j) i
  -- a site that has refused a crew holds one that it ranks before
  pub refused : (i k : ℕ) → k < refusals i →
      (b : ℕ) × (holder (slice_index (ranks L Crew i) k) ≡ suc b) × (place (ranks L Site (slice_index (ranks L Crew i) k)) b < place (ranks L Site (slice_index (ranks L Crew i) k)) i)
  -- no crew is refused by a site that it has in some stable plan
  pub unlost : (Q : List ℕ) → Stable L Q → (i k : ℕ) → k < refusals i → With Q Crew i (slice_index (ranks L Crew i) k) → ⊥

-- the same of the state as the program holds it, with room for 500 crews and 500 sites
pub record AskingIn (L : Rankings) (p : Proposals) (n a : ℕ) : Type 0 where
  pub crews : length p.refusals ≡ 500
  pub sites : length p.holds ≡ 500
  pub state : Asking L (refusals_in p) (holder_in p) (rank_in p) n a

-- a crew that has begun is asking
pub record Asks (L : Rankings) (p : Proposals) (n a : ℕ) : Type 0 where
  pub begun : a < n
  pub sized : n ≤ size L Crew
  pub asking : AskingIn L p n a

-- how many entries have not refused their crew yet
abbrev pub unrefused : Rankings → Proposals → ℕ
unrefused L p = total (size L Crew) (λ i. length (ranks L Crew i) - refusals_in p i)

-- what a turn of the one asking leaves: nobody asking, or one that was refused
abbrev pub Turned : Rankings → ℕ → ℕ → Proposals → Option ℕ → Type 0
Turned L n before p None = AskingIn L p n n
Turned L n before p (Some x) = Asks L p n x × (unrefused L p < before)

-- what a crew has in the end: the entry that has not refused it, plus 1, or 0 where all have
abbrev pub chosen : List ℕ → ℕ → ℕ
chosen xs k = cond (nat_lt k (length xs)) (suc (slice_index xs k)) 0

-- a plan that gives every crew what it has in the end
pub record Outcome (L : Rankings) (refusals : ℕ → ℕ) (P : List ℕ) : Type 0 where
  pub whole : length P ≡ size L Crew
  pub each : (i : ℕ) → i < length P → slice_index P i ≡ chosen (ranks L Crew i) (refusals i)
