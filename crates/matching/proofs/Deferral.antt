-- Deferred acceptance on lists alone gives the one crew-best stable plan, so there always is one.
use Rattle.std.proofs.Common.{ℕ, zero, suc, ◌-◌, ◌<◌, ◌≤◌, ltb, List, length, Some, None, Option, sym, refl, subst, arith}
use Rattle.std.proofs.lemmas.List.FromFn.{length-map-range_with_len, get_or-map-range_with_len}
use Rattle.std.proofs.lemmas.Bool.{cond_both, ltb-true, ltb-false}
use Rattle.lists.specs.Rankings.{Rankings, Lawful, ranks, size}
use Rattle.lists.specs.declared.parties.Side.TheVariants.{Crew}
use Rattle.matching.specs.Acceptance.{AskingIn, Asks, Turned, unrefused, chosen}
use Rattle.matching.specs.Answers.{unasked, refusals_in}
use Rattle.matching.specs.Deferred.{asks, asks_at, refuses, answered, going_on, progress_of_chain, progress_of_all, entry_count, crew_best_of, DeferredAcceptanceTellsTheCrewBest}
use Rattle.matching.specs.declared.proposals.Proposals.{Proposals}
use Rattle.matching.specs.Stability.{TheCrewBest}
use Rattle.matching.specs.StableCalls.{Found}
use Rattle.matching.proofs.Finish.{best_in_the_end}
use Rattle.matching.proofs.Turns.{turn_ends, turn_answered, begins, untouched}
use Rattle.matching.proofs.Totals.{total_le}

-- nobody is asking any more
abbrev Quiet : Rankings → ℕ → Proposals → Type 0
Quiet L n p = AskingIn L p n n

module _ (L : Rankings) (lawful : Lawful L) (n : ℕ) where
  -- after an answer: nobody is refused, or the next one asks on
  goes_on : (before : ℕ) (p : Proposals) (on : ℕ → Proposals) (r : Option ℕ) → Turned L n before p r →
      ((x : ℕ) → Asks L p n x → unrefused L p < before → Quiet L n (on x)) → Quiet L n (going_on r p on)
  goes_on before p on None quiet next = quiet
  goes_on before p on (Some x) turned next = next x turned.0 turned.1

  chain_ends : (turns : ℕ) (p : Proposals) (a : ℕ) → Asks L p n a → unrefused L p < turns → Quiet L n (progress_of_chain turns L p a)
  chain_ends zero p a before few = absurd (omega arith)
  chain_ends (suc turns) p a before few =
      let on = progress_of_chain turns L (answered L p a) in
      cond_both (ltb (refusals_in p a) (length (ranks L Crew a))) (going_on (refuses L p a) (answered L p a) on) p (Quiet L n)
      (λ t. goes_on (unrefused L p) (answered L p a) on (refuses L p a)
      (turn_answered L lawful p n a before (asks L p a) (asks_at L p a) (ltb-true (refusals_in p a) (length (ranks L Crew a)) t) refl refl)
      (λ x next less. chain_ends turns (answered L p a) x next (omega arith)))
      (λ f. turn_ends L lawful p n a before (ltb-false (refusals_in p a) (length (ranks L Crew a)) f))

all_quiet : (L : Rankings) → Lawful L → (n : ℕ) → n ≤ size L Crew → Quiet L n (progress_of_all L n)
all_quiet L lawful zero h = untouched L unasked refl
all_quiet L lawful (suc n) h =
    let p = progress_of_all L n in
    chain_ends L lawful (suc n) (suc (entry_count L)) p n (begins L p n (omega arith) (all_quiet L lawful n (omega arith)))
    (let most = total_le (size L Crew) (λ i. length (ranks L Crew i) - refusals_in p i) (λ i. length (ranks L Crew i)) (λ i _. omega arith) in omega arith)

pub deferred_best : (L : Rankings) → Lawful L → TheCrewBest L (crew_best_of L)
deferred_best L lawful =
    let p = progress_of_all L (size L Crew) in
    let long = length-map-range_with_len (λ i. chosen (ranks L Crew i) (refusals_in p i)) 0 (size L Crew) in
    best_in_the_end L lawful p (crew_best_of L) (all_quiet L lawful (size L Crew) (omega arith)) (record {
      whole = long;
      each = λ i h. get_or-map-range_with_len (λ i. chosen (ranks L Crew i) (refusals_in p i)) 0 (size L Crew) i i 0 (omega arith) (omega arith);
    })

-- whatever is crew-best is what deferred acceptance finds
pub found : (L : Rankings) → Lawful L → (P : List ℕ) → TheCrewBest L P → Found L P
found L lawful P best = record { best = best; is = sym (best.alone (crew_best_of L) (deferred_best L lawful).crew_best) }

pub deferred_tells : DeferredAcceptanceTellsTheCrewBest
deferred_tells L lawful P = (
  (λ best. sym (found L lawful P best).is),
  (λ e. subst (TheCrewBest L) e (deferred_best L lawful)),
)
