-- When nobody is asking, what the crews have is the crew-best stable plan, and there is only one.
use Rattle.std.proofs.Common.{◌≡◌, ℕ, zero, suc, ◌<◌, ◌≤◌, ltb, List, length, get_or, sym, refl, ap, ◌∙◌, ⊎_elim, arith}
use Rattle.std.proofs.lemmas.List.{ext_get_or}
use Rattle.std.proofs.lemmas.Bool.{cases_lt, lt-ltb, le-ltb, cond-true, cond-false}
use Rattle.lists.specs.Rankings.{Rankings, Lawful, Names, ranks, place, size}
use Rattle.lists.specs.Evidence.Places.{get_or_place, place_first}
use Rattle.lists.specs.declared.parties.Side.TheVariants.{Crew}
use Rattle.matching.specs.Plans.{With, PlanOn}
use Rattle.matching.specs.Stability.{Blocks, Stable, CrewBest, TheCrewBest}
use Rattle.matching.specs.Acceptance.{Asking, AskingIn, Outcome, chosen}
use Rattle.matching.specs.Answers.{refusals_in, holder_in, rank_in}
use Rattle.matching.specs.declared.proposals.Proposals.{Proposals}
use Rattle.matching.proofs.Partners.{within_plan, naming}
use Rattle.matching.proofs.Steps.{listed_entry}

chosen_some : (xs : List ℕ) (k : ℕ) → k < length xs → chosen xs k ≡ suc (get_or xs k 0)
chosen_some xs k h = cond-true (ltb k (length xs)) (suc (get_or xs k 0)) 0 (lt-ltb k (length xs) h)

chosen_none : (xs : List ℕ) (k : ℕ) → length xs ≤ k → chosen xs k ≡ 0
chosen_none xs k h = cond-false (ltb k (length xs)) (suc (get_or xs k 0)) 0 (le-ltb k (length xs) h)

module _ (L : Rankings) (lawful : Lawful L) (refusals holder rank : ℕ → ℕ) (n : ℕ) (P : List ℕ)
    (quiet : Asking L refusals holder rank n n) (all : size L Crew ≡ n) (out : Outcome L refusals P) where
  -- a pair of the plan is an entry that has not refused
  has_entry : (i j : ℕ) → With P Crew i j → (refusals i < length (ranks L Crew i)) × (get_or (ranks L Crew i) (refusals i) 0 ≡ j) × (i < n)
  has_entry i j w =
      let xs = ranks L Crew i in
      let here = within_plan P i j w in
      let is : chosen xs (refusals i) ≡ suc j = sym (out.each i here) ∙ w in
      let few = out.whole in
      ⊎_elim
      (λ h. (h, (let e = chosen_some xs (refusals i) h in omega arith), omega arith))
      (λ h. absurd (let e = chosen_none xs (refusals i) h in omega arith))
      (cases_lt (refusals i) (length xs))

  -- an entry that has not refused is a pair of the plan
  entry_had : (i : ℕ) → i < n → refusals i < length (ranks L Crew i) → With P Crew i (get_or (ranks L Crew i) (refusals i) 0)
  entry_had i h m = let few = out.whole in out.each i (omega arith) ∙ chosen_some (ranks L Crew i) (refusals i) m

  holder_of : (i j : ℕ) → With P Crew i j → holder j ≡ suc i
  holder_of i j w = let e = has_entry i j w in
      rw e.1 at (quiet.engaged i e.2 (λ f. let g = e.2 in omega arith) e.0)

  -- a crew that names a site has begun
  naming_begun : (i j : ℕ) → Names L Crew i j → i < n
  naming_begun i j h = let m = naming L Crew i j h in omega arith

  ends_plan : PlanOn L P
  ends_plan = record {
    whole = out.whole;
    listed = λ i j w. let e = has_entry i j w in rw e.1 at (listed_entry L lawful i (refusals i) e.0);
    single = λ j i k w v. let a = holder_of i j w in let b = holder_of k j v in omega arith;
  }

  ends_steady : (i j : ℕ) → Blocks L P i j → ⊥
  ends_steady i j blocks = ⊎_elim beaten unasked (cases_lt (place (ranks L Crew i) j) (refusals i))
    where
      -- the site has refused i for a crew that it ranks before
      beaten : place (ranks L Crew i) j < refusals i → ⊥
      beaten h =
          let xs = ranks L Crew i in
          let old = quiet.refused i (place xs j) h in
          let is : get_or xs (place xs j) 0 ≡ j = get_or_place xs j blocks.0.0 in
          let held : holder j ≡ suc old.0 = rw is at old.1 in
          let before = rw is at old.2 in
          let pair : With P Crew old.0 j = rw (quiet.holds j old.0 held) at (entry_had old.0 (quiet.begun j old.0 held) (quiet.asked j old.0 held)) in
          omega (arith, blocks.2 old.0 pair)

      -- the crew has an entry at or before j
      unasked : refusals i ≤ place (ranks L Crew i) j → ⊥
      unasked h =
          let xs = ranks L Crew i in
          let named = blocks.0.0 in
          let m : refusals i < length xs = omega arith in
          let first = place_first xs (get_or xs (refusals i) 0) (refusals i) m refl in
          omega (arith, blocks.1 (get_or xs (refusals i) 0) (entry_had i (naming_begun i j named) m))

  ends_best : (Q : List ℕ) → Stable L Q → (i j : ℕ) → With Q Crew i j →
      (k : ℕ) × With P Crew i k × (place (ranks L Crew i) k ≤ place (ranks L Crew i) j)
  ends_best Q stable i j w =
      let xs = ranks L Crew i in
      let named = (stable.plan.listed i j w).0 in
      ⊎_elim
      (λ h. absurd (quiet.unlost Q stable i (place xs j) h (rw (get_or_place xs j named) w)))
      (λ h. let m : refusals i < length xs = omega arith in
      let first = place_first xs (get_or xs (refusals i) 0) (refusals i) m refl in
      (get_or xs (refusals i) 0, entry_had i (naming_begun i j named) m, omega arith))
      (cases_lt (place xs j) (refusals i))

  pub crew_best_in_the_end : CrewBest L P
  crew_best_in_the_end = record { stable = record { plan = ends_plan; steady = ends_steady }; best = ends_best }

-- what one crew-best plan gives a crew, the other gives too
shared : (L : Rankings) (P Q : List ℕ) → CrewBest L P → CrewBest L Q → (i j : ℕ) → With Q Crew i j → With P Crew i j
shared L P Q p q i j w =
    let xs = ranks L Crew i in
    let mine = p.best Q q.stable i j w in
    let yours = q.best P p.stable i mine.0 mine.1 in
    let same : yours.0 ≡ j = omega (arith, yours.1, w) in
    let back : place xs j ≤ place xs mine.0 = rw same at yours.2 in
    let level : place xs mine.0 ≡ place xs j = omega (arith, mine.2) in
    let listed = (p.stable.plan.listed i mine.0 mine.1).0 in
    let named = (q.stable.plan.listed i j w).0 in
    let is : mine.0 ≡ j = sym (get_or_place xs mine.0 listed) ∙ ap (λ v. get_or xs v 0) level ∙ get_or_place xs j named in
    rw is at mine.1

pub one_crew_best : (L : Rankings) (P Q : List ℕ) → CrewBest L P → CrewBest L Q → P ≡ Q
one_crew_best L P Q p q = ext_get_or 0 P Q (p.stable.plan.whole ∙ sym q.stable.plan.whole) (λ i _. same i (get_or P i 0) (get_or Q i 0) refl refl)
  where
    none : (i a : ℕ) → get_or P i 0 ≡ a → get_or Q i 0 ≡ zero → a ≡ zero
    none i zero e f = refl
    none i (suc a) e f = let w = shared L Q P q p i a e in omega arith

    same : (i a b : ℕ) → get_or P i 0 ≡ a → get_or Q i 0 ≡ b → a ≡ b
    same i a zero e f = none i a e f
    same i a (suc b) e f = sym e ∙ shared L P Q p q i b f

pub the_crew_best : (L : Rankings) (P : List ℕ) → CrewBest L P → TheCrewBest L P
the_crew_best L P p = record { crew_best = p; alone = λ Q q. one_crew_best L Q P q p }

-- the same of the state as the program holds it, when all have begun and nobody is asking
pub best_in_the_end : (L : Rankings) → Lawful L → (p : Proposals) (P : List ℕ) → AskingIn L p (size L Crew) (size L Crew) → Outcome L (refusals_in p) P → TheCrewBest L P
best_in_the_end L lawful p P quiet out =
    the_crew_best L P (crew_best_in_the_end L lawful (refusals_in p) (holder_in p) (rank_in p) (size L Crew) P quiet.state refl out)
