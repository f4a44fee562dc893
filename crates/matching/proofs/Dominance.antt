-- What levels show of a plan: how far it leads every other, and whom it places.
use Rattle.std.proofs.Common.{◌≡◌, ℕ, zero, suc, ◌≤◌, Bool, true, false, cond, not, ◌&&◌, ltb, List, get_or, ℤ, pos, negsuc, ◌+ℤ◌, neg_ℤ, ◌≤ℤ◌, sym, refl, ap, ◌∙◌, ⊎_elim, arith}
use Rattle.std.proofs.lemmas.Int.{ints}
use Rattle.std.proofs.lemmas.Bool.{cases_eq}
use Rattle.std.proofs.lemmas.Bool.Decides.{nat_tests}
use Rattle.lists.specs.Rankings.{Rankings, ranks, size}
use Rattle.lists.specs.declared.parties.Side.{Side}
use Rattle.lists.specs.declared.parties.Side.TheVariants.{Crew, Site}
use Rattle.matching.specs.Levels.{Apart, LevelRules, level_of, level_held, favours}
use Rattle.matching.specs.Plans.{With, PlanOn, partner_of, placed}
use Rattle.matching.specs.Leads.{LevelledPlanLeads, LevelledPlanIsDominant, LevelledPlansPlaceTheSame}
use Rattle.matching.specs.Sums.{tally}
use Rattle.matching.specs.Votes.{vote, missed_of, missed, lead}
use Rattle.matching.proofs.Balances.{at, balance_bound, balance_pairs}
use Rattle.matching.proofs.Ballots.{vote_same, vote_apart, lead_turned}
use Rattle.matching.proofs.Partners.{partners, partner_with, with_partner, with_names, partner_names, naming, placed_within}
use Rattle.matching.proofs.Totals.{total_bound, total_zero}

-- what a level weighs
abbrev weight : ℕ → ℤ
weight zero = pos 1
weight (suc k) = negsuc 0

-- the two votes of a pair outside the plan, where the crew has level a and the site b
votes_bound : (a b : ℕ) (for against : Bool) → a ≤ 1 →
    (for ≡ true → against ≡ true → (a ≡ 0) × (b ≡ 1)) → (a ≡ 1 → b ≡ 0 → (for ≡ false) × (against ≡ false)) →
    ((cond for (pos 1) (negsuc 0) +ℤ cond against (pos 1) (negsuc 0)) +ℤ weight b) ≤ℤ weight a
votes_bound zero zero true true few both neither = absurd (omega (arith, (both refl refl).1))
votes_bound zero zero true false few both neither = omega (arith, ints)
votes_bound zero zero false against few both neither = grind (arith, ints)
votes_bound zero (suc b) for against few both neither = grind (arith, ints)
votes_bound (suc a) zero for against few both neither =
    let e = neither (omega arith) refl in rw (e.0, e.1) (omega (arith, ints))
votes_bound (suc a) (suc b) true true few both neither = absurd (omega (arith, (both refl refl).0))
votes_bound (suc a) (suc b) true false few both neither = omega (arith, ints)
votes_bound (suc a) (suc b) false against few both neither = grind (arith, ints)

weight_low : (k : ℕ) → negsuc 0 ≤ℤ weight k
weight_low zero = omega (arith, ints)
weight_low (suc k) = omega (arith, ints)

weight_high : (k : ℕ) → weight k ≤ℤ pos 1
weight_high zero = omega (arith, ints)
weight_high (suc k) = omega (arith, ints)

-- 1 for a party that has the first of two partners and not the second, both written as in a plan
abbrev gains : ℕ → ℕ → ℕ
gains q p = cond (ltb 0 q && not (ltb 0 p)) 1 0

-- a crew's vote for q against p, where its level weighs a
crew_bound : (xs : List ℕ) (q p k : ℕ) → (p ≡ 0 → k ≡ 1) →
    ((vote xs q p +ℤ pos (gains q p)) +ℤ at q (λ _. weight k +ℤ neg_ℤ (vote xs q p))) ≤ℤ at p (λ _. weight k)
crew_bound xs zero zero k out = omega (arith, ints)
crew_bound xs zero (suc p) k out = let low = weight_low k in grind (arith, ints, nat_tests)
crew_bound xs (suc q) zero k out = let e = ap weight (out refl) in grind (arith, ints, nat_tests)
crew_bound xs (suc q) (suc p) k out = grind (arith, ints, nat_tests)

-- a site's vote for q against p, where v are the crews' votes
site_bound : (xs K : List ℕ) (v : ℕ → ℤ) (q p : ℕ) →
    ((i : ℕ) → q ≡ suc i → ((v i +ℤ vote xs q p) +ℤ weight (level_held K p)) ≤ℤ weight (get_or K i 0)) →
    ((vote xs q p +ℤ pos (gains q p)) +ℤ at p (λ i. weight (get_or K i 0))) ≤ℤ at q (λ i. weight (get_or K i 0) +ℤ neg_ℤ (v i))
site_bound xs K v zero zero pair = omega (arith, ints)
site_bound xs K v zero (suc p) pair = let high = weight_high (get_or K p 0) in grind (arith, ints, nat_tests)
site_bound xs K v (suc q) zero pair = let bound = pair q refl in grind (arith, ints, nat_tests)
site_bound xs K v (suc q) (suc p) pair = let bound = pair q refl in grind (arith, ints, nat_tests)

module _ (L : Rankings) (P K Q : List ℕ) (plan : PlanOn L P) (rules : LevelRules L P K) (rival : PlanOn L Q) where
  -- the vote of a party for the rival
  abbrev against : Side → ℕ → ℤ
  against s i = vote (ranks L s i) (partner_of Q s i) (partner_of P s i)

  -- the two votes of a pair of the rival
  pair_bound : (i j : ℕ) → With Q Crew i j → ((against Crew i +ℤ against Site j) +ℤ weight (level_of P K Site j)) ≤ℤ weight (get_or K i 0)
  pair_bound i j w = ⊎_elim shared apart (cases_eq (get_or P i 0) (suc j))
    where
      shared : With P Crew i j → ((against Crew i +ℤ against Site j) +ℤ weight (level_of P K Site j)) ≤ℤ weight (get_or K i 0)
      shared v =
          let crew : against Crew i ≡ pos 0 = ap (λ q. vote (ranks L Crew i) q (get_or P i 0)) (w ∙ sym v) ∙ vote_same (ranks L Crew i) (get_or P i 0) in
          let mine = with_partner L P plan Site j i v in
          let yours = with_partner L Q rival Site j i w in
          let site : against Site j ≡ pos 0 = ap (λ q. vote (ranks L Site j) q (partner_of P Site j)) (yours ∙ sym mine) ∙ vote_same (ranks L Site j) (partner_of P Site j) in
          let level : weight (level_of P K Site j) ≡ weight (get_or K i 0) = ap (λ p. weight (level_held K p)) mine in
          omega (arith, ints)

      -- the vote of one of two whom the rival pairs and the plan does not
      strict : (s : Side) (a b : ℕ) → With Q s a b → (With P s a b → ⊥) → against s a ≡ cond (favours L P s a b) (pos 1) (negsuc 0)
      strict s a b u d =
          ap (λ q. vote (ranks L s a) q (partner_of P s a)) (with_partner L Q rival s a b u)
          ∙ vote_apart (ranks L s a) b (partner_of P s a) (with_names L Q rival s a b u) (λ k. partner_names L P plan s a k) (λ e. d (partner_with P s a b e))

      apart : (With P Crew i j → ⊥) → ((against Crew i +ℤ against Site j) +ℤ weight (level_of P K Site j)) ≤ℤ weight (get_or K i 0)
      apart d =
          let outside : Apart L P i j = record { listed = rival.listed i j w; outside = d } in
          let crew = strict Crew i j w d in
          let site = strict Site j i w d in
          let bound = votes_bound (get_or K i 0) (level_of P K Site j) (favours L P Crew i j) (favours L P Site j i)
          (rules.binary i (naming L Crew i j (rival.listed i j w).0)) (rules.both_for i j outside) (rules.neither_for i j outside) in
          omega (arith, ints)

  -- what the rival leads by, with the parties that only it places
  rival_bound : (lead L Q P +ℤ pos (missed L P Q)) ≤ℤ pos 0
  rival_bound =
      let mine : ℕ → ℕ → ℤ = λ i j. weight (get_or K i 0) in
      let yours : ℕ → ℕ → ℤ = λ i j. weight (get_or K i 0) +ℤ neg_ℤ (against Crew i) in
      let crews = balance_bound (size L Crew) (against Crew) (λ i. at (partner_of Q Crew i) (yours i)) (λ i. at (partner_of P Crew i) (mine i)) (λ i. gains (partner_of Q Crew i) (partner_of P Crew i))
      (λ i h. crew_bound (ranks L Crew i) (partner_of Q Crew i) (partner_of P Crew i) (get_or K i 0) (rules.is_left_out i h)) in
      let sites = balance_bound (size L Site) (against Site) (λ j. at (partner_of P Site j) (λ i. mine i j)) (λ j. at (partner_of Q Site j) (λ i. yours i j)) (λ j. gains (partner_of Q Site j) (partner_of P Site j))
      (λ j h. site_bound (ranks L Site j) K (against Crew) (partner_of Q Site j) (partner_of P Site j) (λ i e. pair_bound i j (partner_with Q Site j i e))) in
      let plans = balance_pairs (size L Crew) (size L Site) (partner_of P Crew) (partner_of P Site) (partners L P plan) mine in
      let rivals = balance_pairs (size L Crew) (size L Site) (partner_of Q Crew) (partner_of Q Site) (partners L Q rival) yours in
      omega (arith, ints)

pub levelled_leads : LevelledPlanLeads
levelled_leads L P K Q plan rules rival =
    let bound = rival_bound L P K Q plan rules rival in
    let turned = lead_turned L P Q in
    omega (arith, ints)

pub levelled_dominant : LevelledPlanIsDominant
levelled_dominant L P K plan rules = record {
  plan = plan;
  unbeaten = λ Q rival loses. let leads = levelled_leads L P K Q plan rules rival in omega (arith, ints);
  ahead = λ Q rival more.
      let leads = levelled_leads L P K Q plan rules rival in
      let crews = total_bound (size L Crew) (λ i. cond (placed Q Crew i) 1 0) (λ i. cond (placed P Crew i) 1 0) (λ i. gains (get_or Q i 0) (get_or P i 0)) (λ i _. grind (arith, nat_tests)) in
      let mine = ap (λ n. tally n (placed P Crew)) plan.whole in
      let yours = ap (λ n. tally n (placed Q Crew)) rival.whole in
      omega (arith, ints);
}

-- a plan that misses nobody whom another places
module _ (L : Rankings) (P Q : List ℕ) (rival : PlanOn L Q) (none : missed L P Q ≡ 0) where
  missed_none : (s : Side) → missed_of L P Q s ≡ 0
  missed_none Crew = omega arith
  missed_none Site = omega arith

  kept_placed : (s : Side) (i : ℕ) → placed Q s i ≡ true → placed P s i ≡ true
  kept_placed s i e =
      let within = placed_within L Q rival s i e in
      let zero-here = total_zero (size L s) (λ k. gains (partner_of Q s k) (partner_of P s k)) (missed_none s) i within in
      kept (placed Q s i) (placed P s i) e zero-here
    where
      kept : (q p : Bool) → q ≡ true → ◌≡◌ {A = ℕ} (cond (q && not p) 1 0) 0 → p ≡ true
      kept q true e z = refl
      kept true false e z = absurd (omega arith)
      kept false false e z = e

pub levelled_same : LevelledPlansPlaceTheSame
levelled_same L P K Q M plan rules rival others s i =
    let mine = levelled_leads L P K Q plan rules rival in
    let yours = levelled_leads L Q M P rival others plan in
    let turned = lead_turned L P Q in
    let there : missed L P Q ≡ 0 = omega (arith, ints) in
    let back : missed L Q P ≡ 0 = omega (arith, ints) in
    same (placed P s i) (placed Q s i) (kept_placed L Q P plan back s i) (kept_placed L P Q rival there s i)
  where
    same : (a b : Bool) → (a ≡ true → b ≡ true) → (b ≡ true → a ≡ true) → a ≡ b
    same true b f g = sym (f refl)
    same false true f g = g refl
    same false false f g = refl
