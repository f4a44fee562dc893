-- A turn of the crew that asks, on the state as the program holds it.
use Rattle.std.proofs.Common.{◌≡◌, ℕ, suc, ◌-◌, ◌<◌, ◌≤◌, Bool, true, false, cond, ltb, ◌⊎◌, List, length, get_or, set, replicate, Some, None, Option, sym, refl, ap, ◌∙◌, subst, inl, inr, ⊎_elim, arith, length-set}
use Rattle.std.proofs.lemmas.List.{get_or-set_same, get_or-set_other}
use Rattle.std.proofs.lemmas.Grind.{common_steps}
use Rattle.std.proofs.lemmas.Bool.{ltb-true, ltb-false}
use Rattle.lists.specs.Rankings.{Rankings, Lawful, Names, ranks, place, size}
use Rattle.lists.specs.Evidence.Places.{get_or_place}
use Rattle.lists.specs.declared.parties.Side.TheVariants.{Crew, Site}
use Rattle.matching.specs.Acceptance.{AskingIn, Asks, Turned, unrefused}
use Rattle.matching.specs.Answers.{refused_of, kept_of, counted, held_by, held_at, unasked, refusals_in, hold_in, holder_in, rank_in, asked_of, HasRoom}
use Rattle.matching.specs.declared.proposals.Hold.{Hold}
use Rattle.matching.specs.declared.proposals.Proposals.{Proposals}
use Rattle.lists.proofs.Pigeonhole.{length_few}
use Rattle.matching.proofs.Steps.{listed_entry, refused_step, taken_step, given_up, one_begins, nobody_begun}
use Rattle.matching.proofs.Totals.{total_falls}

module _ (L : Rankings) (lawful : Lawful L) (p : Proposals) (n a : ℕ) (before : Asks L p n a) where
  -- no entry is left
  pub turn_ends : length (ranks L Crew a) ≤ refusals_in p a → AskingIn L p n n
  turn_ends all = let in-state = before.asking in record {
    crews = in-state.crews;
    sites = in-state.sites;
    state = given_up L (refusals_in p) (holder_in p) (rank_in p) n a in-state.state all;
  }

  module _ (j r : ℕ) (left : refusals_in p a < length (ranks L Crew a)) (at : j ≡ get_or (ranks L Crew a) (refusals_in p a) 0)
      (ranked : r ≡ place (ranks L Site j) a) where
    pub listed : Names L Site j a
    listed = rw at (listed_entry L lawful a (refusals_in p a) left).1

    pub site_within : j < 500
    site_within =
        let few = lawful.few Site in
        let w = lawful.within Crew a (refusals_in p a) left in
        omega arith

    fits : j < length p.holds
    fits = omega (arith, site_within, before.asking.sites)

    -- the state with another crew that the site holds
    abbrev holding : Hold → List ℕ → Proposals
    holding k refusals = record { refusals = refusals; holds = set p.holds j (Some k) }

    hold_here : (k : Hold) (refusals : List ℕ) → hold_in (holding k refusals) j ≡ Some k
    hold_here k refusals = get_or-set_same p.holds j (Some k) None fits

    hold_there : (k : Hold) (refusals : List ℕ) (s : ℕ) → (s ≡ j → ⊥) → hold_in (holding k refusals) s ≡ hold_in p s
    hold_there k refusals s d = get_or-set_other p.holds j s (Some k) None d

    -- the site holds nobody and takes the crew
    free : hold_in p j ≡ None → AskingIn L (holding (record { crew = a; place = r }) p.refusals) n n
    free e =
        let in-state = before.asking in
        let k : Hold = record { crew = a; place = r } in
        let after = holding k p.refusals in
        record {
          crews = in-state.crews;
          sites = length-set p.holds j (Some k) ∙ in-state.sites;
          state = taken_step L (refusals_in p) (holder_in p) (rank_in p) (holder_in after) (rank_in after)
              n a j in-state.state (ap held_by e) (ap held_by (hold_here k p.refusals)) (λ s d. ap held_by (hold_there k p.refusals s d))
              (ap held_at (hold_here k p.refusals) ∙ ranked) (λ s d. ap held_at (hold_there k p.refusals s d)) before.begun left (sym at);
        }

    -- the site holds a crew
    module _ (h : Hold) (e : hold_in p j ≡ Some h) where
      held : holder_in p j ≡ suc h.crew
      held = ap held_by e

      -- one crew is refused for another
      module _ (x y : ℕ) (k : Hold) (x-begun : x < n) (y-begun : y < n) (apart : x ≡ y → ⊥)
          (x-left : refusals_in p x < length (ranks L Crew x)) (x-at : get_or (ranks L Crew x) (refusals_in p x) 0 ≡ j)
          (y-left : refusals_in p y < length (ranks L Crew y)) (y-at : get_or (ranks L Crew y) (refusals_in p y) 0 ≡ j)
          (better : place (ranks L Site j) y < place (ranks L Site j) x)
          (kept-crew : k.crew ≡ y) (kept-place : k.place ≡ place (ranks L Site j) y)
          (asker : (i : ℕ) → (i ≡ x → ⊥) → (i ≡ y → ⊥) → i ≡ a → ⊥)
          (either : (h.crew ≡ x) ⊎ (h.crew ≡ y))
          (nowhere-else : (s : ℕ) → (s ≡ j → ⊥) → holder_in p s ≡ suc x → ⊥) where
        abbrev more : List ℕ
        more = counted p.refusals (Some x)

        abbrev after : Proposals
        after = holding k more

        x_within : x < length p.refusals
        x_within = let few = lawful.few Crew in let sized = before.sized in omega (arith, before.asking.crews)

        one_more : refusals_in after x ≡ suc (refusals_in p x)
        one_more = get_or-set_same p.refusals x (suc (refusals_in p x)) 0 x_within

        as-often : (i : ℕ) → (i ≡ x → ⊥) → refusals_in after i ≡ refusals_in p i
        as-often i d = get_or-set_other p.refusals x i (suc (refusals_in p x)) 0 d

        again : AskingIn L after n x
        again =
            let in-state = before.asking in
            record {
              crews = length-set p.refusals x (suc (refusals_in p x)) ∙ in-state.crews;
              sites = length-set p.holds j (Some k) ∙ in-state.sites;
              state = refused_step L lawful (refusals_in p) (holder_in p) (rank_in p) (refusals_in after) (holder_in after) (rank_in after)
                  n a j x y in-state.state one_more as-often
                  (ap held_by (hold_here k more) ∙ ap suc kept-crew) (λ s d. ap held_by (hold_there k more s d))
                  (ap held_at (hold_here k more) ∙ kept-place) (λ s d. ap held_at (hold_there k more s d))
                  apart y-begun x-left x-at y-left y-at better asker
                  (λ i t. let same : h.crew ≡ i = omega (arith, held, t) in ⊎_elim (λ m. inl (sym same ∙ m)) (λ m. inr (sym same ∙ m)) either)
                  (λ i t. let same : h.crew ≡ i = omega (arith, held, t) in
                  ⊎_elim (λ m. subst (λ v. place (ranks L Site j) y ≤ place (ranks L Site j) v) (sym m ∙ same) (omega arith))
                  (λ m. subst (λ v. place (ranks L Site j) y ≤ place (ranks L Site j) v) (sym m ∙ same) (omega arith)) either)
                  nowhere-else;
            }

        fewer : unrefused L after < unrefused L p
        fewer = total_falls (size L Crew) (λ i. length (ranks L Crew i) - refusals_in p i) (λ i. length (ranks L Crew i) - refusals_in after i) x
            (let sized = before.sized in omega arith)
            (omega (arith, one_more))
            (λ i d. ap (λ v. length (ranks L Crew i) - v) (as-often i d))

        refused : Turned L n (unrefused L p) after (Some x)
        refused = (record { begun = x-begun; sized = before.sized; asking = again }, fewer)

      contested : (t : Bool) → ltb h.place r ≡ t →
          Turned L n (unrefused L p) (record { refusals = counted p.refusals (Some (cond t a h.crew)); holds = set p.holds j (cond t (Some h) (Some (record { crew = a; place = r }))) }) (Some (cond t a h.crew))
      contested true later =
          let old = before.asking.state in
          let b = h.crew in
          let place-held : h.place ≡ place (ranks L Site j) b = sym (ap held_at e) ∙ old.noted j b held in
          let sooner = ltb-true h.place r later in
          refused a b h before.begun (old.begun j b held) (λ f. old.answered j b held (sym f)) left (sym at) (old.asked j b held) (old.holds j b held)
          (omega arith) refl place-held (λ i d _. d) (inr refl) (λ s _ f. old.answered s a f refl)
      contested false later =
          let old = before.asking.state in
          let b = h.crew in
          let place-held : h.place ≡ place (ranks L Site j) b = sym (ap held_at e) ∙ old.noted j b held in
          let no-sooner = ltb-false h.place r later in
          let apart : b ≡ a → ⊥ = old.answered j b held in
          let b_at = old.holds j b held in
          let b-listed : Names L Site j b = rw b_at at (listed_entry L lawful b (refusals_in p b) (old.asked j b held)).1 in
          let differ : place (ranks L Site j) a ≡ place (ranks L Site j) b → ⊥ =
          λ f. apart (sym (get_or_place (ranks L Site j) b b-listed) ∙ ap (λ v. get_or (ranks L Site j) v 0) (sym f) ∙ get_or_place (ranks L Site j) a listed) in
          refused b a (record { crew = a; place = r }) (old.begun j b held) before.begun apart (old.asked j b held) b_at left (sym at)
          (omega arith) refl ranked (λ i _ d. d) (inl refl) (λ s d f. d (sym (old.holds s b f) ∙ b_at))

    turn_asks : (o : Option Hold) → hold_in p j ≡ o → Turned L n (unrefused L p) (record { refusals = counted p.refusals (refused_of o a r); holds = set p.holds j (kept_of o a r) }) (refused_of o a r)
    turn_asks None e = free e
    turn_asks (Some h) e = contested h e (ltb h.place r) refl

    pub turn_answered : Turned L n (unrefused L p) (asked_of p a j r) (refused_of (hold_in p j) a r)
    turn_answered = turn_asks (hold_in p j) refl

-- what the state's arrays need to be read and written at
module _ (L : Rankings) (lawful : Lawful L) (p : Proposals) (n a : ℕ) (before : Asks L p n a) where
  pub asker_fits : a < 500
  asker_fits = let few = lawful.few Crew in let begun = before.begun in let sized = before.sized in omega arith

  pub count_fits : (i : ℕ) → refusals_in p i < length (ranks L Crew i) → refusals_in p i < 500
  count_fits i left = let few = length_few L lawful Crew i in omega arith

  pub asker_room : refusals_in p a < length (ranks L Crew a) → HasRoom p a
  asker_room left = (asker_fits, count_fits a left)

  pub holder_room : (j : ℕ) (h : Hold) → hold_in p j ≡ Some h → HasRoom p h.crew
  holder_room j h e =
      let old = before.asking.state in
      let few = lawful.few Crew in
      let begun = old.begun j h.crew (ap held_by e) in
      let sized = before.sized in
      (omega arith, count_fits h.crew (old.asked j h.crew (ap held_by e)))

-- the next crew begins to ask
pub begins : (L : Rankings) (p : Proposals) (n : ℕ) → n < size L Crew → AskingIn L p n n → Asks L p (suc n) n
begins L p n within quiet = record {
  begun = omega arith;
  sized = within;
  asking = record {
    crews = quiet.crews;
    sites = quiet.sites;
    state = one_begins L (refusals_in p) (holder_in p) (rank_in p) n quiet.state;
  };
}

replicated : {X : Type 0} (n : ℕ) (x : X) (i : ℕ) → get_or (replicate n x) i x ≡ x
replicated n x i = grind (arith, common_steps)

-- before the first crew begins
pub untouched : (L : Rankings) (p : Proposals) → p ≡ unasked → AskingIn L p 0 0
untouched L p e = rw e (record {
  crews = refl;
  sites = refl;
  state = nobody_begun L (refusals_in unasked) (holder_in unasked) (rank_in unasked) (replicated 500 0) (λ j. ap held_by (replicated 500 None j));
})
